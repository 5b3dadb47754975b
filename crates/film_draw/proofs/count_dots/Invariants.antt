-- `film_draw::count_dots` meets its contract. The loop's invariant: the rows before this one are counted. Assumes nothing.
use mathlib.Core.Path.{◌≡◌}
use Rattle.row.specs.Counts.{ones_of}
use Rattle.film_draw.proofs.Chunks.{Chunked}
use Rattle.film_draw.proofs.count_dots.Given as goal

abbrev pub invariant-loop-row : goal.invariant-loop-row
invariant-loop-row l = (l.row-iterator.size ≡ l.row_bytes) × Chunked (ones_of l.rows) l.row_bytes l.dots l.row-iterator.rest.now
