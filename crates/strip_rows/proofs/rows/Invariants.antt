-- `strip_rows::rows` meets its contract. Assumes nothing.
use Prim.Native.Nat.{◌*◌}
use mathlib.Core.Path.{◌≡◌}
use lib.ListN.{length}
use Rattle.strip.specs.Dots.{four_dots}
use Rattle.strip_rows.proofs.Laws.{written}
use Rattle.strip_rows.proofs.rows.Given as goal

abbrev pub invariant-loop-i : goal.invariant-loop-i
invariant-loop-i l = (length l.dots ≡ length l.initial.dots) × (l.dots ≡ written (four_dots l.bands l.palette) (2 * l.i) l.initial.dots)
