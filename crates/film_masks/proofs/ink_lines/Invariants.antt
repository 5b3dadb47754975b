-- `film_masks::ink_lines` meets its contract. The loop's invariant: whatever mask and colour the rows are inked with, its lines from s on are left to
-- paint. Assumes nothing.
use Rattle.film_commands.specs.Band.{Colour}
use Rattle.film_imaging.specs.Masks.{Film}
use Rattle.film_masks.specs.Lines.{InksLines}
use Rattle.film_masks.proofs.Lines.{Lined}
use Rattle.film_masks.proofs.ink_lines.Given as goal

abbrev pub invariant-loop-s : goal.invariant-loop-s
invariant-loop-s g l =
    (C : Colour) (M : Film) → InksLines l.fn.frame C M l.first l.end (goal.F-post g l.ink_row) → Lined l.fn.frame C M l.first l.end l.initial.buf l.buf l.s
