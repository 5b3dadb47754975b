-- `film_paint::paint_dots` meets its contract. The loop's invariant: for any mask that says what the closure answers, its dots before j are painted, and
-- the others are as they were. Assumes nothing.
use mathlib.Core.Path.{◌≡◌}
use mathlib.Core.Bool.{Bool}
use Prim.Native.Nat.{ℕ}
use lib.ListN.{length}
use Rattle.row.specs.Dots.{dot_at, row_of}
use Rattle.film_commands.specs.Code.{colour_of}
use Rattle.film_paint.specs.Loops.{Tells}
use Rattle.film_paint.proofs.Lines.{painted_to, part}
use Rattle.film_paint.proofs.paint_dots.Given as goal

abbrev pub invariant-loop-j : goal.invariant-loop-j
invariant-loop-j g l =
    (M : ℕ → Bool) → Tells l.left l.from l.to (goal.F-post g l.mask) M
    → l.row ≡ row_of (length l.initial.row) (painted_to l.j l.left (colour_of l.colour) l.s (part l.from l.to l.left M) (dot_at l.initial.row))
