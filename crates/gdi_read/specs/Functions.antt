-- What the private functions of the line reader do.
use Rattle.std.specs.Prelude.{◌≡◌, Bool, true, false, cond, List, ℕ, ◌<◌, length}
use Rattle.row.specs.Dots.{dot_at, row_of}
use Rattle.row.specs.Stretches.{filled}
use Rattle.gdi_jobs.specs.Commands.{Command}
use Rattle.gdi_jobs.specs.Lines.{Line, line, line_dot, LineAnswer, answer_of}

-- a row with the dots from `from` up to, not including, `to` filled where it is to be written
unfoldable pub written_stretch : (write : Bool) (from to : ℕ) (black : Bool) → List ℕ → List ℕ
written_stretch write from to black row = cond write (row_of (length row) (filled from to black (dot_at row))) row

-- A pass over the line l, with a row that is `held` before and `row` after: its answer a; the row stays where it is not to be written; else it has
-- the dots of the line below the width, if l is a line.
pub record Passed (width : ℕ) (l : Line) (write : Bool) (held : List ℕ) (a : LineAnswer) (row : List ℕ) : Type 0 where
  pub answer : a ≡ answer_of l
  pub kept : write ≡ false → row ≡ held
  pub dots : write ≡ true → (cs : List Command) (p left : ℕ) → l ≡ line cs p left → (f : ℕ) → f < width → dot_at row f ≡ line_dot cs f
