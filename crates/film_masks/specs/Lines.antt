-- What the loops over the lines of a band need, and what they ask of the function that inks one row.
use Rattle.std.specs.Prelude.{◌≡◌, false, List, ℕ, ◌*◌, ◌≤◌, ◌<◌, ⊤, length}
use Rattle.film_commands.specs.Band.{Colour}
use Rattle.film_herald.specs.Herald.{row_length}
use Rattle.film_imaging.specs.Masks.{Film}
use Rattle.film_paint.specs.Rows.{window_of, painted_row}
use Rattle.film_paint.specs.declared.Frame.{Frame}
use Rattle.film_masks.specs.Bands.{painted_frame}
use denote.Ref.{MutBor}

-- the buffer has the bytes of the frame's rows
abbrev pub HasRows : Frame → (buf : List ℕ) → Type 0
HasRows frame buf = frame.rows * row_length frame.width ≤ length buf

-- a row may be inked for each line from `first` up to, not including, `end`
abbrev pub TakesLines : (first end : ℕ) → (may : MutBor (List ℕ) → ℕ → Type 0) → Type 0
TakesLines first end may = (row : MutBor (List ℕ)) (s : ℕ) → first ≤ s → s < end → may row s

-- the mask M has dots on those lines alone, and each is painted in its row
pub record InksLines (frame : Frame) (C : Colour) (M : Film) (first end : ℕ) (inks : MutBor (List ℕ) → ℕ → ⊤ → MutBor (List ℕ) → Type 0) : Type 0 where
  pub off : (s f : ℕ) → (first ≤ s → s < end → ⊥) → M s f ≡ false
  pub on : (row row' : MutBor (List ℕ)) (s : ℕ) → first ≤ s → s < end → inks row s tt row' → row'.now ≡ painted_row (window_of frame) C s (M s) row.now

-- the buffer after the rows of those lines were inked, whatever mask and colour that is
abbrev pub LinesInked : Frame → (first end : ℕ) → (inks : MutBor (List ℕ) → ℕ → ⊤ → MutBor (List ℕ) → Type 0) → (buf buf' : List ℕ) → Type 0
LinesInked frame first end inks buf buf' = (C : Colour) (M : Film) → InksLines frame C M first end inks → buf' ≡ painted_frame frame C M buf
