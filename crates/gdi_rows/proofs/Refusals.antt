-- Laws of what the row writer asks for: of a row, and of the output. Assumes nothing.
use mathlib.Core.Path.{◌≡◌, refl, sym}
use mathlib.Core.Bool.{true, false}
use mathlib.Core.List.{List}
use Prim.Native.Nat.{ℕ, ◌+◌, ◌/◌, ◌≤◌}
use native.Mathlib.Omega.{arith}
use borrow.Author.Tests.{eq-eqb, ne_eqb, le-leb}
use lib.Dec.{leb}
use lib.ListN.{length}
use Rattle.row_runs.specs.Spare.{spare_clear}
use Rattle.gdi_jobs.specs.Lines.{line_bytes}
use Rattle.gdi_jobs.specs.Rows.{row_bytes}
use Rattle.gdi_jobs.specs.Writers.{writes, refuses, fits_width, row_writing}
use Rattle.gdi_jobs.specs.Room.{row_room}
use Rattle.gdi_jobs.proofs.Groups.{admitted_is}
use Rattle.gdi_jobs.proofs.Room.{row_within}
use Rattle.gdi_write.proofs.Writers.{admitted_no}

-- ---- the row

-- of another length
pub length_no : (row : List ℕ) (width : ℕ) → (length row ≡ (width + 7) / 8 → ⊥) → false ≡ fits_width row width
unfolding fits_width line_bytes
length_no row width n = rw (ne_eqb _ _ n) refl

-- of the width's length: its spare dots say
pub length_yes : (row : List ℕ) (width : ℕ) → length row ≡ (width + 7) / 8 → spare_clear row width ≡ fits_width row width
unfolding fits_width line_bytes
length_yes row width l = rw (eq-eqb _ _ l) refl

-- ---- the answer: each after the tests before it

module _ (width : ℕ) (row : List ℕ) (room : ℕ) where
  pub width_refused : ((1 ≤ width) × (width ≤ 16383) → ⊥) → row_writing width row room ≡ refuses 27 0
  unfolding row_writing
  width_refused n = rw (admitted_no width n) refl

  module _ (w : (1 ≤ width) × (width ≤ 16383)) where
    pub row_refused : fits_width row width ≡ false → row_writing width row room ≡ refuses 27 0
    unfolding row_writing
    row_refused e = rw ((admitted_is width).said w, e) refl

    module _ (f : fits_width row width ≡ true) where
      pub output_refused : leb (length (row_bytes width row)) room ≡ false → row_writing width row room ≡ refuses 27 0
      unfolding row_writing
      output_refused e = rw ((admitted_is width).said w, f, e) refl

      pub row_written : leb (length (row_bytes width row)) room ≡ true → row_writing width row room ≡ writes (row_bytes width row)
      unfolding row_writing
      row_written e = rw ((admitted_is width).said w, f, e) refl

  -- an output that is long enough for any line of the width is so for this one
  pub room_yes : 1 ≤ width → row_room width ≤ room → true ≡ leb (length (row_bytes width row)) room
  room_yes w h = sym (le-leb (length (row_bytes width row)) room (omega (arith, row_within width row w)))
