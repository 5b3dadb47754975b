-- The dots of a row, and its bytes, after a mask was painted with a colour. A row holds the dots of a window; others are clipped.
use Rattle.std.specs.Prelude.{◌≡◌, refl, Bool, true, false, ◌&&◌, List, [], ◌∷◌, ℕ, ◌+◌, leb, ltb, length}
use Rattle.row.specs.Dots.{dot_in, dot_at, byte_of, row_of}
use Rattle.film_words.specs.Arrays.{samples_in, tile_in}
use Rattle.film_commands.specs.Band.{Colour, solid, tiled}
use Rattle.film_herald.specs.Herald.{Window}
use Rattle.film_imaging.specs.Masks.{sample}
use Rattle.film_imaging.specs.Colours.{tile_start, tile_dot, painted}
use Rattle.film_paint.specs.declared.Frame.{Frame}

-- the window of a frame's rows
abbrev pub window_of : Frame → Window
window_of w = record { f_min = w.left; f_size = w.width }

-- Dot j of the row of line s after the dots M of that line were painted, d being the row's dots before. It is dot f_min + j of the film; those from f_size
-- on are off the window and stay.
unfoldable pub painted_line : Window → Colour → (s : ℕ) → (M d : ℕ → Bool) → ℕ → Bool
painted_line w C s M d j = painted C s (w.f_min + j) (ltb j w.f_size && M (w.f_min + j)) (d j)

-- the row of line s after that
abbrev pub painted_row : Window → Colour → (s : ℕ) → (M : ℕ → Bool) → (row : List ℕ) → List ℕ
painted_row w C s M row = row_of (length row) (painted_line w C s M (dot_at row))

-- ---- worked cases

abbrev window : ℕ → ℕ → Window
window a n = record { f_min = a; f_size = n }

-- one line of two dots, 1 and 0, at 0, 0
abbrev example_tile : List ℕ
example_tile = 0 ∷ 0 ∷ 0 ∷ 1 ∷ 2 ∷ 0x8000 ∷ []

-- the same, one dot further for each line
abbrev phased_tile : List ℕ
phased_tile = 1 ∷ 0 ∷ 0 ∷ 1 ∷ 2 ∷ 0x8000 ∷ []

pub record RowCases : Type 0 where
  pub window_is : window_of (record { top = 1; rows = 2; left = 3; width = 4 }) ≡ window 3 4
  pub under_mask : painted_row (window 0 8) (solid true) 0 (λ f. ltb f 3) (0x01 ∷ []) ≡ 0xE1 ∷ []
  pub clipped : painted_row (window 0 9) (solid true) 0 (λ f. true) (0x00 ∷ 0x00 ∷ []) ≡ 0xFF ∷ 0x80 ∷ []
  pub old_spare_bits : painted_row (window 0 9) (solid false) 0 (λ f. true) (0xFF ∷ 0xFF ∷ []) ≡ 0x00 ∷ 0x7F ∷ []
  pub from_dot_5 : painted_row (window 5 8) (solid true) 0 (λ f. leb 6 f && ltb f 8) (0x01 ∷ []) ≡ 0x61 ∷ []
  pub tile_from_dot_5 : painted_row (window 5 8) (tiled false 0 example_tile) 0 (λ f. true) (0x00 ∷ []) ≡ 0x55 ∷ []
  pub tile_of_line_3 : painted_row (window 5 8) (tiled false 0 phased_tile) 3 (λ f. true) (0x00 ∷ []) ≡ 0xAA ∷ []

pub row_cases : RowCases
unfolding painted_line painted row_of byte_of dot_at dot_in tile_dot tile_start sample samples_in tile_in
row_cases =
    record {
      window_is = refl;
      under_mask = refl;
      clipped = refl;
      old_spare_bits = refl;
      from_dot_5 = refl;
      tile_from_dot_5 = refl;
      tile_of_line_3 = refl;
    }
