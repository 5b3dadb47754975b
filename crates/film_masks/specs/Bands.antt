-- The dots of a band buffer after a mask was painted with a colour. Dots off the window or off the band are clipped.
use Rattle.std.specs.Prelude.{◌≡◌, refl, Bool, true, false, cond, ◌&&◌, List, [], ◌∷◌, ℕ, ◌+◌, ◌*◌, ◌/◌, ◌%◌, leb, ltb, length}
use Rattle.row.specs.Dots.{dot_in, dot_at, byte_of, row_of}
use Rattle.film_words.specs.Arrays.{samples_in, tile_in}
use Rattle.film_commands.specs.Commands.{Mask, rectangle}
use Rattle.film_commands.specs.Band.{Colour, solid, tiled}
use Rattle.film_herald.specs.Herald.{Window, row_length}
use Rattle.film_imaging.specs.Masks.{Film, within, sample, masked}
use Rattle.film_imaging.specs.Colours.{tile_start, tile_dot, painted}
use Rattle.film_paint.specs.Rows.{window_of}
use Rattle.film_paint.specs.declared.Frame.{Frame}

-- Dot g of a band buffer whose first row is line `first`: it is dot j of row k, where a row has n dots, its spare ones among them. Dots after the last
-- row stay.
unfoldable pub painted_dot : Window → (first rows : ℕ) → Colour → (M : Film) → (d : ℕ → Bool) → ℕ → Bool
painted_dot w first rows C M d g =
    let n = 8 * row_length w.f_size in
    let k = g / n in
    let j = g % n in
    painted C (first + k) (w.f_min + j) (ltb k rows && ltb j w.f_size && M (first + k) (w.f_min + j)) (d g)

-- the band buffer after the mask M was painted; one that is shorter than the rows stays as it is
unfoldable pub painted_band : Window → (first rows : ℕ) → Colour → (M : Film) → List ℕ → List ℕ
painted_band w first rows C M buf =
    cond (leb (rows * row_length w.f_size) (length buf)) (row_of (length buf) (painted_dot w first rows C M (dot_at buf))) buf

-- the same of a frame
abbrev pub painted_frame : Frame → Colour → (M : Film) → List ℕ → List ℕ
painted_frame frame C M buf = painted_band (window_of frame) frame.top frame.rows C M buf

-- ---- worked cases: a band of 2 rows of 17 dots, from line 3 on, in a buffer of a byte more

abbrev wide : ℕ → Window
wide width = record { f_min = 0; f_size = width }

abbrev blank : List ℕ
blank = 0 ∷ 0 ∷ 0 ∷ 0 ∷ 0 ∷ 0 ∷ 0 ∷ 0 ∷ 0xEE ∷ []

abbrev in_band : Colour → Mask → List ℕ
in_band C m = painted_band (wide 17) 3 2 C (masked m) blank

-- one line of two dots, 1 and 0, at 3, 1, one dot further for each line
abbrev example_tile : List ℕ
example_tile = 1 ∷ 3 ∷ 1 ∷ 1 ∷ 2 ∷ 0x8000 ∷ []

pub record BandCases : Type 0 where
  -- columns 1 to 3 of lines 4 and 5, of which the band has line 4
  pub second_row : in_band (solid true) (rectangle 4 2 1 3) ≡ 0 ∷ 0 ∷ 0 ∷ 0 ∷ 0x70 ∷ 0 ∷ 0 ∷ 0 ∷ 0xEE ∷ []
  pub above_band : in_band (solid true) (rectangle 0 4 0 1) ≡ 0x80 ∷ 0 ∷ 0 ∷ 0 ∷ 0 ∷ 0 ∷ 0 ∷ 0 ∷ 0xEE ∷ []
  pub spare_bits : in_band (solid true) (rectangle 3 1 15 99) ≡ 0 ∷ 1 ∷ 0x80 ∷ 0 ∷ 0 ∷ 0 ∷ 0 ∷ 0 ∷ 0xEE ∷ []
  pub below_band : in_band (solid true) (rectangle 5 9 0 17) ≡ blank
  pub tiled : in_band (tiled false 0 example_tile) (rectangle 3 2 0 4) ≡ 0x50 ∷ 0 ∷ 0 ∷ 0 ∷ 0x20 ∷ 0 ∷ 0 ∷ 0 ∷ 0xEE ∷ []
  pub just_long_enough : painted_band (wide 17) 3 1 (solid true) (masked (rectangle 3 2 0 17)) (0 ∷ 0 ∷ 0 ∷ 0 ∷ []) ≡ 0xFF ∷ 0xFF ∷ 0x80 ∷ 0 ∷ []
  pub too_short : painted_band (wide 17) 3 2 (solid true) (masked (rectangle 3 2 0 17)) (0 ∷ 0 ∷ 0 ∷ 0 ∷ []) ≡ 0 ∷ 0 ∷ 0 ∷ 0 ∷ []
  pub no_width : painted_band (wide 0) 3 2 (solid true) (masked (rectangle 3 2 0 17)) (0 ∷ 0 ∷ []) ≡ 0 ∷ 0 ∷ []
  -- a window from dot 2 on
  pub from_dot_2 : painted_band (record { f_min = 2; f_size = 9 }) 3 1 (solid true) (masked (rectangle 3 1 1 3)) (0 ∷ 0 ∷ []) ≡ 0xC0 ∷ 0 ∷ []
  pub of_a_frame : painted_frame (record { top = 3; rows = 1; left = 2; width = 9 }) (solid true) (masked (rectangle 3 1 1 99)) (0 ∷ 0 ∷ []) ≡ 0xFF ∷ 0x80 ∷ []

pub band_cases : BandCases
unfolding painted_band painted_dot masked painted within tile_dot tile_start sample samples_in tile_in row_of byte_of dot_at dot_in
band_cases =
    record {
      second_row = refl;
      above_band = refl;
      spare_bits = refl;
      below_band = refl;
      tiled = refl;
      just_long_enough = refl;
      too_short = refl;
      no_width = refl;
      from_dot_2 = refl;
      of_a_frame = refl;
    }
