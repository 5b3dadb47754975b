-- What strokes do to a whole film, and the bytes of its rows.
use Rattle.std.specs.Prelude.{◌≡◌, refl, Bool, true, false, ◌&&◌, List, [], ◌∷◌, ℕ, zero, suc, ◌+◌, leb, ltb}
use Rattle.row.specs.Dots.{byte_of, row_of}
use Rattle.film_words.specs.Arrays.{samples_in, tile_in}
use Rattle.film_words.specs.Groups.{lines_in, runs_in}
use Rattle.film_commands.specs.Commands.{Mask, rectangle, trapezoid, runs, samples}
use Rattle.film_commands.specs.Band.{Colour, solid, tiled, Stroke, stroke}
use Rattle.film_herald.specs.Herald.{Window, row_length}
use Rattle.film_imaging.specs.Masks.{Film, within, edge, in_runs, sample, masked}
use Rattle.film_imaging.specs.Colours.{tile_start, tile_dot, painted}

-- the dots that a stroke paints: those of its mask, on rows from `from` on
abbrev pub covers : Stroke → Film
covers k s f = leb k.from s && masked k.mask s f

-- the strokes one after another, on a film I
unfoldable pub carry_out : List Stroke → Film → Film
carry_out [] I = I
carry_out (k ∷ ks) I = carry_out ks (λ s f. painted k.colour s f (covers k s f) (I s f))

-- on a film that is all 0 at first
unfoldable pub film_of : List Stroke → Film
film_of ks = carry_out ks (λ s f. false)

-- the bytes of a row of `width` dots: other dots are clipped, spare bits are 0
unfoldable pub row_bytes : ℕ → (ℕ → Bool) → List ℕ
row_bytes width d = row_of (row_length width) (λ f. ltb f width && d f)

-- of a line's dots d, those of a window: its first dot is the row's first
abbrev pub window_row : Window → (ℕ → Bool) → List ℕ
window_row w d = row_bytes w.f_size (λ j. d (w.f_min + j))

-- n rows by their numbers, from row s on
unfoldable pub numbered : (s n : ℕ) → (row : ℕ → List ℕ) → List (List ℕ)
numbered s zero row = []
numbered s (suc n) row = row s ∷ numbered (suc s) n row

-- n rows of a window from line s on, of a whole film on which these strokes were carried out
unfoldable pub rows_of : Window → (s n : ℕ) → List Stroke → List (List ℕ)
rows_of w s n ks = numbered s n (λ s. window_row w (film_of ks s))

-- ---- worked cases: the first 4 rows of a film of 16 dots, and of other windows

-- the first `width` dots
abbrev wide : ℕ → Window
wide width = record { f_min = 0; f_size = width }

abbrev four : List Stroke → List (List ℕ)
four ks = rows_of (wide 16) 0 4 ks

-- a mask in a colour
abbrev inked : Colour → Mask → Stroke
inked C m = stroke 0 0 C m

-- all 16 dots of 4 lines
abbrev all : Mask
all = rectangle 0 4 0 16

-- one line of two dots, 1 and 0, at 1, 2, one dot further for each line
abbrev example_tile : List ℕ
example_tile = 1 ∷ 1 ∷ 2 ∷ 1 ∷ 2 ∷ 0x8000 ∷ []

-- two lines of three dots, 110 and 001 with padding bits set, at 1, 0
abbrev two_line_tile : List ℕ
two_line_tile = 0 ∷ 1 ∷ 0 ∷ 2 ∷ 3 ∷ 0xDFFF ∷ 0x3FFF ∷ []

pub record PictureCases : Type 0 where
  pub no_wrap : four (inked (solid true) (rectangle 0 1 8 0xFFFF) ∷ []) ≡ (0 ∷ 0xFF ∷ []) ∷ (0 ∷ 0 ∷ []) ∷ (0 ∷ 0 ∷ []) ∷ (0 ∷ 0 ∷ []) ∷ []
  pub off_film : four (inked (solid true) (rectangle 0xFFFF 1 0 16) ∷ []) ≡ (0 ∷ 0 ∷ []) ∷ (0 ∷ 0 ∷ []) ∷ (0 ∷ 0 ∷ []) ∷ (0 ∷ 0 ∷ []) ∷ []
  pub trapezoid_no_rows : four (inked (solid true) (trapezoid 0 0 0 9 0 9) ∷ []) ≡ (0 ∷ 0 ∷ []) ∷ (0 ∷ 0 ∷ []) ∷ (0 ∷ 0 ∷ []) ∷ (0 ∷ 0 ∷ []) ∷ []
  -- the last edge is ignored, and the film's end cuts the row
  pub trapezoid_one_row : four (inked (solid true) (trapezoid 1 1 1 3 9 9) ∷ []) ≡ (0 ∷ 0 ∷ []) ∷ (0x70 ∷ 0 ∷ []) ∷ (0 ∷ 0 ∷ []) ∷ (0 ∷ 0 ∷ []) ∷ []
  pub trapezoid_one_row_largest : four (inked (solid true) (trapezoid 3 1 8 0xFFFF 0 0) ∷ []) ≡ (0 ∷ 0 ∷ []) ∷ (0 ∷ 0 ∷ []) ∷ (0 ∷ 0 ∷ []) ∷ (0 ∷ 0xFF ∷ []) ∷ []
  pub trapezoid_from_a_point : rows_of (wide 16) 0 3 (inked (solid true) (trapezoid 0 3 0 0 0 4) ∷ []) ≡ (0 ∷ 0 ∷ []) ∷ (0xC0 ∷ 0 ∷ []) ∷ (0xF0 ∷ 0 ∷ []) ∷ []
  pub trapezoid_largest : four (inked (solid true) (trapezoid 0 65535 0 65535 65535 65535) ∷ []) ≡ (0xFF ∷ 0xFF ∷ []) ∷ (0x3F ∷ 0xFF ∷ []) ∷ (0x1F ∷ 0xFF ∷ []) ∷ (0x0F ∷ 0xFF ∷ []) ∷ []
  -- two runs of line 0 overlap, the run of line 1 has no dots, and that of line 2 goes past the film
  pub runs_shifted : four (inked (solid true) (runs 1 (3 ∷ 1 ∷ 3 ∷ 2 ∷ 0x8004 ∷ 9 ∷ 0x8000 ∷ 15 ∷ 0x8009 ∷ [])) ∷ []) ≡ (0 ∷ 0 ∷ []) ∷ (0x7C ∷ 0 ∷ []) ∷ (0 ∷ 0 ∷ []) ∷ (0 ∷ 1 ∷ []) ∷ []
  pub samples_padded : four (inked (solid true) (samples 0 0 (1 ∷ 4 ∷ 0xFFFF ∷ 0xFFFF ∷ [])) ∷ []) ≡ (0xF0 ∷ 0 ∷ []) ∷ (0 ∷ 0 ∷ []) ∷ (0 ∷ 0 ∷ []) ∷ (0 ∷ 0 ∷ []) ∷ []
  pub samples_shifted : four (inked (solid true) (samples 2 3 (2 ∷ 17 ∷ 0xA001 ∷ 0x8000 ∷ 0x5000 ∷ 0xFFFF ∷ [])) ∷ []) ≡ (0 ∷ 0 ∷ []) ∷ (0 ∷ 0 ∷ []) ∷ (0x14 ∷ 0 ∷ []) ∷ (0x0A ∷ 0 ∷ []) ∷ []
  pub samples_second_word : rows_of (wide 20) 0 1 (inked (solid true) (samples 0 0 (1 ∷ 18 ∷ 0x0001 ∷ 0x4000 ∷ [])) ∷ []) ≡ (0 ∷ 1 ∷ 0x40 ∷ 0 ∷ []) ∷ []
  -- an opaque tile clears where it is 0, above and left of its corner too; a transparent one never clears
  pub tile_opaque : four (inked (solid true) all ∷ inked (tiled false 0 example_tile) all ∷ []) ≡ (0 ∷ 0 ∷ []) ∷ (0x2A ∷ 0xAA ∷ []) ∷ (0x15 ∷ 0x55 ∷ []) ∷ (0x0A ∷ 0xAA ∷ []) ∷ []
  pub tile_transparent :
      four (inked (solid true) (rectangle 0 4 0 3) ∷ inked (tiled true 0 example_tile) all ∷ []) ≡ (0xE0 ∷ 0 ∷ []) ∷ (0xEA ∷ 0xAA ∷ []) ∷ (0xF5 ∷ 0x55 ∷ []) ∷ (0xEA ∷ 0xAA ∷ []) ∷ []
  pub tile_under_mask : four (inked (solid true) all ∷ inked (tiled false 0 example_tile) (rectangle 1 1 4 3) ∷ []) ≡ (0xFF ∷ 0xFF ∷ []) ∷ (0xFB ∷ 0xFF ∷ []) ∷ (0xFF ∷ 0xFF ∷ []) ∷ (0xFF ∷ 0xFF ∷ []) ∷ []
  pub tile_lines : four (inked (tiled false 0 two_line_tile) all ∷ []) ≡ (0 ∷ 0 ∷ []) ∷ (0xDB ∷ 0x6D ∷ []) ∷ (0x24 ∷ 0x92 ∷ []) ∷ (0xDB ∷ 0x6D ∷ []) ∷ []
  pub cleared : four (inked (solid true) all ∷ inked (solid false) (rectangle 1 2 1 3) ∷ []) ≡ (0xFF ∷ 0xFF ∷ []) ∷ (0x8F ∷ 0xFF ∷ []) ∷ (0x8F ∷ 0xFF ∷ []) ∷ (0xFF ∷ 0xFF ∷ []) ∷ []
  -- 17 dots take four bytes, and spare bits are 0
  pub width_17 : rows_of (wide 17) 0 1 (inked (solid true) (rectangle 0 1 15 9) ∷ []) ≡ (0 ∷ 1 ∷ 0x80 ∷ 0 ∷ []) ∷ []
  pub later_lines : rows_of (wide 8) 1 2 (inked (solid true) (rectangle 2 1 0 1) ∷ []) ≡ (0 ∷ 0 ∷ []) ∷ (0x80 ∷ 0 ∷ []) ∷ []
  -- a window's first dot is the row's first, and dots after its last are clipped
  pub of_a_window : rows_of (record { f_min = 3; f_size = 9 }) 0 1 (inked (solid true) (rectangle 0 1 4 9) ∷ []) ≡ (0x7F ∷ 0x80 ∷ []) ∷ []
  pub tile_in_window : rows_of (record { f_min = 3; f_size = 9 }) 1 1 (inked (tiled false 0 example_tile) all ∷ []) ≡ (0x55 ∷ 0 ∷ []) ∷ []
  -- rows before `from` are cut off
  pub cut_off :
      four (record { place = 0; priority = 0; colour = solid true; mask = rectangle 0 4 0 8; from = 2 } ∷ [])
      ≡ (0 ∷ 0 ∷ []) ∷ (0 ∷ 0 ∷ []) ∷ (0xFF ∷ 0 ∷ []) ∷ (0xFF ∷ 0 ∷ []) ∷ []

pub picture_cases : PictureCases
unfolding rows_of numbered row_bytes row_of byte_of film_of carry_out painted tile_dot tile_start masked edge sample samples_in tile_in in_runs runs_in lines_in within
picture_cases =
    record {
      no_wrap = refl;
      off_film = refl;
      trapezoid_no_rows = refl;
      trapezoid_one_row = refl;
      trapezoid_one_row_largest = refl;
      trapezoid_from_a_point = refl;
      trapezoid_largest = refl;
      runs_shifted = refl;
      samples_padded = refl;
      samples_shifted = refl;
      samples_second_word = refl;
      tile_opaque = refl;
      tile_transparent = refl;
      tile_under_mask = refl;
      tile_lines = refl;
      cleared = refl;
      width_17 = refl;
      later_lines = refl;
      of_a_window = refl;
      tile_in_window = refl;
      cut_off = refl;
    }
