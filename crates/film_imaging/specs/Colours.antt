-- Colours, and how a mask is painted with one.
use Rattle.std.specs.Prelude.{◌≡◌, Bool, true, false, not, ◌&&◌, ◌||◌, List, [], ◌∷◌, ℕ, ◌+◌, ◌*◌, ◌-◌, ◌/◌, ◌%◌, leb}
use Rattle.film_words.specs.Arrays.{Tile, samples_in, tile_in}
use Rattle.film_commands.specs.Band.{Colour, solid, tiled}
use Rattle.film_imaging.specs.Masks.{Film, sample}

-- A tile is laid from its corner toward greater s and f. For s ≥ s_min, i is (s − s_min)/s_size rounded down, and the tile row starts at
-- f_min + i · phase
unfoldable pub tile_start : Tile → ℕ → ℕ
tile_start t s = t.f_min + (s - t.s_min) / t.array.s_size * t.phase

-- and repeats every f_size dots. Elsewhere C is 0
unfoldable pub tile_dot : Tile → Film
tile_dot t s f =
    leb t.s_min s && leb (tile_start t s) f
    && sample t.array ((s - t.s_min) % t.array.s_size) ((f - tile_start t s) % t.array.f_size)

-- Dot I of a picture after a mask was painted there, M being the mask's dot. Opaque: (I and not M) or (C and M); transparent: I or (C and M).
-- Ink and clear are opaque, C all 1 and all 0.
unfoldable pub painted : Colour → (s f : ℕ) → (M I : Bool) → Bool
painted (solid C) s f M I = (I && not M) || (C && M)
painted (tiled false a ws) s f M I = (I && not M) || (tile_dot (tile_in ws) s f && M)
painted (tiled true a ws) s f M I = I || (tile_dot (tile_in ws) s f && M)

-- ---- worked cases: a tile of two lines of three dots, 100 and 011, at 1, 2, one dot further for each time it is laid

abbrev tile_words : List ℕ
tile_words = 1 ∷ 1 ∷ 2 ∷ 2 ∷ 3 ∷ 0x8000 ∷ 0x6000 ∷ []

abbrev tile : Tile
tile = tile_in tile_words

-- of three lines of one dot, 1, 0 and 0, at 4, 0: 4 is no multiple of 3
abbrev three : Tile
three = tile_in (0 ∷ 4 ∷ 0 ∷ 3 ∷ 1 ∷ 0x8000 ∷ 0 ∷ 0 ∷ [])

pub record ColourCases : Type 0 where
  pub start_of_first : tile_start tile 2 ≡ 2
  pub start_of_second : tile_start tile 3 ≡ 3
  pub corner : tile_dot tile 1 2 ≡ true
  pub repeats : tile_dot tile 1 5 ≡ true
  pub second_line : tile_dot tile 2 3 ≡ true
  pub laid_again : tile_dot tile 3 3 ≡ true
  pub not_without_phase : tile_dot tile 3 2 ≡ false
  pub above : tile_dot tile 0 2 ≡ false
  pub from_its_corner : tile_dot three 4 0 ≡ true
  pub next_line_case : tile_dot three 5 0 ≡ false
  pub laid_below : tile_dot three 7 0 ≡ true
  pub between : tile_dot three 6 0 ≡ false
  pub left : tile_dot (record { phase = 0; s_min = 1; f_min = 2; array = record { s_size = 1; f_size = 1; lines = 0x8000 ∷ [] } }) 1 1 ≡ false
  -- a tile with a side of 0 is refused before it comes here; its dots would be 0
  pub no_lines : tile_dot (record { phase = 0; s_min = 1; f_min = 2; array = record { s_size = 0; f_size = 1; lines = 0x8000 ∷ [] } }) 1 2 ≡ false
  pub no_dots : tile_dot (record { phase = 0; s_min = 1; f_min = 2; array = record { s_size = 1; f_size = 0; lines = 0x8000 ∷ [] } }) 1 2 ≡ false
  pub ink_on_mask : painted (solid true) 0 0 true false ≡ true
  pub clear_on_mask : painted (solid false) 0 0 true true ≡ false
  pub off_mask : painted (solid false) 0 0 false true ≡ true
  pub opaque_clears : painted (tiled false 0 tile_words) 0 0 true true ≡ false
  pub opaque_inks : painted (tiled false 0 tile_words) 1 2 true false ≡ true
  pub opaque_off_mask : painted (tiled false 0 tile_words) 1 2 false false ≡ false
  pub transparent_keeps : painted (tiled true 0 tile_words) 0 0 true true ≡ true
  pub transparent_inks : painted (tiled true 0 tile_words) 1 2 true false ≡ true
  pub transparent_off_mask : painted (tiled true 0 tile_words) 1 2 false false ≡ false

pub colour_cases : ColourCases
unfolding tile_start tile_dot painted sample samples_in tile_in
colour_cases = search
