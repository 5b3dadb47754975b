-- Sample arrays and tiles: how many words they take, and what those words hold.
use Rattle.std.specs.Prelude.{◌≡◌, cond, List, [], ◌∷◌, ℕ, ◌+◌, ◌*◌, leb, length, drop}
use Rattle.std.proofs.Math.Option.{Option, none, some}
use Rattle.film_words.specs.Words.{at, ceil_div}

-- ---- a sample array is s_size, f_size, then s_size lines of f_size/16 words rounded up

-- the words of one line
abbrev pub line_words : ℕ → ℕ
line_words f_size = ceil_div f_size 16

-- the words that the array at the beginning of ws claims, its two sizes among them
abbrev pub array_words : List ℕ → ℕ
array_words ws = 2 + at ws 0 * line_words (at ws 1)

-- the same, or none where the array runs past the end of ws
unfoldable pub array_extent : List ℕ → Option ℕ
array_extent ws = cond (leb (array_words ws) (length ws)) (some (array_words ws)) none

-- an array: s_size lines of f_size dots; `lines` are the words after the sizes, the high bit of each being its first dot
pub record Samples : Type 0 where
  pub s_size : ℕ
  pub f_size : ℕ
  pub lines : List ℕ

unfoldable pub samples_in : List ℕ → Samples
samples_in ws = record { s_size = at ws 0; f_size = at ws 1; lines = drop 2 ws }

-- ---- a tile is phase, s_min, f_min, sample array

pub record Tile : Type 0 where
  pub phase : ℕ
  pub s_min : ℕ
  pub f_min : ℕ
  pub array : Samples

unfoldable pub tile_in : List ℕ → Tile
tile_in ws = record { phase = at ws 0; s_min = at ws 1; f_min = at ws 2; array = samples_in (drop 3 ws) }

-- ---- worked cases

pub record ArrayCases : Type 0 where
  -- 2 lines of 17 dots, two words each, and a word after them
  pub two_lines_case : array_extent (2 ∷ 17 ∷ 1 ∷ 2 ∷ 3 ∷ 4 ∷ 99 ∷ []) ≡ some 6
  pub to_the_end : array_extent (2 ∷ 17 ∷ 1 ∷ 2 ∷ 3 ∷ 4 ∷ []) ≡ some 6
  pub a_word_short : array_extent (2 ∷ 17 ∷ 1 ∷ 2 ∷ 3 ∷ []) ≡ none
  pub no_sizes : array_extent [] ≡ none
  pub one_size : array_extent (0 ∷ []) ≡ none
  pub no_lines : array_extent (0 ∷ 17 ∷ []) ≡ some 2
  pub no_dots : array_extent (65535 ∷ 0 ∷ []) ≡ some 2
  pub read : samples_in (1 ∷ 4 ∷ 0xF000 ∷ []) ≡ record { s_size = 1; f_size = 4; lines = 0xF000 ∷ [] }
  pub read_tile : tile_in (5 ∷ 6 ∷ 7 ∷ 1 ∷ 4 ∷ 0xF000 ∷ [])
      ≡ record { phase = 5; s_min = 6; f_min = 7; array = record { s_size = 1; f_size = 4; lines = 0xF000 ∷ [] } }

pub array_cases : ArrayCases
unfolding array_extent samples_in tile_in
array_cases = search
