-- The load file: a long count, then exactly that many words. Addresses count from 0 after the count.
use Rattle.std.specs.Prelude.{◌≡◌, List, [], ◌∷◌, ℕ, drop}
use Rattle.film_words.specs.Words.{words, long_at}

-- the count, of the load's bytes
unfoldable pub load_count : List ℕ → ℕ
load_count load = long_at (words load) 0

-- the words after the count
unfoldable pub load_words : List ℕ → List ℕ
load_words load = drop 2 (words load)

-- ---- worked cases

pub record LoadCases : Type 0 where
  pub empty_load_case : load_words (0 ∷ 0 ∷ 0 ∷ 0 ∷ []) ≡ []
  pub empty_count : load_count (0 ∷ 0 ∷ 0 ∷ 0 ∷ []) ≡ 0
  pub after_count : load_words (0 ∷ 1 ∷ 0 ∷ 0 ∷ 0x12 ∷ 0x34 ∷ []) ≡ 0x1234 ∷ []
  pub low_word_first : load_count (0x01 ∷ 0x02 ∷ 0x03 ∷ 0x04 ∷ []) ≡ 0x03040102

pub load_cases : LoadCases
unfolding words load_count load_words
load_cases = search
