-- The answer that a listing goes by.
use Rattle.std.specs.Prelude.{◌≡◌, refl, cond, List, [], ◌∷◌, ℕ, ltb, length}
use Rattle.refusal.specs.Answers.{given, refused}
use Rattle.refusal.specs.Tables.{first}
use Rattle.film_words.specs.Words.{words, bytes_of}
use Rattle.film_words.specs.Load.{load_count, load_words}
use Rattle.film_commands.specs.Band.{read_from, read_band}
use Rattle.film_herald.specs.Herald.{band_count}
use Rattle.film_herald.specs.Refusals.{length_table, password_table, size_table, load_table, page_table, herald_table, herald_test}
use Rattle.film_layout.specs.Layout.{bands_then, pages_from}
use Rattle.film_check.specs.Check.{CheckAnswer, check_layout, check_answer}

-- an empty load: the count 0 alone
abbrev pub empty_load : List ℕ
empty_load = 0 ∷ 0 ∷ 0 ∷ 0 ∷ []

-- A sheet of at most 65,536 bytes is checked with an empty load; a longer input is refused.
unfoldable pub list_answer : List ℕ → CheckAnswer
list_answer input = cond (ltb 65536 (length input)) (refused 1 0) (check_answer input empty_load)

-- ---- worked cases

-- one page of one band without commands
abbrev empty_band : List ℕ
empty_band = bytes_of (0xAAAA ∷ 1 ∷ 0 ∷ 600 ∷ 600 ∷ 4 ∷ 16 ∷ 4 ∷ 0 ∷ 0 ∷ 1 ∷ 1 ∷ 1 ∷ 0 ∷ [])

pub record ListingCases : Type 0 where
  pub passes : list_answer empty_band ≡ given 1
  pub no_input : list_answer [] ≡ refused 2 0
  -- of any input of 65,536 bytes, and of one more
  pub longest : (input : List ℕ) → length input ≡ 65536 → list_answer input ≡ check_answer input empty_load
  pub longer : (input : List ℕ) → length input ≡ 65537 → list_answer input ≡ refused 1 0

pub listing_cases : ListingCases
unfolding list_answer check_answer check_layout herald_test first length_table password_table size_table load_table page_table herald_table words bytes_of load_count load_words band_count bands_then pages_from read_band read_from
listing_cases = record { passes = refl; no_input = refl; longest = λ input h. rw h refl; longer = λ input h. rw h refl }
