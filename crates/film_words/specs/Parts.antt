-- Parts of a file, handed out uncopied.
use Rattle.std.specs.Prelude.{◌≡◌, cond, List, [], ◌∷◌, ℕ, ◌-◌, ◌*◌, leb, length, take, drop}
use Rattle.film_words.specs.Words.{words}

-- the bytes of the words from place p up to, not including, place e; nothing where the file ends before e
unfoldable pub part_of : List ℕ → ℕ → ℕ → List ℕ
part_of file p e = cond (leb e (length (words file))) (take (2 * (e - p)) (drop (2 * p) file)) []

-- ---- worked cases

pub record PartCases : Type 0 where
  pub two_words : part_of (1 ∷ 2 ∷ 3 ∷ 4 ∷ 5 ∷ 6 ∷ 7 ∷ 8 ∷ []) 1 3 ≡ 3 ∷ 4 ∷ 5 ∷ 6 ∷ []
  pub to_the_end : part_of (1 ∷ 2 ∷ 3 ∷ 4 ∷ []) 1 2 ≡ 3 ∷ 4 ∷ []
  pub past_end : part_of (1 ∷ 2 ∷ 3 ∷ 4 ∷ []) 1 3 ≡ []
  pub odd_byte : part_of (1 ∷ 2 ∷ 3 ∷ []) 1 2 ≡ []
  pub backward : part_of (1 ∷ 2 ∷ 3 ∷ 4 ∷ []) 2 1 ≡ []

pub part_cases : PartCases
unfolding part_of words
part_cases = search
