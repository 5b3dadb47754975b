-- Bytes put into a buffer that is lent for them.
use Rattle.std.specs.Prelude.{◌≡◌, cond, List, [], ◌∷◌, ◌++◌, ℕ, leb, length, drop, Option, Some, None}

-- the buffer with bytes at its start, and what is beyond them as it was; a buffer that is too short for them stays whole
unfoldable pub written : (bytes out : List ℕ) → List ℕ
written bytes out = cond (leb (length bytes) (length out)) (bytes ++ drop (length bytes) out) out

-- how many bytes were put there, or None where the buffer is too short
unfoldable pub count : (bytes out : List ℕ) → Option ℕ
count bytes out = cond (leb (length bytes) (length out)) (Some (length bytes)) None

-- ---- worked cases

pub record BufferCases : Type 0 where
  pub longer : written (7 ∷ 8 ∷ []) (1 ∷ 2 ∷ 3 ∷ 4 ∷ []) ≡ 7 ∷ 8 ∷ 3 ∷ 4 ∷ []
  pub longer_count : count (7 ∷ 8 ∷ []) (1 ∷ 2 ∷ 3 ∷ 4 ∷ []) ≡ Some 2
  pub as_long : written (7 ∷ 8 ∷ []) (1 ∷ 2 ∷ []) ≡ 7 ∷ 8 ∷ []
  pub as_long_count : count (7 ∷ 8 ∷ []) (1 ∷ 2 ∷ []) ≡ Some 2
  pub nothing : count [] [] ≡ Some 0
  pub too_short : written (7 ∷ 8 ∷ 9 ∷ []) (1 ∷ 2 ∷ []) ≡ 1 ∷ 2 ∷ []
  pub too_short_count : count (7 ∷ 8 ∷ 9 ∷ []) (1 ∷ 2 ∷ []) ≡ None

pub buffer_cases : BufferCases
unfolding written count
buffer_cases = search
