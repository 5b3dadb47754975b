-- Bytes put at a place of an output.
use Rattle.std.specs.Prelude.{◌≡◌, List, [], ◌∷◌, ◌++◌, ℕ, take, drop}
use Rattle.buffers.specs.Buffers.{written}

-- all of them, where the output has room for them from place `at` on; else it stays whole
unfoldable pub put_at : (bytes : List ℕ) (at : ℕ) (out : List ℕ) → List ℕ
put_at bytes at out = take at out ++ written bytes (drop at out)

-- ---- worked cases

pub record PlaceCases : Type 0 where
  pub inside : put_at (7 ∷ 8 ∷ []) 1 (1 ∷ 2 ∷ 3 ∷ 4 ∷ []) ≡ 1 ∷ 7 ∷ 8 ∷ 4 ∷ []
  pub at_the_end : put_at (7 ∷ 8 ∷ []) 2 (1 ∷ 2 ∷ 3 ∷ 4 ∷ []) ≡ 1 ∷ 2 ∷ 7 ∷ 8 ∷ []
  pub no_room : put_at (7 ∷ 8 ∷ []) 3 (1 ∷ 2 ∷ 3 ∷ 4 ∷ []) ≡ 1 ∷ 2 ∷ 3 ∷ 4 ∷ []
  pub past_the_end : put_at (7 ∷ []) 9 (1 ∷ 2 ∷ []) ≡ 1 ∷ 2 ∷ []

pub place_cases : PlaceCases
unfolding put_at written
place_cases = search
