-- The spare dots of a row: those past its width.
use Rattle.std.specs.Prelude.{◌≡◌, Bool, true, false, not, ◌&&◌, List, [], ◌∷◌, ℕ, zero, suc, ◌-◌, ◌*◌, length}
use Rattle.row.specs.Dots.{dot_in, dot_at}

-- whether the n dots from f on are all 0
unfoldable pub clear_from : (ℕ → Bool) → ℕ → ℕ → Bool
clear_from d f zero = true
clear_from d f (suc n) = not (d f) && clear_from d (suc f) n

-- whether every dot of a row from `width` to the row's end is 0
unfoldable pub spare_clear : List ℕ → ℕ → Bool
spare_clear row width = clear_from (dot_at row) width (8 * length row - width)

-- ---- worked cases

pub record SpareCases : Type 0 where
  pub all_clear : spare_clear (0xE0 ∷ []) 3 ≡ true
  pub first_set : spare_clear (0xF0 ∷ []) 3 ≡ false
  pub last_set : spare_clear (0xE0 ∷ 0x01 ∷ []) 3 ≡ false
  pub none_spare : spare_clear (0xFF ∷ []) 8 ≡ true
  pub width_past_end : spare_clear (0xFF ∷ []) 100 ≡ true
  pub width_0 : spare_clear (0x80 ∷ []) 0 ≡ false
  pub empty_row : spare_clear [] 0 ≡ true

pub spare_cases : SpareCases
unfolding dot_in dot_at clear_from spare_clear
spare_cases = search
