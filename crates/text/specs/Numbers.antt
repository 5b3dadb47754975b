-- Numbers as text: the ASCII codes of their digits. 48 is the code of `0`, and 65, which is 55 + 10, that of `A`.
use Rattle.std.specs.Prelude.{◌≡◌, cond, List, [], ◌∷◌, ◌++◌, ℕ, zero, suc, ◌+◌, ◌/◌, ◌%◌, ltb}

-- a hexadecimal digit, in capitals
unfoldable pub hex_digit : ℕ → ℕ
hex_digit d = cond (ltb d 10) (48 + d) (55 + d)

-- bytes in hexadecimal: two digits a byte, the high one first
unfoldable pub hex_of : List ℕ → List ℕ
hex_of [] = []
hex_of (b ∷ bs) = hex_digit (b / 16) ∷ hex_digit (b % 16) ∷ hex_of bs

-- n in decimal, without zeros in front; of a number with more than k + 1 digits the last k + 1
unfoldable pub decimal_in : (k n : ℕ) → List ℕ
decimal_in zero n = (48 + n % 10) ∷ []
decimal_in (suc k) n = cond (ltb n 10) ((48 + n) ∷ []) (decimal_in k (n / 10) ++ ((48 + n % 10) ∷ []))

-- a number of 64 bits in decimal: it has at most 20 digits
unfoldable pub decimal : ℕ → List ℕ
decimal n = decimal_in 19 n

-- ---- worked cases

pub record NumberCases : Type 0 where
  pub digit_0 : hex_digit 0 ≡ 48
  pub digit_9 : hex_digit 9 ≡ 57
  pub digit_a : hex_digit 10 ≡ 65
  pub digit_f : hex_digit 15 ≡ 70
  pub bytes : hex_of (0x0A ∷ 0xFF ∷ 0x90 ∷ []) ≡ 48 ∷ 65 ∷ 70 ∷ 70 ∷ 57 ∷ 48 ∷ []
  pub no_bytes : hex_of [] ≡ []
  pub nought : decimal 0 ≡ 48 ∷ []
  pub nine : decimal 9 ≡ 57 ∷ []
  pub ten : decimal 10 ≡ 49 ∷ 48 ∷ []
  pub last_zeros : decimal 100 ≡ 49 ∷ 48 ∷ 48 ∷ []
  pub inner_zeros : decimal 1002 ≡ 49 ∷ 48 ∷ 48 ∷ 50 ∷ []
  pub five_digits : decimal 65536 ≡ 54 ∷ 53 ∷ 53 ∷ 51 ∷ 54 ∷ []
  pub largest : decimal 18446744073709551615
      ≡ 49 ∷ 56 ∷ 52 ∷ 52 ∷ 54 ∷ 55 ∷ 52 ∷ 52 ∷ 48 ∷ 55 ∷ 51 ∷ 55 ∷ 48 ∷ 57 ∷ 53 ∷ 53 ∷ 49 ∷ 54 ∷ 49 ∷ 53 ∷ []
  pub last_2_digits : decimal_in 1 1234 ≡ 51 ∷ 52 ∷ []
  pub last_20_digits : decimal 720000000000000000034
      ≡ 50 ∷ 48 ∷ 48 ∷ 48 ∷ 48 ∷ 48 ∷ 48 ∷ 48 ∷ 48 ∷ 48 ∷ 48 ∷ 48 ∷ 48 ∷ 48 ∷ 48 ∷ 48 ∷ 48 ∷ 48 ∷ 51 ∷ 52 ∷ []

pub number_cases : NumberCases
unfolding hex_digit hex_of decimal_in decimal
number_cases = search
