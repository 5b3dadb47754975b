-- Laws of digits. Assumes nothing.
use mathlib.Core.Path.{◌≡◌, refl, ap, ◌∙◌}
use mathlib.Core.List.{List, [], ◌∷◌, ◌++◌, append_assoc}
use Prim.Native.Nat.{ℕ, zero, suc, ◌+◌, ◌*◌, ◌/◌, ◌%◌, ◌<◌, ◌≤◌}
use native.Mathlib.Omega.{arith}
use borrow.Author.Tests.{lt-ltb, le-ltb}
use lib.Dec.{ltb}
use lib.ListN.{length, get_or, length-append}
use mathlib.Core.Bool.{cond}
use native.Mathlib.Decide.{dec_lt}
use Rattle.text.specs.Numbers.{hex_digit, hex_of, decimal_in, decimal}

-- ---- hexadecimal

pub hex_digit_low : (d : ℕ) → d < 10 → hex_digit d ≡ 48 + d
unfolding hex_digit
hex_digit_low d h = rw (lt-ltb _ _ h) refl

pub hex_digit_high : (d : ℕ) → 10 ≤ d → hex_digit d ≡ 55 + d
unfolding hex_digit
hex_digit_high d h = rw (le-ltb _ _ h) refl

pub hex_length : (row : List ℕ) → length (hex_of row) ≡ 2 * length row
unfolding hex_of
hex_length [] = refl
hex_length (b ∷ bs) = let e = hex_length bs in omega arith

-- the two digits of byte i, with the text s after all of them
pub hex_high : (row s : List ℕ) (i : ℕ) → i < length row → get_or (hex_of row ++ s) (2 * i) 0 ≡ hex_digit (get_or row i 0 / 16)
unfolding hex_of
hex_high [] s i h = absurd (omega arith)
hex_high (b ∷ bs) s zero h = refl
hex_high (b ∷ bs) s (suc i) h =
    let e : 2 * suc i ≡ suc (suc (2 * i)) = omega arith in
    ap (λ (j : ℕ). get_or (hex_of (b ∷ bs) ++ s) j 0) e ∙ hex_high bs s i (omega arith)

pub hex_low : (row s : List ℕ) (i : ℕ) → i < length row → get_or (hex_of row ++ s) (2 * i + 1) 0 ≡ hex_digit (get_or row i 0 % 16)
unfolding hex_of
hex_low [] s i h = absurd (omega arith)
hex_low (b ∷ bs) s zero h = refl
hex_low (b ∷ bs) s (suc i) h =
    let e : 2 * suc i + 1 ≡ suc (suc (2 * i + 1)) = omega arith in
    ap (λ (j : ℕ). get_or (hex_of (b ∷ bs) ++ s) j 0) e ∙ hex_low bs s i (omega arith)

-- ---- decimal

-- a number of more than one digit, before the text s: its last digit stands before s
pub decimal_last : (k n : ℕ) (s : List ℕ) → 10 ≤ n → decimal_in (suc k) n ++ s ≡ decimal_in k (n / 10) ++ ((48 + n % 10) ∷ s)
unfolding decimal_in
decimal_last k n s h = rw (le-ltb _ _ h) (append_assoc (decimal_in k (n / 10)) ((48 + n % 10) ∷ []) s)

-- a number of one digit
pub decimal_digit : (k n : ℕ) (s : List ℕ) → n < 10 → decimal_in k n ++ s ≡ (48 + n) ∷ s
unfolding decimal_in
decimal_digit zero n s h = ap (λ (d : ℕ). (48 + d) ∷ s) (omega arith)
decimal_digit (suc k) n s h = rw (lt-ltb _ _ h) refl

-- it has at most k + 1 digits
length-decimal_in : (k n : ℕ) → length (decimal_in k n) ≤ k + 1
unfolding decimal_in
length-decimal_in zero n = omega arith
length-decimal_in (suc k) n = go (length-decimal_in k (n / 10)) (dec_lt n 10)
  where
    go : length (decimal_in k (n / 10)) ≤ k + 1 → Dec (n < 10)
        → length (cond (ltb n 10) ((48 + n) ∷ []) (decimal_in k (n / 10) ++ ((48 + n % 10) ∷ []))) ≤ suc k + 1
    go l (yes h) = rw (lt-ltb _ _ h) (omega arith)
    go l (no h) = rw (le-ltb n 10 (omega arith)) (omega (arith, length-append (decimal_in k (n / 10)) ((48 + n % 10) ∷ [])))

pub length-decimal : (n : ℕ) → length (decimal n) ≤ 20
unfolding decimal
length-decimal n = length-decimal_in 19 n
