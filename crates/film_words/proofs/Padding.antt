-- Laws of the padding of sample arrays, by place. Assumes nothing.
use mathlib.Core.Path.{◌≡◌, refl, sym, ap, ◌∙◌}
use mathlib.Core.Bool.{Bool, true, false, not, ◌||◌}
use mathlib.Core.List.{List}
use mathlib.Core.Option.{some}
use Prim.Native.Nat.{ℕ, zero, suc, ◌+◌, ◌-◌, ◌*◌, ◌/◌, ◌%◌, ◌^◌, ◌<◌, ◌≤◌}
use native.Mathlib.Nat.{add-zero, suc-mul, mul-le-mul_right, mod-one}
use native.Mathlib.Decide.{dec_lt}
use native.Mathlib.Omega.{arith}
use borrow.Author.Tests.{eq-eqb, ne_eqb}
use lib.Arith.{digits_div}
use lib.Bits.{bit_and, and_mask}
use lib.ListN.{length, take, drop, drop_of_length-le}
use lib.Pow.{ones_split, ones_lt}
use lib.Seq.{get_or-take}
use Rattle.std.specs.Int.{div_ceil}
use Rattle.film_words.specs.Words.{words, at}
use Rattle.film_words.specs.Arrays.{line_words, array_words, array_extent}
use Rattle.film_words.specs.Padding.{padding_bits, padding, lines_padding_set, padding_set}
use Rattle.film_words.proofs.Words.{length-words, at_drop}
use Rattle.film_words.proofs.Arrays.{array_fits}

-- ---- by lines

module _ (ws : List ℕ) where
  -- a line whose padding is not 0 sets the array's
  line_set : (i n : ℕ) → (padding ws i ≡ 0 → ⊥) → i < n → lines_padding_set ws n ≡ true
  unfolding lines_padding_set
  line_set i zero s h = absurd (omega arith)
  line_set i (suc n) s h = go (dec_lt i n) (line_set i n s)
    where
      or-true : (b : Bool) → (b || true) ≡ true
      or-true true = refl
      or-true false = refl

      go : Dec (i < n) → (i < n → lines_padding_set ws n ≡ true) → lines_padding_set ws (suc n) ≡ true
      go (yes l) r = rw (r l) refl
      go (no l) r =
          let e : n ≡ i = omega arith in
          ap (λ (b : Bool). lines_padding_set ws n || not b) (ne_eqb (padding ws n) 0 (λ z. s (ap (padding ws) (sym e) ∙ z))) ∙ or-true (lines_padding_set ws n)

  -- one more line whose padding is 0
  line_clear : (i : ℕ) → lines_padding_set ws i ≡ false → padding ws i ≡ 0 → lines_padding_set ws (suc i) ≡ false
  unfolding lines_padding_set
  line_clear i h z = rw (h, eq-eqb (padding ws i) 0 z) refl

  pub next_clear : (i : ℕ) → lines_padding_set ws i ≡ false → padding ws i ≡ 0 → lines_padding_set ws (i + 1) ≡ false
  next_clear i h z = let one : i + 1 ≡ suc i = omega arith in ap (lines_padding_set ws) one ∙ line_clear i h z

  -- no bit is padding
  no_padding : (n : ℕ) → padding_bits (at ws 1) ≡ 0 → lines_padding_set ws n ≡ false
  unfolding lines_padding_set
  no_padding zero e = refl
  no_padding (suc n) e = line_clear n (no_padding n e) (ap (λ (k : ℕ). at ws (1 + suc n * line_words (at ws 1)) % 2 ^ k) e ∙ mod-one _)

-- ---- by places

-- the array at place p: what its lines say
module _ (ws : List ℕ) (p : ℕ) where
  size_at : {lines : ℕ} → lines ≡ at ws p → at (drop p ws) 0 ≡ lines
  size_at w = at_drop p ws 0 ∙ ap (at ws) (add-zero p) ∙ sym w

  pub array_set : {lines i : ℕ} → lines ≡ at ws p → i < lines → (padding (drop p ws) i ≡ 0 → ⊥) → padding_set (drop p ws) ≡ true
  unfolding padding_set
  array_set {lines} {i} w h s = ap (lines_padding_set (drop p ws)) (size_at w) ∙ line_set (drop p ws) i lines s h

  pub array_clear : lines_padding_set (drop p ws) (at ws p) ≡ false → padding_set (drop p ws) ≡ false
  unfolding padding_set
  array_clear h = ap (lines_padding_set (drop p ws)) (size_at refl) ∙ h

  -- its lines are whole words
  pub array_unpadded : at ws (p + 1) % 16 ≡ 0 → padding_set (drop p ws) ≡ false
  unfolding padding_set
  array_unpadded h =
      let z : padding_bits (at ws (p + 1)) ≡ 0 = omega arith in
      no_padding (drop p ws) (at (drop p ws) 0) (ap padding_bits (at_drop p ws 1) ∙ z)

  -- no word is there
  pub array_nowhere : length ws ≤ p → padding_set (drop p ws) ≡ false
  unfolding padding_set lines_padding_set
  array_nowhere h = ap padding_set (drop_of_length-le ws {i = p} h)

-- the last, by the file's bytes
pub no_array : (bs : List ℕ) (p : ℕ) → length bs / 2 ≤ p → padding_set (drop p (words bs)) ≡ false
no_array bs p h = array_nowhere (words bs) p (omega (arith, length-words bs))

-- the mask of a line's padding, where it has some
mask_is : (dots : ℕ) → (dots % 16 ≡ 0 → ⊥) → 65535 / 2 ^ (dots % 16) ≡ 2 ^ padding_bits dots - 1
mask_is dots h =
    let r = dots % 16 in
    let k : 16 - r ≡ padding_bits dots = omega arith in
    let s : 16 ≡ 16 - r + r = omega arith in
    ap (λ (n : ℕ). (2 ^ n - 1) / 2 ^ r) s ∙ ap (λ (n : ℕ). n / 2 ^ r) (ones_split (16 - r) r)
    ∙ digits_div (2 ^ (16 - r) - 1) (ones_lt r) ∙ ap (λ (n : ℕ). 2 ^ n - 1) k

-- the padding of line i of the array at place p, by the line's last word w; q is the word before the line, and a line takes n words
pub padding-at : (ws : List ℕ) (p i dots q n d w : ℕ) → dots ≡ at ws (p + 1) → (dots % 16 ≡ 0 → ⊥) → q ≡ p + 1 + i * line_words dots
    → d ≡ dots → n ≡ div_ceil d 16 → w ≡ at ws (q + n) → bit_and w (65535 / 2 ^ (dots % 16)) ≡ padding (drop p ws) i
padding-at ws p i dots q n k w d h e t s a =
    let d' : dots ≡ at (drop p ws) 1 = d ∙ sym (at_drop p ws 1) in
    let n : q + n ≡ p + (1 + suc i * line_words dots) = omega (arith, suc-mul i (line_words dots)) in
    let w' : w ≡ at (drop p ws) (1 + suc i * line_words dots) = a ∙ ap (at ws) n ∙ sym (at_drop p ws (1 + suc i * line_words dots)) in
    ap (bit_and w) (mask_is dots h) ∙ and_mask w (padding_bits dots)
    ∙ ap (λ (x : ℕ). x % 2 ^ padding_bits dots) w'
    ∙ ap (λ (x : ℕ). at (drop p ws) (1 + suc i * line_words x) % 2 ^ padding_bits x) d'

-- ---- an array that is there, alone

module _ (ws : List ℕ) (n : ℕ) (e : array_extent ws ≡ some n) where
  -- a word of it
  alone_at : (j : ℕ) → j < n → at (take n ws) j ≡ at ws j
  alone_at j h = get_or-take n ws j 0 h

  alone_lines : (i : ℕ) → i ≤ at ws 0 → lines_padding_set (take n ws) i ≡ lines_padding_set ws i
  unfolding lines_padding_set
  alone_lines zero h = refl
  alone_lines (suc i) h =
      let c : n ≡ array_words ws = (array_fits ws n e).0 in
      let m : suc i * line_words (at ws 1) ≤ at ws 0 * line_words (at ws 1) = mul-le-mul_right (line_words (at ws 1)) h in
      let w = alone_at (1 + suc i * line_words (at ws 1)) (omega arith) in
      let f = alone_at 1 (omega arith) in
      rw (alone_lines i (omega arith), f, w) refl

  -- the words after it do not matter
  pub padding_alone : padding_set (take n ws) ≡ padding_set ws
  unfolding padding_set
  padding_alone =
      let c : n ≡ array_words ws = (array_fits ws n e).0 in
      ap (lines_padding_set (take n ws)) (alone_at 0 (omega arith)) ∙ alone_lines (at ws 0) (omega arith)
