-- Laws of words: how they stand in the bytes. Assumes nothing.
use mathlib.Core.Path.{◌≡◌, refl, sym, ap, ap₂, ◌∙◌}
use mathlib.Core.List.{List, [], ◌∷◌}
use Prim.Native.Nat.{ℕ, zero, suc, ◌+◌, ◌*◌, ◌/◌, ◌<◌, ◌≤◌}
use native.Mathlib.Omega.{arith}
use lib.ListN.{length, take, drop, get_or, get_or-eq_default}
use lib.Seq.{get_or-drop}
use Rattle.film_words.specs.Words.{words, at, long_at}

-- ---- words and bytes

two_more : (i : ℕ) → 2 * suc i ≡ suc (suc (2 * i))
two_more i = omega arith

-- a file has half as many words as bytes
pub length-words : (bs : List ℕ) → length (words bs) ≡ length bs / 2
unfolding words
length-words [] = refl
length-words (a ∷ []) = refl
length-words (a ∷ (b ∷ bs)) = ap suc (length-words bs) ∙ halves (length bs)
  where
    halves : (n : ℕ) → suc (n / 2) ≡ suc (suc n) / 2
    halves n = omega arith

-- the words from place i on
pub drop-words : (i : ℕ) (bs : List ℕ) → words (drop (2 * i) bs) ≡ drop i (words bs)
unfolding words
drop-words zero bs = refl
drop-words (suc i) [] = ap (λ (n : ℕ). words (drop n [])) (two_more i)
drop-words (suc i) (a ∷ []) = ap (λ (n : ℕ). words (drop n (a ∷ []))) (two_more i)
drop-words (suc i) (a ∷ (b ∷ bs)) = ap (λ (n : ℕ). words (drop n (a ∷ (b ∷ bs)))) (two_more i) ∙ drop-words i bs

-- the first i words
pub take_words : (i : ℕ) (bs : List ℕ) → words (take (2 * i) bs) ≡ take i (words bs)
unfolding words
take_words zero bs = refl
take_words (suc i) [] = ap (λ (n : ℕ). words (take n [])) (two_more i)
take_words (suc i) (a ∷ []) = ap (λ (n : ℕ). words (take n (a ∷ []))) (two_more i)
take_words (suc i) (a ∷ (b ∷ bs)) =
    ap (λ (n : ℕ). words (take n (a ∷ (b ∷ bs)))) (two_more i) ∙ ap (λ (r : List ℕ). (256 * a + b) ∷ r) (take_words i bs)

-- the word at place i, by its two bytes
pub at_words : (bs : List ℕ) (i : ℕ) → 2 * i + 1 < length bs → at (words bs) i ≡ 256 * get_or bs (2 * i) 0 + get_or bs (2 * i + 1) 0
unfolding words
at_words [] i h = absurd (omega arith)
at_words (a ∷ []) i h = absurd (omega arith)
at_words (a ∷ (b ∷ bs)) zero h = refl
at_words (a ∷ (b ∷ bs)) (suc i) h =
    at_words bs i (omega arith)
    ∙ sym (ap₂ (λ (x y : ℕ). 256 * get_or (a ∷ (b ∷ bs)) x 0 + get_or (a ∷ (b ∷ bs)) y 0) (two_more i) (three-more i))
  where
    three-more : (i : ℕ) → 2 * suc i + 1 ≡ suc (suc (2 * i + 1))
    three-more i = omega arith

-- past the end each word is 0
pub at_past : (bs : List ℕ) (p : ℕ) → length bs / 2 ≤ p → at (words bs) p ≡ 0
at_past bs p h = get_or-eq_default (words bs) 0 (omega (arith, length-words bs))

-- the long number at place p, by its two places
pub long_is : (ws : List ℕ) (p : ℕ) → long_at ws p ≡ at ws p + 65536 * at ws (p + 1)
long_is ws p = let one : suc p ≡ p + 1 = omega arith in ap (λ (x : ℕ). at ws p + 65536 * at ws x) one

-- past the end each long number is 0
pub long_past : (bs : List ℕ) (p : ℕ) → length bs / 2 ≤ p → long_at (words bs) p ≡ 0
long_past bs p h = ap₂ (λ (x y : ℕ). x + 65536 * y) (at_past bs p h) (at_past bs (suc p) (omega arith))

-- ---- places

-- the words from place p on, by place
pub at_drop : (p : ℕ) (ws : List ℕ) (i : ℕ) → at (drop p ws) i ≡ at ws (p + i)
at_drop p ws i = get_or-drop p ws i 0
