-- Laws of sample arrays by place: how many words the array at place p of ws takes. Assumes nothing.
use mathlib.Core.Path.{◌≡◌, refl, sym, ap, ap₂, ◌∙◌, subst}
use mathlib.Core.Bool.{Bool, true, false, cond}
use mathlib.Core.List.{List}
use mathlib.Core.Option.{Option, none, some}
use Prim.Native.Nat.{ℕ, ◌+◌, ◌-◌, ◌*◌, ◌/◌, ◌<◌, ◌≤◌}
use native.Mathlib.Nat.{add-zero, mul-le-mul, le_of_suc-le-suc}
use native.Mathlib.Decide.{dec_le}
use native.Mathlib.Omega.{arith}
use borrow.Author.Tests.{le-leb, lt-leb, leb-true}
use lib.Dec.{leb}
use lib.ListN.{length, drop, length-drop}
use Rattle.std.proofs.Common.{None}
use Rattle.film_words.specs.Words.{words, at}
use Rattle.std.specs.Bool.{then_some}
use Rattle.std.specs.Int.{div_ceil}
use Rattle.film_words.specs.Arrays.{array_words, array_extent, line_words}
use Rattle.film_words.specs.Answers.{extent_of}
use Rattle.film_words.proofs.Words.{length-words, at_drop}

-- sizes of 16 bits claim few enough words for any count of them to fit
pub sizes_fit : (a b : ℕ) → a < 65536 → b < 65536 → a * line_words b ≤ 65535 * 4096
sizes_fit a b h l = let r : line_words b ≤ 4096 = omega arith in mul-le-mul (le_of_suc-le-suc h) r

-- the division that rounds up, of the code and of the definitions
pub ceil_line_words : (dots : ℕ) → div_ceil dots 16 ≡ line_words dots
ceil_line_words dots = omega arith

module _ (ws : List ℕ) where
  -- the words that the array at place p claims
  pub array_words_lem : (p : ℕ) → array_words (drop p ws) ≡ 2 + at ws p * line_words (at ws (p + 1))
  array_words_lem p =
      ap₂ (λ (x y : ℕ). 2 + x * line_words y) (at_drop p ws 0 ∙ ap (at ws) (add-zero p)) (at_drop p ws 1)

  -- it has them
  pub array_there : (p n : ℕ) → n ≡ array_words (drop p ws) → n ≤ length ws - p → array_extent (drop p ws) ≡ some n
  unfolding array_extent
  array_there p n e h = rw (← e, length-drop, le-leb n (length ws - p) h) refl

  -- it has not
  pub array_past : (p n : ℕ) → n ≡ array_words (drop p ws) → length ws - p < n → array_extent (drop p ws) ≡ none
  unfolding array_extent
  array_past p n e h = rw (← e, length-drop, lt-leb n (length ws - p) h) refl

  -- not even its two sizes
  pub array_no_sizes : (p : ℕ) → length ws - p < 2 → array_extent (drop p ws) ≡ none
  array_no_sizes p h = array_past p (array_words (drop p ws)) refl (omega arith)

-- ---- by the file's bytes, as the code measures

-- not even the two sizes are there
pub array_none : (bs : List ℕ) (p : ℕ) → length bs / 2 - p < 2 → extent_of (array_extent (drop p (words bs))) ≡ None
array_none bs p h = ap extent_of (array_no_sizes (words bs) p (omega (arith, length-words bs)))

-- they are: the array has the words that it claims, or runs past the end
pub array_some : (bs : List ℕ) (p : ℕ)
    → extent_of (array_extent (drop p (words bs)))
    ≡ then_some (leb (2 + at (words bs) p * div_ceil (at (words bs) (p + 1)) 16) (length bs / 2 - p)) (2 + at (words bs) p * div_ceil (at (words bs) (p + 1)) 16)
array_some bs p =
    let n : array_words (drop p (words bs)) ≡ 2 + at (words bs) p * div_ceil (at (words bs) (p + 1)) 16 =
    array_words_lem (words bs) p ∙ ap (λ k. 2 + at (words bs) p * k) (sym (ceil_line_words (at (words bs) (p + 1)))) in
    go _ (dec_le _ (length bs / 2 - p)) (sym n)
  where
    go : (n : ℕ) → Dec (n ≤ length bs / 2 - p) → n ≡ array_words (drop p (words bs))
        → extent_of (array_extent (drop p (words bs))) ≡ then_some (leb n (length bs / 2 - p)) n
    go n (yes h) e = rw (le-leb n (length bs / 2 - p) h) (ap extent_of (array_there (words bs) p n e (omega (arith, length-words bs))))
    go n (no h) e =
        let past : length bs / 2 - p < n = omega arith in
        rw (lt-leb n (length bs / 2 - p) past) (ap extent_of (array_past (words bs) p n e (omega (arith, length-words bs))))

-- of an array that is there: it takes what it claims, and the words have it
abbrev Taken : List ℕ → Option ℕ → Type 0
Taken l none = Unit {0}
Taken l (some n) = (n ≡ array_words l) × (n ≤ length l)

-- an array that is there takes the words that it claims, and no more than there are
pub array_fits : (l : List ℕ) (n : ℕ) → array_extent l ≡ some n → (n ≡ array_words l) × (n ≤ length l)
unfolding array_extent
array_fits l n e = subst (Taken l) e (go (leb (array_words l) (length l)) refl)
  where
    go : (t : Bool) → leb (array_words l) (length l) ≡ t → Taken l (cond t (some (array_words l)) none)
    go true q = (refl, leb-true (array_words l) (length l) q)
    go false q = tt
