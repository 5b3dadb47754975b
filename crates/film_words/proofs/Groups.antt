-- Laws of run groups: how many words they take, run by run and by place. Assumes nothing.
use mathlib.Core.Path.{◌≡◌, refl, ap, ◌∙◌, subst}
use mathlib.Core.Bool.{cond}
use mathlib.Core.List.{List, [], ◌∷◌}
use mathlib.Core.Option.{Option, none, some}
use Prim.Native.Nat.{ℕ, zero, suc, ◌+◌, ◌-◌, ◌/◌, ◌<◌, ◌≤◌}
use native.Mathlib.Omega.{arith}
use borrow.Author.Tests.{le-leb, lt-leb}
use lib.ListN.{length, drop, length-drop, drop_of_length-le}
use lib.Seq.{drop-cons}
use Rattle.film_words.specs.Words.{words, at}
use Rattle.film_words.proofs.Words.{length-words}
use Rattle.film_words.specs.Groups.{more, ended, last_run, lines_extent, group_extent}

-- ---- numbers of words, added up

-- a words, then b, are a + b
pub more-more : (a b : ℕ) (o : Option ℕ) → more a (more b o) ≡ more (a + b) o
more-more a b none = refl
more-more a b (some n) = ap some (omega arith)

-- an extent that does not run past len words
abbrev pub Within : ℕ → Option ℕ → Type 0
Within len none = Unit {0}
Within len (some n) = n ≤ len

within_more : (k len : ℕ) (o : Option ℕ) → Within len o → Within (k + len) (more k o)
within_more k len none h = tt
within_more k len (some n) h = omega arith

within-ended : (len n : ℕ) → Within len (ended n)
within-ended len zero = omega arith
within-ended len (suc n) = tt

-- ---- the runs of the lines, from the first on

-- no line is left
pub lines-done : (l : List ℕ) → lines_extent l 0 ≡ some 0
unfolding lines_extent
lines-done [] = refl
lines-done (f ∷ []) = refl
lines-done (f ∷ (w ∷ l)) = refl

-- a line is left, and no whole run
pub lines_short : (l : List ℕ) (n : ℕ) → length l < 2 → lines_extent l (suc n) ≡ none
unfolding lines_extent
lines_short [] n h = refl
lines_short (f ∷ []) n h = refl
lines_short (f ∷ (w ∷ l)) n h = absurd (omega arith)

-- the last run of a line
pub lines_last : (f w : ℕ) (l : List ℕ) (n : ℕ) → 32768 ≤ w → lines_extent (f ∷ (w ∷ l)) (suc n) ≡ more 2 (lines_extent l n)
unfolding lines_extent
lines_last f w l n h = rw (le-leb 32768 w h) refl

-- a run that is not its line's last
pub lines_next : (f w : ℕ) (l : List ℕ) (n : ℕ) → w < 32768 → lines_extent (f ∷ (w ∷ l)) (suc n) ≡ more 2 (lines_extent l (suc n))
unfolding lines_extent
lines_next f w l n h = rw (lt-leb 32768 w h) refl

-- the lines take no more words than there are
pub lines-within : (l : List ℕ) (n : ℕ) → Within (length l) (lines_extent l n)
unfolding lines_extent
lines-within [] n = within-ended 0 n
lines-within (f ∷ []) n = within-ended 1 n
lines-within (f ∷ (w ∷ l)) zero = omega arith
lines-within (f ∷ (w ∷ l)) (suc n) =
    let two : 2 + length l ≡ suc (suc (length l)) = omega arith in
    let m = cond (last_run w) n (suc n) in
    subst (λ (len : ℕ). Within len (more 2 (lines_extent l m))) two (within_more 2 (length l) (lines_extent l m) (lines-within l m))

-- nor does the group
pub group-within : (l : List ℕ) → Within (length l) (group_extent l)
unfolding group_extent
group-within [] = tt
group-within (s_size ∷ l) =
    let one : 1 + length l ≡ suc (length l) = omega arith in
    subst (λ (len : ℕ). Within len (more 1 (lines_extent l s_size))) one (within_more 1 (length l) (lines_extent l s_size) (lines-within l s_size))

-- a group that is there takes no more words than there are
pub group-fits : (l : List ℕ) (n : ℕ) → group_extent l ≡ some n → n ≤ length l
group-fits l n e = subst (Within (length l)) e (group-within l)

-- ---- by place

module _ (ws : List ℕ) where
  -- the two words at place q
  pub drop_two : (q : ℕ) → 2 ≤ length ws - q → drop q ws ≡ at ws q ∷ (at ws (q + 1) ∷ drop (q + 2) ws)
  drop_two q h =
      let one : suc q ≡ q + 1 = omega arith in
      let two : suc (q + 1) ≡ q + 2 = omega arith in
      drop-cons ws q 0 (omega arith)
      ∙ ap (λ (r : List ℕ). at ws q ∷ r)
      (ap (λ (x : ℕ). drop x ws) one ∙ drop-cons ws (q + 1) 0 (omega arith) ∙ ap (λ (x : ℕ). at ws (q + 1) ∷ drop x ws) two)

  -- a line is left, and no whole run
  pub run_none : (q n : ℕ) → 0 < n → length ws - q < 2 → lines_extent (drop q ws) n ≡ none
  run_none q zero z h = absurd (omega arith)
  run_none q (suc n) z h = lines_short (drop q ws) n (rw (length-drop q ws) h)

  -- the last run of a line
  pub run_last : (q n : ℕ) → 0 < n → 2 ≤ length ws - q → 32768 ≤ at ws (q + 1) → lines_extent (drop q ws) n ≡ more 2 (lines_extent (drop (q + 2) ws) (n - 1))
  run_last q zero z h t = absurd (omega arith)
  run_last q (suc n) z h t =
      ap (λ (l : List ℕ). lines_extent l (suc n)) (drop_two q h) ∙ lines_last (at ws q) (at ws (q + 1)) (drop (q + 2) ws) n t
      ∙ ap (λ (x : ℕ). more 2 (lines_extent (drop (q + 2) ws) x)) (omega arith)

  -- a run that is not its line's last
  pub run_next : (q n : ℕ) → 0 < n → 2 ≤ length ws - q → at ws (q + 1) < 32768 → lines_extent (drop q ws) n ≡ more 2 (lines_extent (drop (q + 2) ws) n)
  run_next q zero z h t = absurd (omega arith)
  run_next q (suc n) z h t =
      ap (λ (l : List ℕ). lines_extent l (suc n)) (drop_two q h) ∙ lines_next (at ws q) (at ws (q + 1)) (drop (q + 2) ws) n t

  -- the group at place p: its size, and the lines after it
  pub group_at : (p : ℕ) → p < length ws → group_extent (drop p ws) ≡ more 1 (lines_extent (drop (p + 1) ws) (at ws p))
  unfolding group_extent
  group_at p h =
      let one : suc p ≡ p + 1 = omega arith in
      ap group_extent (drop-cons ws p 0 h) ∙ ap (λ (x : ℕ). more 1 (lines_extent (drop x ws) (at ws p))) one

  -- no group stands past the end
  pub group-past : (p : ℕ) → length ws ≤ p → group_extent (drop p ws) ≡ none
  unfolding group_extent
  group-past p h = ap group_extent (drop_of_length-le ws {i = p} h)

  -- ---- the walk over the runs: it stands at place q with n lines to come

  -- the group at p takes the words up to q, and then those of n lines
  unfoldable pub Walked : ℕ → ℕ → ℕ → Type 0
  Walked p q n = group_extent (drop p ws) ≡ more (q - p) (lines_extent (drop q ws) n)

  -- at the beginning
  pub walked-first : (p : ℕ) → p < length ws → Walked p (p + 1) (at ws p)
  unfolding Walked
  walked-first p h = group_at p h ∙ ap (λ (k : ℕ). more k (lines_extent (drop (p + 1) ws) (at ws p))) (omega arith)

  -- two words on
  two_on : (p q n m : ℕ) → p ≤ q → Walked p q n → lines_extent (drop q ws) n ≡ more 2 (lines_extent (drop (q + 2) ws) m) → Walked p (q + 2) m
  unfolding Walked
  two_on p q n m h e s =
      e ∙ ap (more (q - p)) s ∙ more-more (q - p) 2 (lines_extent (drop (q + 2) ws) m)
      ∙ ap (λ (k : ℕ). more k (lines_extent (drop (q + 2) ws) m)) (omega arith)

  -- past the last run of a line
  pub walked_last : (p q n : ℕ) → p ≤ q → 0 < n → 2 ≤ length ws - q → 32768 ≤ at ws (q + 1) → Walked p q n → Walked p (q + 2) (n - 1)
  walked_last p q n h z l t e = two_on p q n (n - 1) h e (run_last q n z l t)

  -- past another run
  pub walked_next : (p q n : ℕ) → p ≤ q → 0 < n → 2 ≤ length ws - q → at ws (q + 1) < 32768 → Walked p q n → Walked p (q + 2) n
  walked_next p q n h z l t e = two_on p q n n h e (run_next q n z l t)

  -- the words run out
  pub walked_none : (p q n : ℕ) → Walked p q n → 0 < n → length ws - q < 2 → group_extent (drop p ws) ≡ none
  unfolding Walked
  walked_none p q n e z h = e ∙ ap (more (q - p)) (run_none q n z h)

  -- no line is left
  pub walked_done : (p q n : ℕ) → Walked p q n → n ≤ 0 → group_extent (drop p ws) ≡ some (q - p)
  unfolding Walked
  walked_done p q zero e z = e ∙ ap (more (q - p)) (lines-done (drop q ws)) ∙ ap some (omega arith)
  walked_done p q (suc n) e z = absurd (omega arith)

-- no group stands past the file's end
pub no_group : (bs : List ℕ) (p : ℕ) → length bs / 2 ≤ p → group_extent (drop p (words bs)) ≡ none
no_group bs p h = group-past (words bs) p (omega (arith, length-words bs))
