-- Laws of one step of the walk over pages and bands. Assumes nothing.
use mathlib.Core.Path.{◌≡◌, refl, sym, ap, ap₂, subst, ◌∙◌}
use mathlib.Core.List.{List, ◌∷◌}
use Prim.Native.Nat.{ℕ, zero, suc, ◌+◌, ◌-◌, ◌<◌, ◌≤◌}
use native.Mathlib.Omega.{arith}
use borrow.Author.Tests.{le-leb, lt-leb, eq-eqb, ne_eqb}
use lib.ListN.{length, drop, length-drop, drop_of_length-le}
use lib.Seq.{drop-cons, drop-drop}
use Rattle.refusal.specs.Answers.{given, refused}
use Rattle.refusal.specs.Code.{refused_as}
use Rattle.refusal.specs.declared.Refusal.{Refusal}
use Rattle.std.proofs.Common.{Result, Err}
use Rattle.film_words.specs.Words.{words, at}
use Rattle.film_words.proofs.Words.{length-words}
use Rattle.film_words.proofs.Parts.{part_taken}
use Rattle.film_herald.specs.Herald.{herald_of, page_count, band_count, whole_film}
use Rattle.film_layout.specs.Layout.{span, page_head, band, ends, bands_then, pages_from, layout_of}
use Rattle.film_layout.specs.Walks.{to_come, span_of, node_as, Onward, Stepped}
use Rattle.film_layout.specs.declared.Node as code
use Rattle.film_layout.specs.declared.Walk.{Walk}

-- how many words a file has
pub ruleset lengths = (length-words)

-- what `next` promises of its answer r, which is s
pub met : {sheet : List ℕ} {m : ℕ} {w : Walk} {r : Result code.Node Refusal} (s : Result code.Node Refusal) → Stepped sheet m w r → r ≡ s
    → (to_come sheet m w ≡ node_as sheet m s) × Onward sheet w s
met {sheet} {m} {w} s x e = (sym x.is ∙ ap (node_as sheet m) e, subst (Onward sheet w) e x.on)

-- an answer r that is refusal e
pub stopped : {sheet : List ℕ} {m : ℕ} {w : Walk} {r : Result code.Node Refusal} {e : Refusal} → r ≡ Err e → ends (refused_as e) ≡ to_come sheet m w
    → Stepped sheet m w r
stopped {sheet} {m} {w} i t = let P : Result code.Node Refusal → Type 0 = Stepped sheet m w in subst P (sym i) (record { is = t; on = tt })

-- the walk at place p
abbrev pub walk : (pages bands p : ℕ) → Walk
walk pages bands p = record { at = p; bands = bands; pages = pages }

-- at the first page
pub walk_first : (sheet : List ℕ) (n : ℕ) → n ≡ page_count (words sheet)
    → to_come sheet (band_count (herald_of (words sheet))) (walk n 0 12) ≡ layout_of (words sheet)
unfolding to_come bands_then
walk_first sheet n e = rw e refl

-- where a page has m bands
module _ (sheet : List ℕ) (m : ℕ) where
  -- nothing is to come
  pub walk_end : (pages bands p : ℕ) → bands ≤ 0 → pages ≡ 0 → ends (given (span p (drop p (words sheet)))) ≡ to_come sheet m (walk pages bands p)
  unfolding to_come bands_then pages_from
  walk_end zero zero p b z = refl
  walk_end (suc n) zero p b z = absurd (omega arith)
  walk_end n (suc b) p c z = absurd (omega arith)

  -- a count is missing
  pub walk_missing : (pages bands p : ℕ) → 0 < pages + bands → length (words sheet) ≤ p → ends (refused 6 p) ≡ to_come sheet m (walk pages bands p)
  unfolding to_come bands_then pages_from
  walk_missing n (suc b) p z l = rw (drop_of_length-le (words sheet) {i = p} l) refl
  walk_missing (suc n) zero p z l = rw (drop_of_length-le (words sheet) {i = p} l) refl
  walk_missing zero zero p z l = absurd (omega arith)

  -- a count c stands at place p
  module _ (p c : ℕ) (l : p < length (words sheet)) (w : c ≡ at (words sheet) p) where
    -- the count, and the words after it
    counted : drop p (words sheet) ≡ c ∷ drop (p + 1) (words sheet)
    counted =
        let one : suc p ≡ p + 1 = omega arith in
        drop-cons (words sheet) p 0 l ∙ ap₂ (λ (x y : ℕ). x ∷ drop y (words sheet)) (sym w) one

    -- a band runs past the sheet
    pub walk-past : (pages bands : ℕ) → 0 < bands → length (words sheet) - p - 1 < c → ends (refused 6 p) ≡ to_come sheet m (walk pages bands p)
    unfolding to_come bands_then
    walk-past pages zero z o = absurd (omega arith)
    walk-past pages (suc b) z o =
        let past : length (drop (p + 1) (words sheet)) < c = omega (arith, length-drop (p + 1) (words sheet)) in
        rw (counted, lt-leb c (length (drop (p + 1) (words sheet))) past) refl

    -- a band, and what comes after it
    pub walk_band : (pages bands : ℕ) → 0 < bands → c ≤ length (words sheet) - p - 1
        → band (span_of sheet (p + 1) (p + 1 + c)) (to_come sheet m (walk pages (bands - 1) (p + 1 + c))) ≡ to_come sheet m (walk pages bands p)
    unfolding to_come bands_then
    walk_band pages zero z o = absurd (omega arith)
    walk_band pages (suc b) z o =
        let fits : c ≤ length (drop (p + 1) (words sheet)) = omega (arith, length-drop (p + 1) (words sheet)) in
        let one : suc p ≡ p + 1 = omega arith in
        let less : b ≡ suc b - 1 = omega arith in
        let next : drop c (drop (p + 1) (words sheet)) ≡ drop (p + 1 + c) (words sheet) = drop-drop c (p + 1) (words sheet) in
        rw (counted, le-leb c (length (drop (p + 1) (words sheet))) fits, next, one, ← less, ← part_taken sheet (p + 1) c fits) refl

    -- a page with another number of bands
    pub walk_wrong : (pages bands : ℕ) → bands ≤ 0 → (pages ≡ 0 → ⊥) → (c ≡ m → ⊥)
        → ends (refused 5 p) ≡ to_come sheet m (walk pages bands p)
    unfolding to_come bands_then pages_from
    walk_wrong pages (suc b) z n o = absurd (omega arith)
    walk_wrong zero zero z n o = absurd (n refl)
    walk_wrong (suc k) zero z n o = rw (counted, ne_eqb c m o) refl

    -- a page
    pub walk_page : (pages bands : ℕ) → bands ≤ 0 → (pages ≡ 0 → ⊥) → c ≡ m
        → page_head (whole_film (herald_of (words sheet))) (to_come sheet m (walk (pages - 1) m (p + 1))) ≡ to_come sheet m (walk pages bands p)
    unfolding to_come bands_then pages_from
    walk_page pages (suc b) z n o = absurd (omega arith)
    walk_page zero zero z n o = absurd (n refl)
    walk_page (suc k) zero z n o =
        let one : suc p ≡ p + 1 = omega arith in
        let less : k ≡ suc k - 1 = omega arith in
        rw (counted, eq-eqb c m o, one, ← less) refl
