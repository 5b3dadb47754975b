-- Laws of the ways to one page and to one of its bands: what is sought from the beginning is what is sought from the walk on. Assumes nothing.
use mathlib.Core.Path.{◌≡◌, refl, sym, ap, ◌∙◌}
use mathlib.Core.List.{List}
use Prim.Native.Nat.{ℕ, suc, ◌-◌, ◌≤◌}
use native.Mathlib.Omega.{arith}
use lib.ListN.{length}
use Rattle.std.proofs.Common.{Result, Ok, Err}
use Rattle.refusal.specs.Answers.{Answer, given, refused}
use Rattle.refusal.specs.Code.{refused_as}
use Rattle.refusal.specs.declared.Refusal.{Refusal}
use Rattle.film_words.specs.Words.{words}
use Rattle.film_herald.specs.Herald.{herald_of, band_count, whole_film}
use Rattle.film_layout.specs.Layout.{Span, layout_of, Page, reach_page, reach}
use Rattle.film_layout.specs.Walks.{to_come, span_of, node_as, Stepped}
use Rattle.film_layout.specs.declared.Walk.{Walk}
use Rattle.film_layout.specs.declared.Node as code
use Rattle.film_layout.specs.declared.Node.TheVariants as node
use Rattle.film_layout.proofs.Walks.{met}

-- ---- to page k

-- what is sought
abbrev pub page_sought : (sheet : List ℕ) → ℕ → Answer Page
page_sought sheet k = reach_page k (layout_of (words sheet))

-- it is page `left` of what is to come from walk w, where a page has the m bands that the herald says
pub record PageTo (sheet : List ℕ) (m k left : ℕ) (w : Walk) : Type 0 where
  pub count : m ≡ band_count (herald_of (words sheet))
  pub is : page_sought sheet k ≡ reach_page left (to_come sheet m w)

-- from the first page
pub page_first : (sheet : List ℕ) (m k : ℕ) (w : Walk) → m ≡ band_count (herald_of (words sheet))
    → to_come sheet (band_count (herald_of (words sheet))) w ≡ layout_of (words sheet) → PageTo sheet m k k w
page_first sheet m k w c e = record { count = c; is = sym (ap (λ (y : ℕ). reach_page k (to_come sheet y w)) c ∙ ap (reach_page k) e) }

-- one step from walk w
module _ {sheet : List ℕ} {m k left : ℕ} {w : Walk} (i : PageTo sheet m k left w) {r : Result code.Node Refusal} (x : Stepped sheet m w r) where
  -- at node s
  page_at_lem : (j : ℕ) (s : Result code.Node Refusal) → left ≡ j → r ≡ s → page_sought sheet k ≡ reach_page j (node_as sheet m s)
  page_at_lem j s l e = i.is ∙ ap (reach_page left) (met s x e).0 ∙ ap (λ (y : ℕ). reach_page y (node_as sheet m s)) l

  -- this page
  pub page_this : (v : Walk) → r ≡ Ok (node.Page v) → left ≡ 0
      → given (record { window = whole_film (herald_of (words sheet)); bands = to_come sheet (band_count (herald_of (words sheet))) v }) ≡ page_sought sheet k
  unfolding reach_page
  page_this v e z =
      let after : ℕ → Answer Page = λ y. given (record { window = whole_film (herald_of (words sheet)); bands = to_come sheet y v }) in
      sym (page_at_lem 0 (Ok (node.Page v)) z e ∙ ap after i.count)

  -- a page before it
  pub page_next : (v : Walk) → r ≡ Ok (node.Page v) → (left ≡ 0 → ⊥) → PageTo sheet m k (left - 1) v
  unfolding reach_page
  page_next v e z = let s : left ≡ suc (left - 1) = omega arith in record { count = i.count; is = page_at_lem (suc (left - 1)) (Ok (node.Page v)) s e }

  -- a band of a page before it
  pub page_band : (from to : ℕ) (v : Walk) → r ≡ Ok (node.Band from to v) → PageTo sheet m k left v
  unfolding reach_page
  page_band from to v e = record { count = i.count; is = page_at_lem left (Ok (node.Band from to v)) refl e }

  -- the pages end before it
  pub page_none : (p : ℕ) → r ≡ Ok (node.End p) → refused 11 0 ≡ page_sought sheet k
  unfolding reach_page
  page_none p e = sym (page_at_lem left (Ok (node.End p)) refl e)

  -- a count before it is wrong or missing
  pub page_refused : (y : Refusal) → r ≡ Err y → refused_as y ≡ page_sought sheet k
  unfolding reach_page
  page_refused y e = sym (page_at_lem left (Err y) refl e)

-- ---- to band k of what is to come from walk w₀, where a page has the bands that the herald says

-- what is sought
abbrev pub band_sought : (sheet : List ℕ) → Walk → ℕ → Answer Span
band_sought sheet w₀ k = reach k (to_come sheet (band_count (herald_of (words sheet))) w₀)

-- it is band `left` of what is to come from walk w, where a page has m bands
pub record BandTo (sheet : List ℕ) (w₀ : Walk) (m k left : ℕ) (w : Walk) : Type 0 where
  pub is : band_sought sheet w₀ k ≡ reach left (to_come sheet m w)

-- from the beginning
pub band_first : (sheet : List ℕ) (w₀ : Walk) (m k : ℕ) → m ≡ band_count (herald_of (words sheet)) → BandTo sheet w₀ m k k w₀
band_first sheet w₀ m k c = record { is = sym (ap (λ (y : ℕ). reach k (to_come sheet y w₀)) c) }

-- one step from walk w
module _ {sheet : List ℕ} {w₀ : Walk} {m k left : ℕ} {w : Walk} (i : BandTo sheet w₀ m k left w) {r : Result code.Node Refusal} (x : Stepped sheet m w r) where
  -- at node s
  band_at : (j : ℕ) (s : Result code.Node Refusal) → left ≡ j → r ≡ s → band_sought sheet w₀ k ≡ reach j (node_as sheet m s)
  band_at j s l e = i.is ∙ ap (reach left) (met s x e).0 ∙ ap (λ (y : ℕ). reach y (node_as sheet m s)) l

  -- this band, which lies in the sheet
  pub band_this : (from to : ℕ) (v : Walk) → r ≡ Ok (node.Band from to v) → left ≡ 0
      → (given (span_of sheet from to) ≡ band_sought sheet w₀ k) × ((from ≤ to) × (to ≤ length (words sheet)))
  unfolding reach
  band_this from to v e z = (sym (band_at 0 (Ok (node.Band from to v)) z e), ((met (Ok (node.Band from to v)) x e).1.1, (met (Ok (node.Band from to v)) x e).1.2))

  -- a band before it
  pub band_next : (from to : ℕ) (v : Walk) → r ≡ Ok (node.Band from to v) → (left ≡ 0 → ⊥) → BandTo sheet w₀ m k (left - 1) v
  unfolding reach
  band_next from to v e z = let s : left ≡ suc (left - 1) = omega arith in record { is = band_at (suc (left - 1)) (Ok (node.Band from to v)) s e }

  -- the next page begins before it
  pub band_page : (v : Walk) → r ≡ Ok (node.Page v) → refused 11 0 ≡ band_sought sheet w₀ k
  unfolding reach
  band_page v e = sym (band_at left (Ok (node.Page v)) refl e)

  -- the pages end before it
  pub band_none : (p : ℕ) → r ≡ Ok (node.End p) → refused 11 0 ≡ band_sought sheet w₀ k
  unfolding reach
  band_none p e = sym (band_at left (Ok (node.End p)) refl e)

  -- a count before it is wrong or missing
  pub band_refused : (y : Refusal) → r ≡ Err y → refused_as y ≡ band_sought sheet w₀ k
  unfolding reach
  band_refused y e = sym (band_at left (Err y) refl e)
