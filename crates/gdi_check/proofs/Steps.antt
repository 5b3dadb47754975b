-- Laws of the check's steps: a step by what stands there, and the bounds of the states that it goes on to. Assumes nothing.
use mathlib.Core.Path.{◌≡◌, refl, sym, ap, ap₂, ◌∙◌, subst}
use mathlib.Core.Bool.{Bool, true, false, cond}
use mathlib.Core.List.{List}
use Prim.Native.Nat.{ℕ, ◌+◌, ◌-◌, ◌<◌, ◌≤◌}
use native.Mathlib.Omega.{arith}
use borrow.Author.Tests.{lt-ltb, le-ltb, leb-false, eqb-false}
use lib.Dec.{eqb, leb, ltb}
use lib.ListN.{length}
use Rattle.gdi_jobs.specs.Commands.{Command, dots_of}
use Rattle.gdi_jobs.specs.Groups.{Group, cut, page_head, wrong_page_head, block, page_end, document_end, unknown, group}
use Rattle.gdi_jobs.specs.Pages.{Next, to_block, to_end, to_command, fault, next}
use Rattle.gdi_jobs.specs.Jobs.{State, between, in_page, onward, done, stop, step_between, with_sum, step_in_page, step}
use Rattle.gdi_jobs.proofs.Groups.{never, group_head}
use Rattle.gdi_jobs.proofs.Pages.{next_full}
use Rattle.gdi_check.specs.Functions.{Bounded}

-- ---- by what stands there

pub between_is : (n pages : ℕ) (bs : List ℕ) (g : Group) → n ≡ length bs → g ≡ group bs → step_between pages n g ≡ step (between pages) bs
unfolding step
between_is n pages bs g e f = ap₂ (step_between pages) e f

-- the document end, with bytes after it and without
pub end_before : (n pages : ℕ) → 6 < n → stop 26 6 ≡ step_between pages n document_end
end_before n pages h = rw (lt-ltb 6 n h) refl

pub end_last : (n pages : ℕ) → n ≤ 6 → done pages ≡ step_between pages n document_end
end_last n pages h = rw (le-ltb 6 n h) refl

module _ (pages width height lines sum left : ℕ) (full : Bool) (bs : List ℕ) (f : full ≡ eqb lines height) where
  pub in_page_is : (x : Next) → x ≡ next full full left bs → step_in_page pages width height lines sum left x ≡ step (in_page pages width height lines sum left) bs
  unfolding step
  in_page_is x e = ap (step_in_page pages width height lines sum left) (e ∙ ap (λ (t : Bool). next t t left bs) f)

  -- a command comes only where the page is not full
  pub not_full : (c : Command) (n : ℕ) → lines ≤ height → next full full left bs ≡ to_command c n → lines < height
  not_full c n h e = go full f refl
    where
      go : (t : Bool) → t ≡ eqb lines height → full ≡ t → lines < height
      go true p q = absurd (next_full full full left bs c n q e)
      go false p q = let d = eqb-false lines height (sym p) in omega arith

-- ---- the bounds

bounded-between : (pages at : ℕ) (bs : List ℕ) (t : State) (n : ℕ) (g : Group) → group bs ≡ g → pages ≤ at → step_between pages (length bs) g ≡ onward t n
    → Bounded t (at + n)
bounded-between pages at bs t n cut q h e = never (cc)
bounded-between pages at bs t n (page_head w v) q h e =
    let k = (group_head bs w v q).holds in
    let u : in_page pages w v 0 0 0 ≡ t = cc in
    subst (λ (s : State). Bounded s (at + n)) u (omega arith, k.most_width, k.most_height, omega arith, k.some_width)
bounded-between pages at bs t n wrong_page_head q h e = never (cc)
bounded-between pages at bs t n (block size) q h e = never (cc)
bounded-between pages at bs t n page_end q h e = never (cc)
bounded-between pages at bs t n document_end q h e = go (ltb 6 (length bs)) e
  where
    go : (b : Bool) → cond b (stop 26 6) (done pages) ≡ onward t n → Bounded t (at + n)
    go true e = never (cc)
    go false e = never (cc)
bounded-between pages at bs t n unknown q h e = never (cc)

bounded-sum : (pages width height lines sum left at : ℕ) → pages ≤ at → width ≤ 16383 → height ≤ 65535 → lines < height → 0 < width
    → Bounded (with_sum pages width height lines sum left) at
bounded-sum pages width height lines sum left at p w h l z = go (leb width sum) refl
  where
    go : (t : Bool) → leb width sum ≡ t → Bounded (cond t (in_page pages width height (lines + 1) 0 left) (in_page pages width height lines sum left)) at
    go true e = (p, w, h, omega arith, z)
    go false e = (p, w, h, omega arith, leb-false width sum e)

bounded_in_page : (pages width height lines sum left at : ℕ) (bs : List ℕ) (t : State) (n : ℕ) (x : Next) → next (eqb lines height) (eqb lines height) left bs ≡ x
    → Bounded (in_page pages width height lines sum left) at → step_in_page pages width height lines sum left x ≡ onward t n → Bounded t (at + n)
bounded_in_page pages width height lines sum left at bs t n (to_block size) q b e =
    let u : in_page pages width height lines sum size ≡ t = cc in
    subst (λ (s : State). Bounded s (at + n)) u (omega arith, b.1, b.2, b.3, b.4)
bounded_in_page pages width height lines sum left at bs t n to_end q b e =
    let u : between (pages + 1) ≡ t = cc in
    let k : 6 ≡ n = cc in
    subst (λ (s : State). Bounded s (at + n)) u (omega arith)
bounded_in_page pages width height lines sum left at bs t n (to_command c k) q b e =
    let u : with_sum pages width height lines (sum + dots_of c) (left - k) ≡ t = cc in
    let l = not_full pages width height lines sum left (eqb lines height) bs refl c k b.3 q in
    subst (λ (s : State). Bounded s (at + n)) u
    (bounded-sum pages width height lines (sum + dots_of c) (left - k) (at + n) (omega arith) b.1 b.2 l (omega arith))
bounded_in_page pages width height lines sum left at bs t n (fault number i) q b e = never (cc)

-- a state within its bounds goes on to one within its bounds
pub bounded-onward : (s t : State) (at n : ℕ) (bs : List ℕ) → Bounded s at → step s bs ≡ onward t n → Bounded t (at + n)
unfolding step
bounded-onward (between pages) t at n bs b e = bounded-between pages at bs t n (group bs) refl b e
bounded-onward (in_page pages width height lines sum left) t at n bs b e =
    bounded_in_page pages width height lines sum left at bs t n (next (eqb lines height) (eqb lines height) left bs) refl b e
