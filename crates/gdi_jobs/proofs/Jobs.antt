-- Laws of the job check: its steps, and the walk a step at a time. Assumes nothing.
use mathlib.Core.Path.{◌≡◌, refl, sym, ap, ap₂, ◌∙◌, subst}
use mathlib.Core.Bool.{Bool, true, false, cond}
use mathlib.Core.List.{List, [], ◌∷◌, ◌++◌}
use Prim.Native.Nat.{ℕ, zero, suc, ◌+◌, ◌-◌, ◌<◌, ◌≤◌}
use native.Mathlib.Nat.{add-zero}
use native.Mathlib.Omega.{arith}
use borrow.Author.Tests.{eq-eqb, ne_eqb, ltb-false}
use lib.Dec.{eqb, ltb}
use lib.ListN.{length, get_or, drop, drop_of_length-le}
use lib.Seq.{drop-cons}
use Rattle.gdi_jobs.specs.Groups.{Group, cut, page_head, wrong_page_head, block, page_end, document_end, unknown, head_bytes, group, group_cases}
use Rattle.gdi_jobs.specs.Pages.{Next, to_block, to_end, to_command, fault, next}
use Rattle.gdi_jobs.specs.Jobs.{State, between, in_page, Step, onward, done, stop, step_between, step_in_page, step, pages, refused, then_walk, walk, walk_head}
use Rattle.gdi_jobs.proofs.Groups.{never, group_long, group_nil, group_head}
use Rattle.gdi_jobs.proofs.Pages.{Sound, next-sound, next_nil}

-- ---- a step

-- what is known of it: it passes at least one byte, and those that it passes are there; a job is done at its last six bytes; a refusal's place is in
-- the job, or at its end
abbrev Passed : List ℕ → Step → Type 0
Passed bs (onward t n) = (1 ≤ n) × (n ≤ length bs)
Passed bs (done n) = length bs ≡ 6
Passed bs (stop number i) = i ≤ length bs

between-passed : (n : ℕ) (bs : List ℕ) (g : Group) → group bs ≡ g → Passed bs (step_between n (length bs) g)
between-passed n bs cut e = omega arith
between-passed n bs (page_head w v) e = let h = group_head bs w v e in omega arith
between-passed n bs wrong_page_head e = omega arith
between-passed n bs (block size) e = omega arith
between-passed n bs page_end e = omega arith
between-passed n bs document_end e = go (ltb 6 (length bs)) refl (group_long bs (λ c. never (cc)))
  where
    go : (t : Bool) → ltb 6 (length bs) ≡ t → 6 ≤ length bs → Passed bs (cond t (stop 26 6) (done n))
    go true e h = h
    go false e h = omega (arith, ltb-false 6 (length bs) e)
between-passed n bs unknown e = omega arith

in_page_passed : (n width height lines sum left : ℕ) (bs : List ℕ) (x : Next) → Sound left bs x → Passed bs (step_in_page n width height lines sum left x)
in_page_passed n width height lines sum left bs (to_block size) h = omega arith
in_page_passed n width height lines sum left bs to_end h = omega arith
in_page_passed n width height lines sum left bs (to_command c k) h = omega arith
in_page_passed n width height lines sum left bs (fault number i) h = h

step-passed : (s : State) (bs : List ℕ) → Passed bs (step s bs)
unfolding step
step-passed (between n) bs = between-passed n bs (group bs) refl
step-passed (in_page n width height lines sum left) bs =
    let full = eqb lines height in in_page_passed n width height lines sum left bs (next full full left bs) (next-sound full full left bs)

module _ (s : State) (bs : List ℕ) where
  passed_by : (x : Step) → step s bs ≡ x → Passed bs x
  passed_by x e = subst (Passed bs) e (step-passed s bs)

  -- a step passes at least one byte of the job
  pub step-onward : (t : State) (n : ℕ) → step s bs ≡ onward t n → (1 ≤ n) × (n ≤ length bs)
  step-onward t n e = passed_by (onward t n) e

  -- a job is done at its last six bytes
  pub step-done : (n : ℕ) → step s bs ≡ done n → length bs ≡ 6
  step-done n e = passed_by (done n) e

  -- a refusal's place is in the job, or at its end
  pub step-stop : (number i : ℕ) → step s bs ≡ stop number i → i ≤ length bs
  step-stop number i e = passed_by (stop number i) e

-- where the job ends
pub step_nil : (s : State) → step s [] ≡ stop 24 0
unfolding step
step_nil (between n) = ap (step_between n 0) group_nil
step_nil (in_page n width height lines sum left) = let full = eqb lines height in ap (step_in_page n width height lines sum left) (next_nil full full left)

-- ---- the walk

-- bytes that belong to the step before are passed
pub walk_skip : (s : State) (k p : ℕ) (bs : List ℕ) → k ≤ length bs → walk s k p bs ≡ walk s 0 (p + k) (drop k bs)
unfolding walk
walk_skip s zero p bs h = ap (λ (q : ℕ). walk s 0 q bs) (sym (add-zero p))
walk_skip s (suc k) p [] h = absurd (omega arith)
walk_skip s (suc k) p (b ∷ bs) h = walk_skip s k (suc p) bs (omega arith) ∙ ap (λ (q : ℕ). walk s 0 q (drop k bs)) (omega arith)

-- by what the step says
pub walk-onward : (s t : State) (n p : ℕ) (bs : List ℕ) → step s bs ≡ onward t n → walk s 0 p bs ≡ walk t 0 (p + n) (drop n bs)
unfolding walk
walk-onward s t n p [] e = let h = step-onward s [] t n e in absurd (omega arith)
walk-onward s t zero p (b ∷ bs) e = let h = step-onward s (b ∷ bs) t zero e in absurd (omega arith)
walk-onward s t (suc n) p (b ∷ bs) e =
    let h = step-onward s (b ∷ bs) t (suc n) e in
    let one : suc n - 1 ≡ n = omega arith in
    ap (λ (x : Step). then_walk p x (λ t n. walk t (n - 1) (suc p) bs)) e
    ∙ ap (λ (k : ℕ). walk t k (suc p) bs) one ∙ walk_skip t n (suc p) bs (omega arith) ∙ ap (λ (q : ℕ). walk t 0 q (drop n bs)) (omega arith)

pub walk-done : (s : State) (n p : ℕ) (bs : List ℕ) → step s bs ≡ done n → walk s 0 p bs ≡ pages n
unfolding walk
walk-done s n p [] e = let h = step-done s [] n e in absurd (omega arith)
walk-done s n p (b ∷ bs) e = ap (λ (x : Step). then_walk p x (λ t n. walk t (n - 1) (suc p) bs)) e

pub walk-stop : (s : State) (number i p : ℕ) (bs : List ℕ) → step s bs ≡ stop number i → walk s 0 p bs ≡ refused number (p + i)
unfolding walk
walk-stop s number i p [] e =
    let n : 24 ≡ number = cc (step_nil s) in
    let z : 0 ≡ i = cc (step_nil s) in
    ap₂ refused n (omega arith)
walk-stop s number i p (b ∷ bs) e = ap (λ (x : Step). then_walk p x (λ t n. walk t (n - 1) (suc p) bs)) e

-- ---- the head

-- a whole head is passed
head_front : (p : ℕ) (head bs : List ℕ) → walk_head p head (head ++ bs) ≡ walk (between 0) 0 (p + length head) bs
unfolding walk_head
head_front p [] bs = ap (λ (q : ℕ). walk (between 0) 0 q bs) (sym (add-zero p))
head_front p (h ∷ head) bs =
    rw (eq-eqb h h refl) (head_front (suc p) head bs ∙ ap (λ (q : ℕ). walk (between 0) 0 q bs) (omega arith))

pub head_passed : (bs : List ℕ) → walk_head 0 head_bytes (head_bytes ++ bs) ≡ walk (between 0) 0 86 bs
head_passed bs = head_front 0 head_bytes bs ∙ ap (λ (q : ℕ). walk (between 0) 0 q bs) (omega (arith, group_cases.head_length))

-- the bytes from place i on
pub drop-next : (l : List ℕ) (i : ℕ) → i < length l → drop i l ≡ get_or l i 0 ∷ drop (i + 1) l
drop-next l i h = let one : suc i ≡ i + 1 = omega arith in drop-cons l i 0 h ∙ ap (λ (n : ℕ). get_or l i 0 ∷ drop n l) one

-- at place i of the head and of the job
module _ (head job : List ℕ) (i : ℕ) where
  -- the head is passed
  pub head_done : length head ≤ i → walk_head i (drop i head) (drop i job) ≡ walk (between 0) 0 i (drop i job)
  unfolding walk_head
  head_done h = rw (drop_of_length-le head {i = i} h) refl

  module _ (h : i < length head) where
    -- the job ends
    pub head_ends : length job ≤ i → walk_head i (drop i head) (drop i job) ≡ refused 24 i
    unfolding walk_head
    head_ends l = rw (drop-next head i h, drop_of_length-le job {i = i} l) refl

    module _ (l : i < length job) where
      -- the bytes agree
      pub head_agrees : get_or job i 0 ≡ get_or head i 0 → walk_head i (drop i head) (drop i job) ≡ walk_head (i + 1) (drop (i + 1) head) (drop (i + 1) job)
      unfolding walk_head
      head_agrees e =
          let one : suc i ≡ i + 1 = omega arith in
          rw (drop-next head i h, drop-next job i l, eq-eqb (get_or job i 0) (get_or head i 0) e)
          (ap (λ (q : ℕ). walk_head q (drop (i + 1) head) (drop (i + 1) job)) one)

      -- they differ
      pub head_differs : (get_or job i 0 ≡ get_or head i 0 → ⊥) → walk_head i (drop i head) (drop i job) ≡ refused 21 i
      unfolding walk_head
      head_differs n = rw (drop-next head i h, drop-next job i l, ne_eqb (get_or job i 0) (get_or head i 0) n) refl
