-- Laws of the head's bytes, held against a job's all at once. Assumes nothing.
use mathlib.Core.Path.{◌≡◌, refl, ap, ◌∙◌, subst}
use mathlib.Core.List.{List}
use Prim.Native.Nat.{ℕ, zero, suc, ◌+◌, ◌<◌, ◌≤◌}
use native.Mathlib.Omega.{arith}
use lib.ListN.{length, get_or, drop}
use Rattle.std.specs.List.{zip, HoldsAt, AllWithin}
use Rattle.std.proofs.lemmas.Slice.Zip.{length-zip, get_or-zip}
use Rattle.gdi_jobs.specs.Jobs.{between, refused, walk, walk_head}
use Rattle.gdi_jobs.proofs.Jobs.{head_done, head_ends, head_agrees, head_differs}

-- a byte that the head wants, and one of the job
abbrev pub Same : ℕ × ℕ → Type 0
Same (want, byte) = byte ≡ want

abbrev pub Differ : ℕ × ℕ → Type 0
Differ (want, byte) = byte ≡ want → ⊥

module _ (head job : List ℕ) where
  -- a pair of the two lists has the bytes of its place
  pair : (P : ℕ × ℕ → Type 0) (i : ℕ) → i < length head → i < length job → P (get_or (zip head job) i (0, 0)) → P (get_or head i 0, get_or job i 0)
  pair P i a b h = subst P (get_or-zip head job i (0, 0) a b) h

  -- the first i agree
  agreed : (i : ℕ) → i ≤ length head → i ≤ length job → AllWithin Same (zip head job) 0 i
      → walk_head 0 head job ≡ walk_head i (drop i head) (drop i job)
  agreed zero a b s = refl
  agreed (suc i) a b s =
      let one : i + 1 ≡ suc i = omega arith in
      agreed i (omega arith) (omega arith) (λ k d l h. s k d l (omega arith))
      ∙ head_agrees head job i (omega arith) (omega arith) (pair Same i (omega arith) (omega arith) (s i (0, 0) (omega arith) (omega arith)))
      ∙ ap (λ (q : ℕ). walk_head q (drop q head) (drop q job)) one

  -- the walk stops at the first that does not
  pub first-differs : (i : ℕ) → (i < length (zip head job)) × HoldsAt Differ (zip head job) i × AllWithin Same (zip head job) 0 i
      → walk_head 0 head job ≡ refused 21 i
  first-differs i h =
      let l = length-zip head job in
      let a : i < length head = omega (arith, h.0) in
      let b : i < length job = omega (arith, h.0) in
      agreed i (omega arith) (omega arith) h.2 ∙ head_differs head job i a b (pair Differ i a b (h.1 (0, 0)))

  -- or it passes the head
  pub all-agree : AllWithin Same (zip head job) 0 (length (zip head job)) → length head ≤ length job
      → walk_head 0 head job ≡ walk (between 0) 0 (length head) (drop (length head) job)
  all-agree s h =
      let l = length-zip head job in
      agreed (length head) (omega arith) h (λ k d a m. s k d a (omega arith)) ∙ head_done head job (length head) (omega arith)

  -- or the job ends in it
  pub job-ends : AllWithin Same (zip head job) 0 (length (zip head job)) → length job < length head → walk_head 0 head job ≡ refused 24 (length job)
  job-ends s h =
      let l = length-zip head job in
      agreed (length job) (omega arith) (omega arith) (λ k d a m. s k d a (omega arith)) ∙ head_ends head job (length job) h (omega arith)
