-- Laws of the walk over what comes after the head: where it stands, and how it goes on. Assumes nothing.
use mathlib.Core.Path.{◌≡◌, refl, sym, ap, ◌∙◌}
use mathlib.Core.List.{List}
use Prim.Native.Nat.{ℕ, ◌+◌, ◌≤◌}
use native.Mathlib.Omega.{arith}
use lib.ListN.{length, drop, length-drop, drop_of_length-le}
use lib.Seq.{drop-drop}
use Rattle.gdi_jobs.specs.Jobs.{State, between, onward, done, stop, step, JobAnswer, pages, refused, walk}
use Rattle.gdi_jobs.proofs.Jobs.{step-onward, step-stop, walk-onward, walk-done, walk-stop}
use Rattle.gdi_check.specs.Functions.{Bounded}
use Rattle.gdi_check.proofs.Steps.{bounded-onward}

-- the answer for all that comes after the head
abbrev pub whole-walk : List ℕ → JobAnswer
whole-walk job = walk (between 0) 0 86 (drop 86 job)

-- what stands before place `at` is passed, and s is the state there: the answer is that of what is to come
pub record WalkedTo (job : List ℕ) (at : ℕ) (s : State) : Type 0 where
  pub within : at ≤ length job
  pub bounded : Bounded s at
  pub is : whole-walk job ≡ walk s 0 at (drop at job)

pub walked-first : (job : List ℕ) → 86 ≤ length job → WalkedTo job 86 (between 0)
walked-first job h = record { within = h; bounded = omega arith; is = refl }

module _ {job : List ℕ} {at : ℕ} {s : State} (w : WalkedTo job at s) where
  -- a step is made
  pub walked_on : {t : State} {n : ℕ} → step s (drop at job) ≡ onward t n → (1 ≤ n) × WalkedTo job (at + n) t
  walked_on {t} {n} e =
      let p = step-onward s (drop at job) t n e in
      let l = length-drop at job in
      let h = w.within in (
        p.0,
        record {
          within = omega arith;
          bounded = bounded-onward s t at n (drop at job) w.bounded e;
          is = w.is ∙ walk-onward s t n at (drop at job) e ∙ ap (walk t 0 (at + n)) (drop-drop n at job);
        },
      )

  -- the job is done
  pub walked-done : {n : ℕ} → step s (drop at job) ≡ done n → pages n ≡ whole-walk job
  walked-done {n} e = sym (w.is ∙ walk-done s n at (drop at job) e)

  -- it is refused
  pub walked_stop : {number i : ℕ} → step s (drop at job) ≡ stop number i → (at + i ≤ length job) × (refused number (at + i) ≡ whole-walk job)
  walked_stop {number} {i} e =
      let l = length-drop at job in
      let p = step-stop s (drop at job) number i e in
      let h = w.within in
      (omega arith, sym (w.is ∙ walk-stop s number i at (drop at job) e))

  -- it ends
  pub walked_end : length job ≤ at → refused 24 at ≡ whole-walk job
  unfolding walk
  walked_end h = sym (w.is ∙ ap (walk s 0 at) (drop_of_length-le job {i = at} h))
