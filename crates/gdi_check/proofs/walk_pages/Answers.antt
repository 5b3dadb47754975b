-- `gdi_check::walk_pages` meets its contract. The loop's invariant: what stands before place `at` is passed. The measure is the number of bytes
-- left. Assumes nothing.
use mathlib.Core.Path.{sym, ap, ◌∙◌}
use Prim.Native.Nat.{◌+◌, ◌≤◌}
use native.Mathlib.Omega.{arith}
use Rattle.std.specs.Prelude.{Ok}
use Rattle.gdi_check.specs.Answers.{refused_as, state_of, step_of}
use Rattle.gdi_check.proofs.Walk.{WalkedTo, walked-first, walked_on, walked-done, walked_stop, walked_end}
use Rattle.gdi_check.proofs.walk_pages.Goals as goal

pub loop-at-init : goal.loop-at-init
loop-at-init c = (c.requires.1, walked-first _ c.requires.0)

pub step_at-requires : goal.step_at-requires
step_at-requires c = let w = c.loop-at.invariant.1 in (w.bounded, omega (arith, w.within))

-- a step is made
on : (c : goal.In-Ok-Onward) → (1 ≤ c.in-Ok-Onward.n) × WalkedTo c.args.job.now (c.loop-at.at + c.in-Ok-Onward.n) (state_of c.in-Ok-Onward.next)
on c = walked_on c.loop-at.invariant.1 (sym c.step_at.ensures ∙ ap step_of (c.in-Ok-Onward.is ∙ ap Ok c.in-Ok-Onward.field-0-is))

pub overflow_add-at : goal.overflow_add-at
overflow_add-at c = let w = (on c).1.within in omega arith

pub loop-at-smaller : goal.loop-at-smaller
loop-at-smaller c = let o = on c in let w = o.1.within in omega arith

pub loop-at-preserved : goal.loop-at-preserved
loop-at-preserved c = (c.loop-at.invariant.0, (on c).1)

pub returns-in-Ok-Done : goal.returns-in-Ok-Done
returns-in-Ok-Done c = walked-done c.loop-at.invariant.1 (sym c.step_at.ensures ∙ ap step_of (c.in-Ok-Done.is ∙ ap Ok c.in-Ok-Done.field-0-is))

-- a refusal
pub overflow_add-at-in-Err : goal.overflow_add-at-in-Err
overflow_add-at-in-Err c =
    omega (arith, (walked_stop c.loop-at.invariant.1 (sym c.step_at.ensures ∙ ap step_of c.in-Err.is)).0)

pub returns-in-Err : goal.returns-in-Err
returns-in-Err c = ap refused_as c.at.ensures ∙ (walked_stop c.loop-at.invariant.1 (sym c.step_at.ensures ∙ ap step_of c.in-Err.is)).1

pub returns : goal.returns
returns c = ap refused_as c.at-2.ensures ∙ walked_end c.loop-at.invariant.1 (omega arith)
