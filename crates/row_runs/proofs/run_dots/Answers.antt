-- `row_runs::run_dots` meets its contract. The loop's invariant: the search from dot f on finds what the search from `from` on finds. Assumes nothing.
use Rattle.std.proofs.Common.{sym, ◌∙◌, arith}
use borrow.Author.Tests.{not-true, not-false}
use Rattle.truth.proofs.Tests.{beq_is, beq_other}
use Rattle.row_runs.proofs.Runs.{first_on, first_here, first_none}
use Rattle.row_runs.proofs.run_dots.Goals as goal

pub returns-then-dot-v : goal.returns-then-dot-v
returns-then-dot-v c =
    sym (c.loop-f.invariant ∙ first_here _ _ _ _ _ (omega arith) (λ q. beq_other _ _ (not-true _ c.if-dot-v.true) (c.dot.ensures ∙ q)))

pub loop-f-preserved : goal.loop-f-preserved
loop-f-preserved c = c.loop-f.invariant ∙ first_on _ _ _ _ _ (omega arith) (sym c.dot.ensures ∙ (beq_is _ _).holds (not-false _ c.if-dot-v.false))

pub returns : goal.returns
returns c = sym (c.loop-f.invariant ∙ first_none _ _ _ _ _ (omega arith))
