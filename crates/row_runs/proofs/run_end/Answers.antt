-- `row_runs::run_end` meets its contract: a search in parts finds what one search finds. Assumes nothing.
use native.Mathlib.Omega.{arith}
use Rattle.row_runs.proofs.Runs.{run_end-before, run_end-after, run_end-all}
use Rattle.row_runs.proofs.run_end.Goals as goal

pub returns-then-found-next : goal.returns-then-found-next
returns-then-found-next c =
    let d = c.run_dots-found in
    run_end-before _ _ _ _ (omega arith) c.dot-v.ensures d.ensures c.if-found-next.true

pub returns-else-found-next : goal.returns-else-found-next
returns-else-found-next c =
    run_end-after _ _ _ _ _ (omega arith) (omega arith) (omega arith) c.dot-v.ensures c.run_dots-found.ensures (omega arith) c.pass_bytes-i.ensures.from_value c.run_dots.ensures

pub returns-else-next-last : goal.returns-else-next-last
returns-else-next-last c = run_end-all _ _ _ c.dot-v.ensures c.run_dots-else-next-last.ensures
