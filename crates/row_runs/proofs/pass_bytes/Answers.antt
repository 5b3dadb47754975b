-- `row_runs::pass_bytes` meets its contract: the bytes at the front that are all v are passed. Assumes nothing.
use Rattle.std.proofs.Common.{arith}
use Rattle.row_runs.proofs.Runs.{first_none, first_bytes, front_le}
use Rattle.row_runs.proofs.pass_bytes.Goals as goal

pub returns-then-end-from-clause-from_value : goal.returns-then-end-from-clause-from_value
returns-then-end-from-clause-from_value c = first_none _ _ _ _ _ (omega arith)

pub overflow_add-result : goal.overflow_add-result
overflow_add-result c = omega (arith, front_le c.args.row.now c.args.from c.min-end.result c.whole.result)

pub returns-clause-upper_bound : goal.returns-clause-upper_bound
returns-clause-upper_bound c = omega (arith, front_le c.args.row.now c.args.from c.min-end.result c.whole.result)

pub returns-clause-from_value : goal.returns-clause-from_value
returns-clause-from_value c = first_bytes _ _ _ c.min-end.result _ _ c.whole.ensures (omega arith)
