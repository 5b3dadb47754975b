-- `row::whole` meets its contract. Assumes nothing.
use mathlib.Core.Bool.{true, false}
use Rattle.row.proofs.Stretches.{whole}
use Rattle.row.proofs.whole.Goals as goal

pub returns-then-v : goal.returns-then-v
returns-then-v c = whole _ true c.if-v.true

pub returns-else-v : goal.returns-else-v
returns-else-v c = whole _ false c.if-v.false
