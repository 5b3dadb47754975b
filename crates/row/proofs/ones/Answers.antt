-- `row::ones` meets its contract: both ways of counting give the count, as far as the type goes. Assumes nothing.
use Rattle.std.proofs.Common.{◌∙◌, arith}
use Rattle.row.proofs.Counts.{ones-le, ones_sum, capped_sum}
use Rattle.row.proofs.ones.Goals as goal

pub ones_short-requires : goal.ones_short-requires
ones_short-requires c = omega (arith, ones_sum c.args.row.now, ones-le c.args.row.now (λ j. (c.type_inv.row j).fits))

pub returns-then-row-lt8192 : goal.returns-then-row-lt8192
returns-then-row-lt8192 c = omega (arith, ones_sum c.args.row.now, ones-le c.args.row.now (λ j. (c.type_inv.row j).fits))

pub returns-else-row-lt8192 : goal.returns-else-row-lt8192
returns-else-row-lt8192 c = c.ones_capped.ensures ∙ capped_sum _ _
