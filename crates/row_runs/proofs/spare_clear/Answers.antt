-- `row_runs::spare_clear` meets its contract: the first byte's dots before the width are masked, and each later byte has to be 0. Assumes nothing.
use Rattle.std.proofs.Common.{refl, ◌∙◌, eq-eqb, arith}
use borrow.Author.Tests.{ne_eqb}
use Rattle.row_runs.proofs.Spare.{and_on, and_off, spare_none, spare_split}
use Rattle.row_runs.proofs.spare_clear.Goals as goal

pub returns-in-empty : goal.returns-in-empty
returns-in-empty c = spare_none c.args.row.now _ c.min.result c.min.ensures (omega (arith, c.in-empty.len_below))

pub returns-then-first-width-eq0 : goal.returns-then-first-width-eq0
returns-then-first-width-eq0 c =
    c.all_zero.ensures
    ∙ and_on (eq-eqb _ _ c.if-first-width-eq0.true)
    (spare_split c.args.row.now _ _ c.min.result (λ j. (c.type_inv.row j).fits) c.min.ensures refl c.in-len1-up.len_at_least)

pub returns-else-first-width-eq0 : goal.returns-else-first-width-eq0
returns-else-first-width-eq0 c =
    and_off _ (ne_eqb _ _ c.if-first-width-eq0.false)
    (spare_split c.args.row.now _ _ c.min.result (λ j. (c.type_inv.row j).fits) c.min.ensures refl c.in-len1-up.len_at_least)
