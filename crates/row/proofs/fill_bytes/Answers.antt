-- `row::fill_bytes` meets its contract. Assumes nothing.
use Rattle.std.proofs.Common.{◌≡◌, ◌-◌, length, take, drop, replicate, ap₂, ◌∙◌, arith, length-take-le, length-drop}
use Rattle.row.proofs.Stretches.{fill_part, fill_no_part}
use Rattle.row.proofs.fill_bytes.Goals as goal

pub returns-then-from-end : goal.returns-then-from-end
returns-then-from-end c =
    let size : length (take (c.min-end.result - c.args.from) (drop c.args.from c.args.row.now)) ≡ c.min-end.result - c.args.from = length-take-le _ _ (omega (arith, length-drop c.args.from c.args.row.now)) in
    fill_part c.args.row.now _ c.args.from c.args.to c.min-end.result _ (λ j. (c.slice_known-1.given j).fits) (omega arith) (omega arith) (c.fill.ensures.after (λ y e. e) ∙ ap₂ replicate size c.whole.ensures)

pub returns-else-from-end : goal.returns-else-from-end
returns-else-from-end c = fill_no_part _ _ _ _ (λ j. (c.type_inv.row j).fits) (omega arith)
