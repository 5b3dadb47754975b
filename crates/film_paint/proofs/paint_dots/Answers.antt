-- `film_paint::paint_dots` meets its contract. Assumes nothing.
use mathlib.Core.Path.{sym, ◌∙◌}
use Prim.Native.Nat.{◌<◌}
use native.Mathlib.Omega.{arith}
use Rattle.film_paint.proofs.Lines.{part_none, part_more, part_kept, part_done}
use Rattle.film_paint.proofs.paint_dots.Goals as goal
use Rattle.film_paint.proofs.paint_dots.Goals.{then-mask, else-mask}

pub loop-j-init : goal.loop-j-init
loop-j-init g c = λ M t. part_none _ _ _ _ _ M _ (λ j. (c.type_inv.row j).fits)

pub loop-j-preserved : goal.loop-j-preserved
loop-j-preserved g c = λ M t.
    let within : c.loop-j.j < c.args.to = omega (arith, c.min-end.ensures) in
    let is = t c.loop-j.j _ (omega arith) within c.mask.ensures in
    elim c.if-mask.branch [
      | then-mask w ↦ w.row-is ∙ part_more _ _ _ _ _ M _ _ _ _ (c.loop-j.invariant M t) _ w.paint_dot.ensures (omega arith) within (sym is ∙ w.if-mask.true)
      | else-mask w ↦ w.row-is ∙ part_kept _ _ _ _ _ M _ _ _ _ (c.loop-j.invariant M t) (sym is ∙ w.if-mask.false)
    ]

pub returns : goal.returns
returns g c = λ M t. part_done _ _ _ _ _ M _ _ _ _ (c.loop-j.invariant M t) (omega (arith, c.min-end.ensures, c.saturating_mul.ensures))
