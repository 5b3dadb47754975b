-- `text::Line::put_number` meets its contract. The loop's invariant: the digits put so far stand before what was put before n, and `rest` is what
-- is left of n. Assumes nothing.
use Rattle.std.proofs.Common.{◌++◌, List, ℕ, length, drop, refl, ap, ◌∙◌, length-drop, arith}
use Rattle.text.specs.Numbers.{decimal}
use Rattle.text.proofs.Lines.{numbered-first, numbered_next, numbered-done}
use Rattle.text.proofs.Line.put_number.Goals as goal

pub loop-rest-init : goal.loop-rest-init
loop-rest-init c =
    (refl, numbered-first _ _ _ (omega (arith, c.self.invariant, ap length c.self.view_is, length-drop c.self.inside.start c.self.inside.space)) (omega arith) c.ranges.n.fits)

pub loop-rest-preserved : goal.loop-rest-preserved
loop-rest-preserved c = (c.loop-rest.invariant.0, numbered_next c.loop-rest.invariant.1 (omega (arith, c.self.invariant, c.loop-rest.invariant.0, ap length c.self.view_is, length-drop c.self.inside.start c.self.inside.space)) (omega arith))

pub returns : goal.returns
returns c =
    numbered-done c.loop-rest.invariant.1 (omega (arith, c.self.invariant, c.loop-rest.invariant.0, ap length c.self.view_is, length-drop c.self.inside.start c.self.inside.space)) (omega arith)
    ∙ ap (λ (t : List ℕ). decimal c.args.n ++ t) (ap (λ (j : ℕ). drop j c.self.inside.space) c.loop-rest.invariant.0 ∙ c.self.view_is)
