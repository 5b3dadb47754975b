-- `text::Line::put_pair` meets its contract. Assumes nothing.
use Rattle.std.proofs.Common.{length, ap, arith, length-append}
use Rattle.text.proofs.Numbers.{length-decimal}
use Rattle.text.proofs.Line.put_pair.Goals as goal

pub put_label-requires : goal.put_label-requires
put_label-requires c = omega (arith, simp length-append at (ap length c.put_number.ensures), length-decimal c.args.n)
