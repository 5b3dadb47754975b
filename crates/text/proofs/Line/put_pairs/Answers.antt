-- `text::Line::put_pairs` meets its contract. Assumes nothing.
use Rattle.std.proofs.Common.{length, ap, arith, length-append}
use Rattle.text.proofs.Numbers.{length-decimal}
use Rattle.text.proofs.Line.put_pairs.Goals as goal

pub put_pair-requires-2 : goal.put_pair-requires-2
put_pair-requires-2 c = omega (arith, simp length-append at (ap length c.put_pair.ensures), length-decimal c.args.m)
