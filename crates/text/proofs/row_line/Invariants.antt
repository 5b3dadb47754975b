-- The loop's invariant: the digits of the row's first i bytes are put.
use Rattle.text.proofs.Lines.{Rowed}
use Rattle.text.proofs.row_line.Given as goal

abbrev pub invariant-loop-i : goal.invariant-loop-i
invariant-loop-i l = Rowed l.row l.initial.out l.i l.out
