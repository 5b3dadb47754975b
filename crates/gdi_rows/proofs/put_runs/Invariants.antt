-- `gdi_rows::put_runs` meets its contract. The loop's invariant: the walk over the runs stands at dot `from`. The measure is what is left of the
-- width. Assumes nothing.
use Prim.Native.Nat.{◌-◌}
use Rattle.gdi_rows.proofs.Rows.{Walked}
use Rattle.gdi_rows.proofs.put_runs.Given as goal

abbrev pub invariant-loop-from : goal.invariant-loop-from
invariant-loop-from l = Walked l.width.dots l.row l.initial.output l.from l.block.head l.block.size l.output

abbrev pub decreases-loop-from : goal.decreases-loop-from
decreases-loop-from l = l.width.dots - l.from
