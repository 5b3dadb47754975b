-- `gdi_read::line_pass` meets its contract. The loop's invariant: the answer is that of what is to come at place `at`, and the dots below the sum are
-- written where they are to be. The measure is the number of bytes left. Assumes nothing.
use mathlib.Core.Path.{ap, ◌∙◌}
use Prim.Native.Nat.{◌+◌, ◌≤◌}
use native.Mathlib.Omega.{arith}
use lib.ListN.{length}
use Rattle.std.specs.Prelude.{Ok}
use Rattle.gdi_read.proofs.Reading.{put_length, read_start, command_bounds, read_block, read_command, read_last, read_end, read_fault, read_out}
use Rattle.gdi_read.proofs.line_pass.Goals.{In-Ok-ToCommand}
use Rattle.gdi_read.proofs.line_pass.Goals as goal

pub loop-at-init : goal.loop-at-init
loop-at-init c = read_start _ _ _ _ _ _ (omega arith) (omega arith)

pub loop-at-preserved-in-Ok-ToBlock : goal.loop-at-preserved-in-Ok-ToBlock
loop-at-preserved-in-Ok-ToBlock c =
    read_block c.loop-at.invariant _ c.next_at.ensures _ (c.in-Ok-ToBlock.is ∙ ap Ok c.in-Ok-ToBlock.field-0-is)

pub overflow_add-at : goal.overflow_add-at
overflow_add-at c =
    omega (arith, (read_block c.loop-at.invariant _ c.next_at.ensures _ (c.in-Ok-ToBlock.is ∙ ap Ok c.in-Ok-ToBlock.field-0-is)).inside)

pub overflow_add-result : goal.overflow_add-result
overflow_add-result c =
    omega (arith, (read_end c.loop-at.invariant _ c.next_at.ensures (c.in-Ok-ToEnd.is ∙ ap Ok c.in-Ok-ToEnd.field-0-is)).0)

pub returns-in-Ok-ToEnd : goal.returns-in-Ok-ToEnd
returns-in-Ok-ToEnd c =
    (read_end c.loop-at.invariant _ c.next_at.ensures (c.in-Ok-ToEnd.is ∙ ap Ok c.in-Ok-ToEnd.field-0-is)).1

-- the bounds of a command
bounds : (c : In-Ok-ToCommand)
    → let k = c.in-Ok-ToCommand in
    (k.dots ≤ 16383) × (1 ≤ k.bytes) × (k.bytes ≤ c.loop-at.rest) × (c.loop-at.at + k.bytes ≤ length c.args.job.now)
bounds c =
    command_bounds c.loop-at.invariant _ c.next_at.ensures _ _ _ (c.in-Ok-ToCommand.is ∙ ap Ok c.in-Ok-ToCommand.field-0-is) (λ i. (c.type_inv.job i).fits)

pub overflow_add-sum : goal.overflow_add-sum
overflow_add-sum c = omega (arith, (bounds (goal.at.overflow_add-sum c).In-Ok-ToCommand).0)

pub overflow_add-at-in-Ok-ToCommand : goal.overflow_add-at-in-Ok-ToCommand
overflow_add-at-in-Ok-ToCommand c = omega (arith, (bounds (goal.at.overflow_add-at-in-Ok-ToCommand c).In-Ok-ToCommand).3)

pub overflow_sub-rest : goal.overflow_sub-rest
overflow_sub-rest c = omega (arith, (bounds (goal.at.overflow_sub-rest c).In-Ok-ToCommand).2)

pub overflow_add-sum-in-Ok-ToCommand : goal.overflow_add-sum-in-Ok-ToCommand
overflow_add-sum-in-Ok-ToCommand c = omega (arith, (bounds (goal.at.overflow_add-sum-in-Ok-ToCommand c).In-Ok-ToCommand).0)

pub shape_of-row-then-sum-width : goal.shape_of-row-then-sum-width
shape_of-row-then-sum-width c =
    put_length _ _ _ _ c.loop-at.row c.put_dots.new.row c.put_dots.ensures ∙ c.loop-at.invariant.size

pub returns-then-sum-width : goal.returns-then-sum-width
returns-then-sum-width c =
    read_last c.loop-at.invariant _ c.next_at.ensures _ _ _ (c.in-Ok-ToCommand.is ∙ ap Ok c.in-Ok-ToCommand.field-0-is) _ c.put_dots.ensures (omega arith) (omega arith)

pub loop-at-smaller : goal.loop-at-smaller
loop-at-smaller c =
    let b = bounds (goal.at.loop-at-smaller c).In-Ok-ToCommand in omega (arith, b.1, b.3)

pub loop-at-preserved : goal.loop-at-preserved
loop-at-preserved c =
    read_command c.loop-at.invariant _ c.next_at.ensures _ _ _ (c.in-Ok-ToCommand.is ∙ ap Ok c.in-Ok-ToCommand.field-0-is) _ c.put_dots.ensures (omega arith)

pub overflow_add-at-in-Err : goal.overflow_add-at-in-Err
overflow_add-at-in-Err c = omega (arith, (read_fault c.loop-at.invariant _ c.next_at.ensures _ c.in-Err.is).0)

pub returns-in-Err : goal.returns-in-Err
returns-in-Err c = rw c.at.ensures (read_fault c.loop-at.invariant _ c.next_at.ensures _ c.in-Err.is).1

pub shape_of-row : goal.shape_of-row
shape_of-row c = c.loop-at.invariant.size

pub returns : goal.returns
returns c = rw c.at-2.ensures (read_out c.loop-at.invariant (omega arith))
