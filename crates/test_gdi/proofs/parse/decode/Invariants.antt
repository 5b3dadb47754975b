-- The bytes that are put stay within `out`; the measure is what is left of the field.
use Rattle.std.proofs.Common.{length, ◌≤◌, ◌≡◌}
use Rattle.test_gdi.proofs.parse.decode.Given as goal

abbrev pub invariant-loop-rest : goal.invariant-loop-rest
invariant-loop-rest l = (length l.out ≡ length l.initial.out) × (l.n ≤ length l.out)

abbrev pub decreases-loop-rest : goal.decreases-loop-rest
decreases-loop-rest l = length l.rest
