-- The loop's invariant: the digits put so far stand before what was put before n, and `rest` is what is left of n. The measure is `rest`.
use Rattle.std.proofs.Common.{◌≡◌}
use Rattle.text.proofs.Lines.{Numbered}
use Rattle.text.proofs.Line.put_number.Given as goal

abbrev pub invariant-loop-rest : goal.invariant-loop-rest
invariant-loop-rest l =
    (l.self-inside.start ≡ l.initial.self-inside.start) × Numbered l.initial.self-inside.space l.self-inside.start l.n l.self-inside.space l.at l.rest

abbrev pub decreases-loop-rest : goal.decreases-loop-rest
decreases-loop-rest l = l.rest
