-- `film_cursor::test_band` meets its contract. The loop's invariant: the band ends as what is ahead of the cursor ends. Assumes nothing.
use Prim.Native.Nat.{◌-◌}
use Rattle.film_cursor.proofs.Cursors.{TestedTo}
use Rattle.film_cursor.proofs.test_band.Given as goal

abbrev pub invariant-loop-c : goal.invariant-loop-c
invariant-loop-c l = TestedTo l.sheet l.load l.from l.end (record { at = l.c.0; least = l.c.1.0; colour = l.c.1.1.0 })

abbrev pub decreases-loop-c : goal.decreases-loop-c
decreases-loop-c l = l.end - l.c.0
