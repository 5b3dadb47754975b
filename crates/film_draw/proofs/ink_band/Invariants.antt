-- `film_draw::ink_band` meets its contract. The loop's invariant: the strokes ahead, carried out on the buffer as it is, give what all of the band's
-- give on the cleared one. The measure is the number of words left. Assumes nothing.
use Prim.Native.Nat.{◌-◌}
use Rattle.film_draw.proofs.Inking.{Inked}
use Rattle.film_draw.proofs.ink_band.Given as goal

abbrev pub invariant-loop-step : goal.invariant-loop-step
invariant-loop-step l = Inked l.frame l.sheet l.load l.from l.end l.initial.buf l.buf (record { at = l.c.0; least = l.c.1.0; colour = l.c.1.1.0 })

abbrev pub decreases-loop-step : goal.decreases-loop-step
decreases-loop-step l = l.end - l.c.0
