-- `film_layout::find_band` meets its contract. The loop's invariant: the band sought is band `left` of those to come. The measure is the number of
-- words left. Assumes nothing.
use mathlib.Core.Path.{◌≡◌}
use Prim.Native.Nat.{◌-◌}
use lib.ListN.{length}
use Rattle.film_words.specs.Words.{words}
use Rattle.film_layout.specs.Layout.{reach}
use Rattle.film_layout.specs.Walks.{to_come}
use Rattle.film_layout.proofs.find_band.Given as goal

abbrev pub invariant-loop-from : goal.invariant-loop-from
invariant-loop-from l = reach l.left (to_come l.sheet l.per_page l.v) ≡ reach l.band (to_come l.sheet l.per_page l.fn.w)

abbrev pub decreases-loop-from : goal.decreases-loop-from
decreases-loop-from l = length (words l.sheet) - l.v.at
