-- `film_layout::find_page` meets its contract. The loop's invariant: the page sought is page `left` of those to come. The measure is the number of
-- words left. Assumes nothing.
use mathlib.Core.Path.{◌≡◌}
use Prim.Native.Nat.{◌-◌}
use lib.ListN.{length}
use Rattle.film_words.specs.Words.{words}
use Rattle.film_layout.specs.Layout.{layout_of, reach_page}
use Rattle.film_layout.specs.Walks.{to_come}
use Rattle.film_layout.proofs.find_page.Given as goal

abbrev pub invariant-loop-v : goal.invariant-loop-v
invariant-loop-v l = reach_page l.left (to_come l.sheet l.per_page l.w) ≡ reach_page l.page (layout_of (words l.sheet))

abbrev pub decreases-loop-v : goal.decreases-loop-v
decreases-loop-v l = length (words l.sheet) - l.w.at
