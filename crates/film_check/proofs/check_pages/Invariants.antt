-- `film_check::check_pages` meets its contract. The loop's invariant: the answer is that of what is to come. The measure is the number of words
-- left. Assumes nothing.
use mathlib.Core.Path.{◌≡◌}
use Prim.Native.Nat.{◌-◌}
use lib.ListN.{length}
use Rattle.film_words.specs.Words.{words}
use Rattle.film_words.specs.Load.{load_words}
use Rattle.film_herald.specs.Herald.{page_count}
use Rattle.film_layout.specs.Layout.{layout_of}
use Rattle.film_layout.specs.Walks.{to_come}
use Rattle.film_check.specs.Check.{check_layout}
use Rattle.film_check.proofs.check_pages.Given as goal

abbrev pub invariant-loop-v : goal.invariant-loop-v
invariant-loop-v l =
    check_layout (load_words l.load) (page_count (words l.sheet)) (to_come l.sheet l.per_page l.w)
    ≡ check_layout (load_words l.load) (page_count (words l.sheet)) (layout_of (words l.sheet))

abbrev pub decreases-loop-v : goal.decreases-loop-v
decreases-loop-v l = length (words l.sheet) - l.w.at
