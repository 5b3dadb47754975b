-- `film_words::group_extent` meets its contract. The loop's invariant: the group takes the words up to q, and then those of the lines to come.
-- The measure is the number of words left. Assumes nothing.
use mathlib.Core.Path.{◌≡◌}
use Prim.Native.Nat.{◌-◌, ◌<◌, ◌≤◌}
use lib.ListN.{length}
use Rattle.film_words.specs.Words.{words}
use Rattle.film_words.proofs.Groups.{Walked}
use Rattle.film_words.proofs.group_extent.Given as goal

abbrev pub invariant-loop-lines : goal.invariant-loop-lines
invariant-loop-lines l = (l.end ≡ length (words l.file)) × (l.p < l.q) × (l.q ≤ l.end) × Walked (words l.file) l.p l.q l.lines

abbrev pub decreases-loop-lines : goal.decreases-loop-lines
decreases-loop-lines l = l.end - l.q
