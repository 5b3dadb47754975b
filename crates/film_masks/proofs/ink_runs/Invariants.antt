-- `film_masks::ink_runs` meets its contract. The loop's invariant: the runs from place q on are left to paint. The measure is the number of words left.
-- Assumes nothing.
use Prim.Native.Nat.{◌+◌, ◌-◌, ◌≤◌}
use Rattle.film_words.specs.Words.{words}
use Rattle.film_commands.specs.Code.{colour_of}
use Rattle.film_masks.proofs.Runs.{Walked}
use Rattle.film_masks.proofs.ink_runs.Given as goal

abbrev pub invariant-loop-lines : goal.invariant-loop-lines
invariant-loop-lines l =
    (l.q ≤ l.end + 1) × Walked l.frame (colour_of l.colour) l.s_min (words l.group) l.initial.buf l.buf l.q l.s l.lines

abbrev pub decreases-loop-lines : goal.decreases-loop-lines
decreases-loop-lines l = l.end - l.q
