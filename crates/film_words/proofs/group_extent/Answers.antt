-- `film_words::group_extent` meets its contract. The loop's invariant: the group takes the words up to q, and then those of the lines to come.
-- The measure is the number of words left. Assumes nothing.
use mathlib.Core.Path.{sym, subst}
use Prim.Native.Nat.{◌+◌}
use native.Mathlib.Omega.{arith}
use Rattle.film_words.specs.Words.{words}
use Rattle.film_words.proofs.Words.{length-words}
use Rattle.film_words.proofs.Groups.{Walked, walked-first, walked_last, walked_next}
use Rattle.film_words.proofs.group_extent.Goals as goal

pub loop-lines-init : goal.loop-lines-init
loop-lines-init c =
    let a = c.args in
    let ws = words a.file.now in (
      sym (length-words a.file.now),
      omega arith,
      omega arith,
      subst (Walked ws a.p (a.p + 1)) (sym c.word-lines.ensures) (walked-first ws a.p (omega (arith, length-words a.file.now))),
    )

pub loop-lines-preserved-then-w-ge32768 : goal.loop-lines-preserved-then-w-ge32768
loop-lines-preserved-then-w-ge32768 c =
    let a = c.args in (
      c.loop-lines.invariant.0,
      omega arith,
      omega arith,
      walked_last (words a.file.now) a.p c.loop-lines.q c.loop-lines.lines (omega arith) (omega arith) (omega arith) (omega arith) c.loop-lines.invariant.3,
    )

pub loop-lines-preserved : goal.loop-lines-preserved
loop-lines-preserved c =
    let a = c.args in (
      c.loop-lines.invariant.0,
      omega arith,
      omega arith,
      walked_next (words a.file.now) a.p c.loop-lines.q c.loop-lines.lines (omega arith) (omega arith) (omega arith) (omega arith) c.loop-lines.invariant.3,
    )
