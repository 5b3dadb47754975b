-- `film_masks::ink_runs` meets its contract. The loop's invariant: the runs from place q on are left to paint. The measure is the number of words left.
-- Assumes nothing.
use mathlib.Core.Path.{◌≡◌, ◌∙◌}
use mathlib.Core.Bool.{◌&&◌}
use Prim.Native.Nat.{◌+◌, ◌%◌}
use native.Mathlib.Omega.{arith}
use borrow.Author.Tests.{ltb-true, leb-true, ltb-false, leb-false}
use lib.Dec.{leb, ltb, eqb}
use Rattle.film_words.specs.Words.{words, at}
use Rattle.film_words.proofs.Words.{length-words}
use Rattle.film_commands.specs.Code.{colour_of}
use Rattle.film_masks.specs.Bands.{painted_frame}
use Rattle.film_masks.proofs.Runs.{walked-first, run_above, walked_last, walked_next, walked-done, walked_short, walked_below, walked-length}
use Rattle.film_masks.proofs.ink_runs.Goals as goal
use Rattle.film_masks.proofs.ink_runs.Goals.{then-s-top, else-s-top}

pub loop-lines-init : goal.loop-lines-init
loop-lines-init c = (omega arith, walked-first c.word-lines.ensures (λ i. (c.type_inv.buf i).fits))

-- the run is painted, where the band has its line and where not
inked : (c : goal.Then-w-ge32768)
    → let a = c.args in
    let f = at (words a.group.now) c.loop-lines.q in
    c.if-s-top.buf
    ≡ painted_frame a.frame (colour_of a.colour) (λ t g. eqb t c.loop-lines.s && (leb f g && ltb g (f + c.word-w.result % 32768)))
    c.loop-lines.buf
inked c =
    elim c.if-s-top.branch [
      | then-s-top y ↦ y.buf-is ∙ rw (← y.word-from.ensures) y.stretch_in_row.ensures
      | else-s-top y ↦ y.buf-is ∙ run_above c.loop-lines.invariant.1 _ _ y.if-s-top.false
    ]

-- the run is painted, where the band has its line and where not
inked-2 : (c : goal.Else-w-ge32768)
    → let a = c.args in
    let f = at (words a.group.now) c.loop-lines.q in
    c.if-s-top.buf
    ≡ painted_frame a.frame (colour_of a.colour) (λ t g. eqb t c.loop-lines.s && (leb f g && ltb g (f + c.word-w.result % 32768)))
    c.loop-lines.buf
inked-2 c =
    elim c.if-s-top.branch [
      | then-s-top y ↦ y.buf-is ∙ rw (← y.word-from.ensures) y.stretch_in_row.ensures
      | else-s-top y ↦ y.buf-is ∙ run_above c.loop-lines.invariant.1 _ _ y.if-s-top.false
    ]

pub overflow_add-s : goal.overflow_add-s
overflow_add-s c = omega (arith, ltb-true)

pub loop-lines-smaller-then-w-ge32768 : goal.loop-lines-smaller-then-w-ge32768
loop-lines-smaller-then-w-ge32768 c = omega (arith, leb-true)

pub loop-lines-preserved-then-w-ge32768 : goal.loop-lines-preserved-then-w-ge32768
loop-lines-preserved-then-w-ge32768 c =
    let g = c.args.group.now in (
      omega (arith, leb-true),
      walked_last c.loop-lines.invariant.1 (omega arith) (omega (arith, leb-true, length-words g)) c.word-w.ensures (inked c) (omega arith),
    )

pub loop-lines-smaller : goal.loop-lines-smaller
loop-lines-smaller c = omega (arith, leb-true)

pub loop-lines-preserved : goal.loop-lines-preserved
loop-lines-preserved c =
    let g = c.args.group.now in (
      omega (arith, leb-true),
      walked_next c.loop-lines.invariant.1 (omega arith) (omega (arith, leb-true, length-words g)) c.word-w.ensures (inked-2 c) (omega arith),
    )

pub shape_of-buf-else-q-end : goal.shape_of-buf-else-q-end
shape_of-buf-else-q-end c = walked-length c.loop-lines.invariant.1

pub returns-else-q-end : goal.returns-else-q-end
returns-else-q-end c =
    walked_short c.loop-lines.invariant.1 (omega (arith, leb-false, length-words c.args.group.now))

pub shape_of-buf-else-s-band_end : goal.shape_of-buf-else-s-band_end
shape_of-buf-else-s-band_end c = walked-length c.loop-lines.invariant.1

pub returns-else-s-band_end : goal.returns-else-s-band_end
returns-else-s-band_end c = walked_below c.loop-lines.invariant.1 (omega (arith, ltb-false))

pub shape_of-buf-after-loop-lines : goal.shape_of-buf-after-loop-lines
shape_of-buf-after-loop-lines c = walked-length c.loop-lines.invariant.1

pub returns-after-loop-lines : goal.returns-after-loop-lines
returns-after-loop-lines c = walked-done c.loop-lines.invariant.1 (omega arith)
