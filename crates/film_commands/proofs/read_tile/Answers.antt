-- `film_commands::read_tile` meets its contract: the tests follow those of the definition, the load's words by their places. Assumes nothing.
use Rattle.std.proofs.Common.{arith, refl, sym, ◌∙◌, ◌+◌}
use Rattle.std.proofs.lemmas.Result.{err_from_is_err_and}
use Rattle.film_words.specs.Words.{words}
use Rattle.film_commands.specs.Code.{command_of, bytes_in, part_for}
use Rattle.film_commands.proofs.Commands.{array_room, tile_mode, tile-past, tile_no_lines, tile_no_dots, tile_there}
use Rattle.film_commands.proofs.Answers.{refused-after, refused-at, refused-cut, whole-at, measured, not_measured}
use Rattle.film_commands.proofs.read_tile.Goals as goal
use Rattle.film_commands.proofs.read_tile.Goals.{then-word-eq0-via-then-word-eq0, then-word-eq0-via-else-word-eq0+then-word-eq0-2}

pub returns-in_err-need : goal.returns-in_err-need
returns-in_err-need c = λ s least.
    let a = c.args in
    let x = err_from_is_err_and c.from_residual.result c.from_residual.ensures.1 in rw (x.1, x.2) (refused-cut s a.load.now a.args.p _ least 4 (words a.args.after.now) refl c.in_err-need.ensures.cut)

pub returns-then-mode-gt1 : goal.returns-then-mode-gt1
returns-then-mode-gt1 c = λ s least.
    let a = c.args in
    refused-after s a.load.now a.args.p 1 _ c.at.ensures (tile_mode _ (words a.args.after.now) least c.in_ok-need.ensures.enough c.word-mode.ensures c.if-mode-gt1.true)

pub returns-in_err-n : goal.returns-in_err-n
returns-in_err-n c = λ s least.
    let a = c.args in
    let m = not_measured _ _ _ c.array_extent.ensures c.ok_or.ensures.value c.in_err-n.was in
    let x = err_from_is_err_and c.from_residual-in_err-n.result c.from_residual-in_err-n.ensures.1 in rw (x.1, x.2)
    (refused-at s a.load.now a.args.p _ (m.1 ∙ c.at-2.ensures)
    (tile-past a.load.now (words a.args.after.now) least _ _ c.long-address.ensures c.in_ok-need.ensures.enough c.word-mode.ensures c.if-mode-gt1.false m.0))

pub returns-then-word-eq0 : goal.returns-then-word-eq0
returns-then-word-eq0 c = λ s least.
    let a = c.args in
    let m = measured _ _ _ c.array_extent.ensures c.ok_or.ensures.value c.in_ok-n.was in
    refused-at s a.load.now a.args.p _ c.at-then-word-eq0.ensures
    (elim c.then-word-eq0.branch [
      | then-word-eq0-via-then-word-eq0 w ↦
          tile_no_lines a.load.now (words a.args.after.now) least _ _ c.long-address.ensures c.in_ok-need.ensures.enough c.word-mode.ensures c.if-mode-gt1.false
          c.in_ok-n.n m c.word.ensures w.if-word-eq0.true
      | then-word-eq0-via-else-word-eq0+then-word-eq0-2 w ↦
          tile_no_dots a.load.now (words a.args.after.now) least _ _ c.long-address.ensures c.in_ok-need.ensures.enough c.word-mode.ensures c.if-mode-gt1.false
          c.in_ok-n.n m c.word.ensures w.if-word-eq0.false w.word-else-word-eq0.ensures w.if-word-eq0-2.true
    ])

pub returns-then-padding_set : goal.returns-then-padding_set
returns-then-padding_set c = λ s least.
    let a = c.args in
    let m = measured _ _ _ c.array_extent.ensures c.ok_or.ensures.value c.in_ok-n.was in
    refused-at s a.load.now a.args.p _ c.at-then-padding_set.ensures
    (tile_there a.load.now (words a.args.after.now) least _ _ c.long-address.ensures c.in_ok-need.ensures.enough c.word-mode.ensures c.if-mode-gt1.false
    c.in_ok-n.n m c.word.ensures c.if-word-eq0.false c.word-else-word-eq0.ensures c.if-word-eq0-2.false
    (sym c.padding_set.ensures ∙ c.if-padding_set.true))

pub overflow_add-to : goal.overflow_add-to
overflow_add-to c =
    omega (arith, array_room c.args.load.now (2 + c.long-address.result + 3) c.in_ok-n.n (measured _ _ _ c.array_extent.ensures c.ok_or.ensures.value c.in_ok-n.was))

pub overflow_add-to-2 : goal.overflow_add-to-2
overflow_add-to-2 c =
    omega (arith, array_room c.args.load.now (2 + c.long-address.result + 3) c.in_ok-n.n (measured _ _ _ c.array_extent.ensures c.ok_or.ensures.value c.in_ok-n.was))

pub returns : goal.returns
unfolding command_of bytes_in part_for
returns c = λ s least.
    let a = c.args in
    let m = measured _ _ _ c.array_extent.ensures c.ok_or.ensures.value c.in_ok-n.was in
    rw c.part.ensures
    (whole-at s a.load.now a.args.p 3 _ _ _ _ _ _
    (tile_there a.load.now (words a.args.after.now) least _ _ c.long-address.ensures c.in_ok-need.ensures.enough c.word-mode.ensures c.if-mode-gt1.false
    c.in_ok-n.n m c.word.ensures c.if-word-eq0.false c.word-else-word-eq0.ensures c.if-word-eq0-2.false
    (sym c.padding_set.ensures ∙ c.if-padding_set.false))
    refl refl refl)
