-- `film_commands::read_load_runs` meets its contract: the group stands two words after its address, past the load's count. Assumes nothing.
use Rattle.std.proofs.Common.{arith, refl, ◌∙◌, ◌+◌}
use Rattle.std.proofs.lemmas.Result.{err_from_is_err_and}
use Rattle.film_words.specs.Words.{words}
use Rattle.film_commands.specs.Code.{command_of, mask_of, bytes_in, bytes_in_mask, part_for}
use Rattle.film_commands.proofs.Commands.{group-room, load_runs_past, load_runs_there}
use Rattle.film_commands.proofs.Answers.{refused-at, refused-cut, whole-at, measured, not_measured}
use Rattle.film_commands.proofs.read_load_runs.Goals as goal

pub returns-in_err-need : goal.returns-in_err-need
returns-in_err-need c = λ s least.
    let a = c.args in
    let x = err_from_is_err_and c.from_residual.result c.from_residual.ensures.1 in rw (x.1, x.2) (refused-cut s a.load.now a.args.p _ least 8 (words a.args.after.now) refl c.in_err-need.ensures.cut)

pub returns-in_err-n : goal.returns-in_err-n
returns-in_err-n c = λ s least.
    let a = c.args in
    let m = not_measured _ _ _ c.group_extent.ensures c.ok_or.ensures.value c.in_err-n.was in
    let x = err_from_is_err_and c.from_residual-in_err-n.result c.from_residual-in_err-n.ensures.1 in rw (x.1, x.2)
    (refused-at s a.load.now a.args.p _ (m.1 ∙ c.at.ensures)
    (load_runs_past a.load.now (words a.args.after.now) least _ c.long.ensures c.in_ok-need.ensures.enough m.0))

pub overflow_add-to : goal.overflow_add-to
overflow_add-to c =
    omega (arith, group-room c.args.load.now (2 + c.long.result) c.in_ok-n.n (measured _ _ _ c.group_extent.ensures c.ok_or.ensures.value c.in_ok-n.was))

pub returns : goal.returns
unfolding command_of mask_of bytes_in bytes_in_mask part_for
returns c = λ s least.
    let a = c.args in
    let m = measured _ _ _ c.group_extent.ensures c.ok_or.ensures.value c.in_ok-n.was in
    rw c.part.ensures
    (whole-at s a.load.now a.args.p 3 _ _ _ _ _ _
    (load_runs_there a.load.now (words a.args.after.now) least _ c.long.ensures c.in_ok-n.n c.word.ensures c.in_ok-need.ensures.enough m)
    refl refl refl)
