-- `film_commands::read_runs` meets its contract: the group is a part of the sheet. Assumes nothing.
use Rattle.std.proofs.Common.{arith, refl, ◌∙◌}
use Rattle.std.proofs.lemmas.Result.{err_from_is_err_and}
use Rattle.film_words.specs.Words.{words}
use Rattle.film_words.proofs.Words.{length-words}
use Rattle.film_commands.specs.Code.{command_of, mask_of, bytes_in, bytes_in_mask, part_for}
use Rattle.film_commands.proofs.Commands.{runs_past, runs_there, runs_end}
use Rattle.film_commands.proofs.Answers.{refused-at, whole-at, measured, not_measured}
use Rattle.film_commands.proofs.read_runs.Goals as goal

pub returns-in_err-n : goal.returns-in_err-n
returns-in_err-n c = λ l load least.
    let a = c.args in
    let m = not_measured _ _ _ c.group_extent.ensures c.ok_or.ensures.value c.in_err-n.was in
    let x = err_from_is_err_and c.from_residual.result c.from_residual.ensures.1 in rw (x.1, x.2) (refused-at a.sheet.now l a.args.p _ (m.1 ∙ c.at.ensures) (runs_past load (words a.args.after.now) least m.0))

pub overflow_add-from : goal.overflow_add-from
overflow_add-from c = omega (arith, length-words c.args.sheet.now)

pub overflow_add-to : goal.overflow_add-to
overflow_add-to c =
    let a = c.args in
    let m = measured _ _ _ c.group_extent.ensures c.ok_or.ensures.value c.in_ok-n.was in
    let e = runs_end a.sheet.now a.args.after.now a.args.p a.end c.requires.0 c.requires.1 c.requires.2 c.in_ok-n.n m in
    omega (arith, length-words a.sheet.now, e)

pub returns : goal.returns
unfolding command_of mask_of bytes_in bytes_in_mask part_for
returns c = λ l load least.
    let a = c.args in
    let m = measured _ _ _ c.group_extent.ensures c.ok_or.ensures.value c.in_ok-n.was in
    rw c.part.ensures
    (whole-at a.sheet.now l a.args.p _ _ _ _ _ _ _
    (runs_there a.sheet.now a.args.after.now a.args.p a.end c.requires.0 c.requires.1 c.requires.2 load least c.in_ok-n.n c.word.ensures m)
    refl refl (omega arith))
