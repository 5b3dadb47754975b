-- `film_commands::read_samples` meets its contract: the array is a part of the sheet. Assumes nothing.
use Rattle.std.proofs.Common.{arith, refl, inl, inr}
use Rattle.std.proofs.lemmas.Result.{err_from_is_err_and}
use Rattle.film_words.specs.Words.{words}
use Rattle.film_words.proofs.Words.{length-words}
use Rattle.film_commands.specs.Code.{command_of, mask_of, bytes_in, bytes_in_mask, part_for}
use Rattle.film_commands.proofs.Commands.{samples_past, samples_there, samples_end}
use Rattle.film_commands.proofs.Answers.{refused-at, whole-at, array_ok, array_err}
use Rattle.film_commands.proofs.read_samples.Goals as goal

pub returns-in_err-n : goal.returns-in_err-n
returns-in_err-n c = λ l load least.
    let a = c.args in
    let x = err_from_is_err_and c.from_residual.result c.from_residual.ensures.1 in
    rw (x.1, x.2)
    (elim (array_err _ _ _ _ (c.whole_array.ensures _ c.array_extent-extent.ensures) c.in_err-n.was) [
      | inl m ↦ refused-at a.sheet.now l a.args.p _ m.1 (samples_past load (words a.args.after.now) least m.0)
      | inr m ↦
          refused-at a.sheet.now l a.args.p _ m.1.2
          (samples_there a.sheet.now a.args.after.now a.args.p a.end c.requires.0 c.requires.1 c.requires.2 load least m.0 refl refl m.1.0 m.1.1)
    ])

pub overflow_add-from : goal.overflow_add-from
overflow_add-from c = omega (arith, length-words c.args.sheet.now)

pub overflow_add-to : goal.overflow_add-to
overflow_add-to c =
    let a = c.args in
    let m = array_ok _ _ _ _ (c.whole_array.ensures _ c.array_extent-extent.ensures) c.in_ok-n.was in
    let e = samples_end a.sheet.now a.args.after.now a.args.p a.end c.requires.0 c.requires.1 c.requires.2 c.in_ok-n.n m.0 in
    omega (arith, length-words a.sheet.now, e)

pub returns : goal.returns
unfolding command_of mask_of bytes_in bytes_in_mask part_for
returns c = λ l load least.
    let a = c.args in
    let m = array_ok _ _ _ _ (c.whole_array.ensures _ c.array_extent-extent.ensures) c.in_ok-n.was in
    rw c.part.ensures
    (whole-at a.sheet.now l a.args.p _ _ _ _ _ _ _
    (samples_there a.sheet.now a.args.after.now a.args.p a.end c.requires.0 c.requires.1 c.requires.2 load least c.in_ok-n.n
    c.word.ensures c.word-2.ensures m.0 m.1)
    refl refl (omega arith))
