-- `film_commands::read_trapezoid` meets its contract: six words, or too few. Assumes nothing.
use Rattle.std.proofs.Common.{refl}
use Rattle.std.proofs.lemmas.Result.{err_from_is_err_and}
use Rattle.film_words.specs.Words.{words}
use Rattle.film_commands.specs.Code.{command_of, mask_of, bytes_in, bytes_in_mask, part_for}
use Rattle.film_commands.proofs.Commands.{trapezoid_read}
use Rattle.film_commands.proofs.Answers.{refused-cut, whole-at}
use Rattle.film_commands.proofs.read_trapezoid.Goals as goal

pub returns-in_err-need : goal.returns-in_err-need
returns-in_err-need c = λ s l load least.
    let a = c.args in
    let x = err_from_is_err_and c.from_residual.result c.from_residual.ensures.1 in rw (x.1, x.2) (refused-cut s l a.args.p load least 6 (words a.args.after.now) refl c.in_err-need.ensures.cut)

pub returns : goal.returns
unfolding command_of mask_of bytes_in bytes_in_mask part_for
returns c = λ s l load least.
    let a = c.args in
    whole-at s l a.args.p 6 _ _ _ _ _ _
    (trapezoid_read load (words a.args.after.now) least c.word.ensures c.word-2.ensures c.word-3.ensures c.word-4.ensures c.word-5.ensures c.word-6.ensures c.in_ok-need.ensures.enough)
    refl refl refl
