-- `film_commands::read_priority` meets its contract: the tests follow those of the definition. Assumes nothing.
use Rattle.std.proofs.Common.{refl}
use Rattle.std.proofs.lemmas.Result.{err_from_is_err_and}
use Rattle.film_words.specs.Words.{words}
use Rattle.film_commands.specs.Code.{command_of, bytes_in, part_for}
use Rattle.film_commands.proofs.Commands.{priority_high, priority_falls, priority_read}
use Rattle.film_commands.proofs.Answers.{refused-after, refused-cut, whole-at}
use Rattle.film_commands.proofs.read_priority.Goals as goal

pub returns-in_err-need : goal.returns-in_err-need
returns-in_err-need c = λ s l load.
    let a = c.args in
    let x = err_from_is_err_and c.from_residual.result c.from_residual.ensures.1 in rw (x.1, x.2) (refused-cut s l a.args.p load a.least 1 (words a.args.after.now) refl c.in_err-need.ensures.cut)

pub returns-then-word-gt255 : goal.returns-then-word-gt255
returns-then-word-gt255 c = λ s l load.
    let a = c.args in
    refused-after s l a.args.p 2 _ c.at.ensures
    (priority_high load (words a.args.after.now) a.least c.in_ok-need.ensures.enough c.word.ensures c.if-word-gt255.true)

pub returns-then-value-least : goal.returns-then-value-least
returns-then-value-least c = λ s l load.
    let a = c.args in
    refused-after s l a.args.p 1 _ c.at-then-value-least.ensures
    (priority_falls load (words a.args.after.now) a.least c.in_ok-need.ensures.enough c.word.ensures c.if-word-gt255.false
    c.long-value.ensures c.if-value-least.true)

pub returns : goal.returns
unfolding command_of bytes_in part_for
returns c = λ s l load.
    let a = c.args in
    whole-at s l a.args.p 2 _ _ _ _ _ _
    (priority_read load (words a.args.after.now) a.least c.in_ok-need.ensures.enough c.word.ensures c.if-word-gt255.false
    c.long-value.ensures c.if-value-least.false)
    refl refl refl
