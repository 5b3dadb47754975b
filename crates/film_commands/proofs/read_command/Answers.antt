-- `film_commands::read_command` meets its contract: what a code that has no reader is, and where no word is. Assumes nothing.
use Rattle.std.proofs.Common.{arith, ap, ◌∙◌}
use Rattle.film_words.specs.Words.{words, at}
use Rattle.film_words.proofs.Words.{length-words}
use Rattle.film_words.proofs.Parts.{part_past, part_empty}
use Rattle.film_commands.proofs.Commands.{no_command, command_here, command_unknown}
use Rattle.film_commands.proofs.Answers.{refused-at}
use Rattle.film_commands.proofs.read_command.Goals as goal
use Rattle.film_commands.proofs.read_command.Goals.{then-p-end-via-then-p-end, then-p-end-via-else-p-end+then-end-sheet}

pub returns-then-p-end : goal.returns-then-p-end
unfolding words
returns-then-p-end c =
    let a = c.args in
    refused-at a.sheet.now a.load.now a.p _ c.at.ensures
    (no_command _ _ _
    (ap words
    (elim c.then-p-end.branch [
      | then-p-end-via-then-p-end w ↦ part_empty a.sheet.now a.p a.end w.if-p-end.true
      | then-p-end-via-else-p-end+then-end-sheet w ↦ part_past a.sheet.now a.p a.end (omega (arith, w.if-end-sheet.true, length-words a.sheet.now))
    ])))

pub read_runs-requires : goal.read_runs-requires
read_runs-requires c = (omega arith, omega (arith, length-words c.args.sheet.now), c.part-after.ensures)

pub read_samples-requires : goal.read_samples-requires
read_samples-requires c = (omega arith, omega (arith, length-words c.args.sheet.now), c.part-after.ensures)

pub returns-in_default : goal.returns-in_default
returns-in_default c =
    let a = c.args in
    let ws = words a.sheet.now in
    refused-at a.sheet.now a.load.now a.p _ c.at-in_default.ensures
    (command_here _ a.least a.sheet.now a.p a.end c.if-p-end.false c.if-end-sheet.false
    ∙ command_unknown _ _ (at ws a.p) _ (λ h. omega (arith, c.word.ensures)))
