-- `film_commands::Args::need` meets its contract. Assumes nothing.
use Rattle.std.proofs.Common.{arith}
use Rattle.film_words.proofs.Words.{length-words}
use Rattle.film_commands.proofs.Args.need.Goals as goal

pub returns-then-self-n-clause-cut : goal.returns-then-self-n-clause-cut
returns-then-self-n-clause-cut c = (c.at.ensures, omega (arith, length-words c.args.self.now.after.now))

pub returns-clause-enough : goal.returns-clause-enough
returns-clause-enough c = omega (arith, length-words c.args.self.now.after.now)
