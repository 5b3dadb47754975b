-- `film_words::padding_set` meets its contract. The loop's invariant: `last` is the word before the line, and no line before it has a padding bit set.
-- Assumes nothing.
use Rattle.std.proofs.Common.{◌≡◌, false, ◌+◌, ◌*◌, drop}
use Rattle.film_words.specs.Words.{words}
use Rattle.film_words.specs.Arrays.{line_words}
use Rattle.film_words.specs.Padding.{lines_padding_set}
use Rattle.film_words.proofs.padding_set.Given as goal

abbrev pub invariant-loop : goal.invariant-loop
invariant-loop l = (l.last ≡ l.p + 1 + l.counter * line_words l.dots) × (lines_padding_set (drop l.p (words l.file)) l.counter ≡ false)
