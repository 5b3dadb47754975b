-- `film_paint::sample_dot` meets its contract: the dot stands in the word of its line. Assumes nothing.
use mathlib.Core.Path.{ap, ◌∙◌}
use Prim.Native.Nat.{ℕ, ◌+◌, ◌*◌, ◌/◌}
use Rattle.film_words.specs.Words.{words, at}
use Rattle.film_words.proofs.Arrays.{ceil_line_words}
use Rattle.film_paint.proofs.Samples.{sample_is, past_dots, below_lines}
use Rattle.film_paint.proofs.sample_dot.Goals as goal
use Rattle.film_paint.proofs.sample_dot.Goals.{then-i-word-via-then-i-word, then-i-word-via-else-i-word+then-j-dots}

pub returns-then-i-word : goal.returns-then-i-word
returns-then-i-word c =
    let a = c.args in
    let ws = words a.file.now in
    elim c.then-i-word.branch [
      | then-i-word-via-then-i-word w ↦ below_lines ws a.at a.i a.j _ c.word.ensures w.if-i-word.true
      | then-i-word-via-else-i-word+then-j-dots w ↦ past_dots ws a.at a.i a.j _ c.word-dots.ensures w.if-j-dots.true
    ]

pub returns : goal.returns
returns c =
    let a = c.args in
    let ws = words a.file.now in
    sample_is ws a.at a.i a.j _ c.word-dots.result _ c.word.ensures c.if-i-word.false c.word-dots.ensures c.if-j-dots.false
    (c.word-w.ensures ∙ ap (λ (n : ℕ). at ws (a.at + 2 + a.i * n + a.j / 16)) (c.div_ceil.ensures ∙ ceil_line_words c.word-dots.result))
