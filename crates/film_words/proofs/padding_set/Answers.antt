-- `film_words::padding_set` meets its contract, line by line. Assumes nothing.
use Rattle.std.proofs.Common.{refl, sym, ◌∙◌, arith, drop}
use native.Mathlib.Nat.{add-mul}
use Rattle.film_words.specs.Words.{words}
use Rattle.film_words.specs.Arrays.{line_words}
use Rattle.film_words.specs.Padding.{lines_padding_set}
use Rattle.film_words.proofs.Arrays.{sizes_fit}
use Rattle.film_words.proofs.Padding.{next_clear, padding-at, array_set}
use Rattle.film_words.proofs.padding_set.Goals as goal

pub loop-init : goal.loop-init
unfolding lines_padding_set
loop-init c = (omega arith, refl)

pub overflow_add-last-in-loop : goal.overflow_add-last-in-loop
overflow_add-last-in-loop c = omega (arith, c.div_ceil-step.ensures, sizes_fit c.loop.counter c.word-dots.result (omega arith) (omega arith))

pub returns-then-word-mask-ne0 : goal.returns-then-word-mask-ne0
returns-then-word-mask-ne0 c =
    let ws = words c.args.file.now in
    let masked = padding-at ws c.args.p c.loop.counter c.word-dots.result c.loop.last c.div_ceil-step.result _ c.word.result c.word-dots.ensures
    c.if-dots-eq0.false c.loop.invariant.0 c.from.ensures c.div_ceil-step.ensures c.word.ensures in
    sym (array_set ws c.args.p c.word-lines.ensures (omega arith) (λ z. c.if-word-mask-ne0.true (masked ∙ z)))

pub loop-preserved : goal.loop-preserved
loop-preserved c =
    let ws = words c.args.file.now in
    let masked = padding-at ws c.args.p c.loop.counter c.word-dots.result c.loop.last c.div_ceil-step.result _ c.word.result c.word-dots.ensures
    c.if-dots-eq0.false c.loop.invariant.0 c.from.ensures c.div_ceil-step.ensures c.word.ensures in (
      omega (arith, c.from.ensures, c.div_ceil-step.ensures, add-mul c.loop.counter 1 (line_words c.word-dots.result)),
      next_clear (drop c.args.p ws) c.loop.counter c.loop.invariant.1 (sym masked ∙ c.if-word-mask-ne0.false),
    )
