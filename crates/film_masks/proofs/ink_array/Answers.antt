-- `film_masks::ink_array` meets its contract. Assumes nothing.
use native.Mathlib.Omega.{arith}
use Rattle.std.proofs.Common.{rules}
use Rattle.film_words.specs.Words.{words}
use Rattle.film_commands.specs.Commands.{samples}
use Rattle.film_imaging.specs.Masks.{masked}
use Rattle.film_masks.proofs.Bands.{band_right}
use Rattle.film_masks.proofs.Lines.{samples_before, samples_lines}
use Rattle.film_masks.proofs.ink_array.Goals as goal

pub returns-then-f_min-frame : goal.returns-then-f_min-frame
returns-then-f_min-frame c =
    let a = c.args in
    band_right _ _ _ _ (masked (samples a.s_min a.f_min (words a.array.now))) a.buf.now (λ i. (c.type_inv.buf i).fits)
    (λ s f h. samples_before _ _ _ s f (omega arith))

pub returns : goal.returns
returns c = c.ink_lines.ensures _ _ (samples_lines _ _ _ (words c.args.array.now) c.word.ensures (λ row row' s e. search rules))
