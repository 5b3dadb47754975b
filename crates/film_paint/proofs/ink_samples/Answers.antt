-- `film_paint::ink_samples` meets its contract: the line's dots that are in the window are painted where its samples are 1. Assumes nothing.
use Prim.Native.Nat.{◌-◌}
use Rattle.std.proofs.Common.{arith, rules}
use Rattle.film_words.specs.Words.{words}
use Rattle.film_words.specs.Arrays.{samples_in}
use Rattle.film_imaging.specs.Masks.{sample}
use Rattle.film_paint.specs.Rows.{window_of}
use Rattle.film_paint.proofs.Lines.{line_sampled}
use Rattle.film_paint.proofs.ink_samples.Goals as goal

pub returns : goal.returns
returns c =
    let a = c.args in
    let ws = words a.array.now in
    line_sampled _ (window_of a.frame) a.f_min ws a.i _ c.saturating_sub-first.result c.min-end.result _ a.s _ _ c.word.ensures c.saturating_sub-first.ensures (omega arith)
    (c.paint_dots.ensures (λ f. sample (samples_in ws) a.i (f - a.f_min)) (λ j r p q e. search rules))
