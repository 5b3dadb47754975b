-- `film_draw::ink_band` meets its contract. Assumes nothing.
use mathlib.Core.Path.{◌≡◌, sym, ap, ◌∙◌}
use native.Mathlib.Omega.{arith}
use Rattle.std.proofs.Common.{Ok, Some, rules}
use Rattle.film_cursor.specs.declared.Step.TheVariants.{Paint, Other}
use Rattle.film_cursor.proofs.Cursors.{met}
use Rattle.film_draw.proofs.Inking.{ink_cleared, band_strokes, stepped, inked-first, inked_paint, inked_other, inked_end}
use Rattle.film_draw.proofs.ink_band.Goals as goal

pub loop-step-init : goal.loop-step-init
loop-step-init c = inked-first _ _ _ _ _ _ _ c.start-c.ensures

pub loop-step-smaller-in-Paint : goal.loop-step-smaller-in-Paint
loop-step-smaller-in-Paint c =
    let is : c.advance.result ≡ Ok (Some (Paint c.in-Paint.m c.in-Paint.at)) = stepped _ _ (sym c.unwrap_or.ensures ∙ c.in-Some.is ∙ ap (λ s. Some s) c.in-Paint.is) in
    omega (arith, (met _ c.advance.ensures is).1)

pub loop-step-preserved-in-Paint : goal.loop-step-preserved-in-Paint
loop-step-preserved-in-Paint c =
    let is : c.advance.result ≡ Ok (Some (Paint c.in-Paint.m c.in-Paint.at)) = stepped _ _ (sym c.unwrap_or.ensures ∙ c.in-Some.is ∙ ap (λ s. Some s) c.in-Paint.is) in
    inked_paint c.loop-step.invariant c.advance.ensures _ _ is c.ink_mask.ensures

pub loop-step-smaller : goal.loop-step-smaller
loop-step-smaller c =
    let is : c.advance.result ≡ Ok (Some (Other c.in-Other.d)) = stepped _ _ (sym c.unwrap_or.ensures ∙ c.in-Some.is ∙ ap (λ s. Some s) c.in-Other.is) in
    omega (arith, (met _ c.advance.ensures is).1)

pub loop-step-preserved : goal.loop-step-preserved
loop-step-preserved c =
    let is : c.advance.result ≡ Ok (Some (Other c.in-Other.d)) = stepped _ _ (sym c.unwrap_or.ensures ∙ c.in-Some.is ∙ ap (λ s. Some s) c.in-Other.is) in
    inked_other c.loop-step.invariant c.advance.ensures _ is

pub returns-in_default : goal.returns-in_default
returns-in_default c =
    let a = c.args in
    inked_end c.loop-step.invariant c.advance.ensures (sym c.unwrap_or.ensures ∙ c.in_default.is)
    ∙ ink_cleared a.frame a.buf.now c.requires (band_strokes a.sheet.now a.load.now a.from a.end) _ _ (λ i. search rules) c.size-size.ensures c.clear.ensures
