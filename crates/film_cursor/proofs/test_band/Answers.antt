-- `film_cursor::test_band` meets its contract. The loop's invariant: the band ends as what is ahead of the cursor ends. Assumes nothing.
use Rattle.std.proofs.Common.{arith, ap, ◌∙◌, Ok, Some}
use Rattle.std.proofs.lemmas.Result.{err_from_is_err_and}
use Rattle.film_cursor.specs.declared.Step.TheVariants.{Paint, Other}
use Rattle.film_cursor.proofs.Cursors.{test_start, met, test_paint, test_other, test_fine, test_refused}
use Rattle.film_cursor.proofs.test_band.Goals as goal

pub loop-c-init : goal.loop-c-init
loop-c-init c = test_start _ _ _ _ _ c.start-c.ensures

pub returns-in_default : goal.returns-in_default
returns-in_default c = test_fine c.loop-c.invariant c.advance.ensures (c.in_ok-step.was ∙ ap (λ s. Ok s) c.in_default.is)

pub returns-in_err-step : goal.returns-in_err-step
returns-in_err-step c =
    let x = err_from_is_err_and c.from_residual.result c.from_residual.ensures.1 in
    rw (x.1, x.2) (test_refused c.loop-c.invariant c.advance.ensures _ c.in_err-step.was)

pub loop-c-preserved-in-Paint : goal.loop-c-preserved-in-Paint
loop-c-preserved-in-Paint c =
    test_paint c.loop-c.invariant c.advance.ensures _ _ (c.in_ok-step.was ∙ ap (λ s. Ok s) (c.in-Some.is ∙ ap (λ s. Some s) c.in-Paint.is))

pub loop-c-smaller-in-Paint : goal.loop-c-smaller-in-Paint
loop-c-smaller-in-Paint c =
    let on = met (Ok (Some (Paint _ _))) c.advance.ensures (c.in_ok-step.was ∙ ap (λ s. Ok s) (c.in-Some.is ∙ ap (λ s. Some s) c.in-Paint.is)) in
    omega (arith, on.1)

pub loop-c-preserved : goal.loop-c-preserved
loop-c-preserved c =
    test_other c.loop-c.invariant c.advance.ensures _ (c.in_ok-step.was ∙ ap (λ s. Ok s) (c.in-Some.is ∙ ap (λ s. Some s) c.in-Other.is))

pub loop-c-smaller : goal.loop-c-smaller
loop-c-smaller c =
    let on = met (Ok (Some (Other _))) c.advance.ensures (c.in_ok-step.was ∙ ap (λ s. Ok s) (c.in-Some.is ∙ ap (λ s. Some s) c.in-Other.is)) in
    omega (arith, on.1)
