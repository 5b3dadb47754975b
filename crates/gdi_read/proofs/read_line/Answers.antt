-- `gdi_read::read_line` meets its contract. The first pass says whether there is a line, and the second writes it. Assumes nothing.
use mathlib.Core.Path.{◌≡◌, sym, ap, ◌∙◌}
use mathlib.Core.Bool.{false}
use Prim.Native.Nat.{◌+◌, ◌/◌, ◌≤◌}
use native.Mathlib.Omega.{arith}
use lib.ListN.{length}
use Rattle.std.specs.Prelude.{Ok}
use Rattle.std.proofs.Common.{rules, tests}
use Rattle.gdi_read.specs.Answers.{refused_as, line_read_as}
use Rattle.gdi_jobs.specs.Lines.{line_at}
use Rattle.gdi_read.proofs.Reading.{line_on}
use Rattle.gdi_read.proofs.Answering.{rounded_up, width_refused, row_refused, job_refused, offset_refused, line_there, refused_so, other_so, same_line, line_so}
use Rattle.gdi_read.proofs.read_line.Goals.{Else-row-div_ceil, After-line_pass}
use Rattle.gdi_read.proofs.read_line.Goals as goal

pub returns-then-not-contains : goal.returns-then-not-contains
returns-then-not-contains c =
    let a = c.args in
    let wide : 1 ≤ a.width → a.width ≤ 16383 → ⊥ = λ low high. search (rules, tests) in
    let e = refused_so _ _ _ _ _ (width_refused a.job.now a.offset a.left a.width (length a.row.now) wide) in
    record { result_value = ap refused_as c.at.ensures ∙ e.0; row_after = e.1 }

pub returns-then-row-div_ceil : goal.returns-then-row-div_ceil
returns-then-row-div_ceil c =
    let w : (1 ≤ c.args.width) × (c.args.width ≤ 16383) = search (rules, tests) in
    let n : length c.args.row.now ≡ (c.args.width + 7) / 8 → ⊥ = λ h. c.if-row-div_ceil.true (h ∙ rounded_up c.args.width c.div_ceil.ensures) in
    let e = refused_so _ _ _ _ _ (row_refused _ _ _ _ _ w n) in
    record { result_value = ap refused_as c.at-then-row-div_ceil.ensures ∙ e.0; row_after = e.1 }

-- a width that is taken, and the row's bytes
fitting : (c : Else-row-div_ceil) → ((1 ≤ c.args.width) × (c.args.width ≤ 16383)) × (length c.args.row.now ≡ (c.args.width + 7) / 8)
fitting c = (search (rules, tests), c.if-row-div_ceil.false ∙ sym (rounded_up c.args.width c.div_ceil.ensures))

pub returns-then-job-gt-LONGEST : goal.returns-then-job-gt-LONGEST
returns-then-job-gt-LONGEST c =
    let f = fitting (goal.at.returns-then-job-gt-LONGEST c).Else-row-div_ceil in
    let e = refused_so _ _ _ _ _ (job_refused _ _ _ _ _ f.0 f.1 (omega arith)) in
    record { result_value = ap refused_as c.at-then-job-gt-LONGEST.ensures ∙ e.0; row_after = e.1 }

pub returns-then-offset-job : goal.returns-then-offset-job
returns-then-offset-job c =
    let f = fitting (goal.at.returns-then-offset-job c).Else-row-div_ceil in
    let e = refused_so _ _ _ _ _ (offset_refused _ _ _ _ _ f.0 f.1 (omega arith) (omega arith)) in
    record { result_value = ap refused_as c.at-then-offset-job.ensures ∙ e.0; row_after = e.1 }

pub line_pass-requires : goal.line_pass-requires
line_pass-requires c = let f = fitting (goal.at.line_pass-requires c).Else-row-div_ceil in (omega arith, f.0.0, f.0.1, omega (arith, f.1))

-- what is at the place is a line, a page end or a refusal
there : (c : After-line_pass)
    → line_at c.args.job.now c.args.offset c.args.left c.args.width (length c.args.row.now) ≡ line_on c.args.job.now c.args.width false 0 c.args.left c.args.offset
there c =
    let w : (1 ≤ c.args.width) × (c.args.width ≤ 16383) = search (rules, tests) in
    line_there _ _ _ _ _ w (c.if-row-div_ceil.false ∙ sym (rounded_up c.args.width c.div_ceil.ensures)) (omega arith) (omega arith)

pub returns-in_err-read : goal.returns-in_err-read
returns-in_err-read c =
    let r = c.line_pass.result in
    let s : c.from_residual.result ≡ r = search rules in
    let e = other_so _ _ _ _ _ r (there (goal.at.returns-in_err-read c).After-line_pass) c.line_pass.ensures (λ q k y. search rules) in
    record { result_value = ap line_read_as s ∙ e.0; row_after = e.1 }

pub returns-in_default : goal.returns-in_default
returns-in_default c =
    let was : c.line_pass.result ≡ Ok c.in_ok-read.read = c.in_ok-read.was in
    let e = other_so _ _ _ _ _ c.line_pass.result (there (goal.at.returns-in_default c).After-line_pass) c.line_pass.ensures (λ q k y. search rules) in
    record { result_value = ap line_read_as (sym was) ∙ e.0; row_after = e.1 }

pub line_pass-requires-2 : goal.line_pass-requires-2
line_pass-requires-2 c = let f = fitting (goal.at.line_pass-requires-2 c).Else-row-div_ceil in (omega arith, f.0.0, f.0.1, omega (arith, f.1, c.line_pass.auto.row))

pub returns-in_err-line_pass : goal.returns-in_err-line_pass
returns-in_err-line_pass c =
    let was : c.line_pass.result ≡ Ok c.in_ok-read.read = c.in_ok-read.was in
    absurd (same_line _ _ _ _ _ _ (there (goal.at.returns-in_err-line_pass c).After-line_pass) c.line_pass.ensures _ _ _ _ (was ∙ ap Ok c.in-Line.is) (c.in_err-line_pass.ensures {u = tt}))

pub returns : goal.returns
returns c =
    let was : c.line_pass.result ≡ Ok c.in_ok-read.read = c.in_ok-read.was in
    let e = line_so _ _ _ _ _ _ (there (goal.at.returns c).After-line_pass) c.line_pass.ensures _ _ _ _ _ (was ∙ ap Ok c.in-Line.is) c.line_pass-2.ensures ((c.line_pass-2.auto.row ∙ c.line_pass.auto.row) ∙ (fitting (goal.at.returns c).Else-row-div_ceil).1) c.fill.ensures in
    record { result_value = ap line_read_as (ap Ok c.in-Line.is) ∙ e.0; row_after = e.1 }
