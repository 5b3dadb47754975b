-- `gdi_check::step_in_page` meets its contract: a command is in its block, and comes only where the page is not full. Assumes nothing.
use mathlib.Core.Path.{refl, sym, ap, ◌∙◌}
use native.Mathlib.Omega.{arith}
use Rattle.std.specs.Prelude.{Ok}
use Rattle.row.proofs.Dots.{bytes_drop}
use Rattle.gdi_parse.specs.Answers.{next_of}
use Rattle.gdi_jobs.proofs.Pages.{next-command, next-command_dots}
use Rattle.gdi_check.proofs.Steps.{not_full}
use Rattle.gdi_check.proofs.step_in_page.Goals as goal

pub overflow_sub-page : goal.overflow_sub-page
overflow_sub-page c =
    let k = next-command _ _ _ _ _ _ (sym c.next_at.ensures ∙ ap next_of (c.in_ok-size.was ∙ ap Ok c.in-ToCommand.is)) in omega arith

pub after_command-page-requires : goal.after_command-page-requires
after_command-page-requires c =
    let a = c.args in
    let e = sym c.next_at.ensures ∙ ap next_of (c.in_ok-size.was ∙ ap Ok c.in-ToCommand.is) in
    let d = next-command_dots _ _ _ _ _ _ (bytes_drop a.at a.job.now (λ j. (c.type_inv.job j).fits)) e in
    let l = not_full a.page.pages a.page.width a.page.height a.page.lines a.page.sum a.page.left _ _ refl _ _ c.requires.0.3 e in
    (c.requires.0.4, c.requires.0.1, d, omega arith)
