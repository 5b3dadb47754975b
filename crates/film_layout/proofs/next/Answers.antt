-- `film_layout::next` meets its contract: the tests follow those of the definition. Assumes nothing.
use mathlib.Core.Path.{◌≡◌, refl, ap}
use native.Mathlib.Omega.{arith}
use Rattle.std.proofs.Common.{Err}
use Rattle.std.proofs.lemmas.Grind.{common_steps}
use Rattle.refusal.specs.declared.Fault.TheVariants.{Cut}
use Rattle.film_words.proofs.Words.{length-words}
use Rattle.film_layout.proofs.Walks.{walk_end, walk_missing, walk-past, walk_band, walk_wrong, walk_page, stopped}
use Rattle.film_layout.proofs.next.Goals as goal

pub returns-in_err-count : goal.returns-in_err-count
returns-in_err-count c =
    let e = c.in_err-count.ensures in
    let i : c.from_residual.result ≡ Err (record { fault = Cut; place = c.args.w.at }) = grind (arith, common_steps) in
    stopped i (walk_missing _ _ _ _ _ (omega arith) e.0)

pub returns-then-count-sheet : goal.returns-then-count-sheet
returns-then-count-sheet c =
    let e = c.in_ok-count.ensures in
    stopped (ap Err c.at.ensures) (walk-past _ _ _ _ e.0 e.1 _ _ (omega arith) (omega (arith, length-words c.args.sheet.now)))

pub returns-then-w-gt0 : goal.returns-then-w-gt0
returns-then-w-gt0 c =
    let e = c.in_ok-count.ensures in
    let n = length-words c.args.sheet.now in
    record {
      is = walk_band _ _ _ _ e.0 e.1 _ _ (omega arith) (omega arith);
      on = (omega arith, omega arith, omega arith, refl);
    }

pub returns-then-w-eq0 : goal.returns-then-w-eq0
returns-then-w-eq0 c = record { is = walk_end _ _ _ _ _ (omega arith) c.if-w-eq0.true; on = tt }

pub returns-in_err-count_at : goal.returns-in_err-count_at
returns-in_err-count_at c =
    let e = c.in_err-count_at.ensures in
    let i : c.from_residual-in_err-count_at.result ≡ Err (record { fault = Cut; place = c.args.w.at }) = grind (arith, common_steps) in
    stopped i (walk_missing _ _ _ _ _ (omega arith) e.0)

pub returns-then-branch-per_page : goal.returns-then-branch-per_page
returns-then-branch-per_page c =
    let e = c.in_ok-count_at.ensures in
    stopped (ap Err c.at-then-branch-per_page.ensures)
    (walk_wrong _ _ _ _ e.0 e.1 _ _ (omega arith) (omega arith) c.if-branch-per_page.true)

pub returns : goal.returns
returns c =
    let e = c.in_ok-count_at.ensures in
    record {
      is = walk_page _ _ _ _ e.0 e.1 _ _ (omega arith) (omega arith) c.if-branch-per_page.false;
      on = (omega arith, omega arith);
    }
