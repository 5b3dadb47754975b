-- `film_check::check_pages` meets its contract, where the pages end: words come after the last, or none do. Assumes nothing.
use mathlib.Core.Path.{◌≡◌, sym, ap, ◌∙◌}
use native.Mathlib.Omega.{arith}
use Rattle.std.proofs.Common.{Ok}
use Rattle.refusal.specs.Code.{refused_as}
use Rattle.film_words.proofs.Words.{length-words}
use Rattle.film_layout.specs.declared.Node.TheVariants.{End}
use Rattle.film_check.proofs.Checking.{check_more, check_done}
use Rattle.film_check.proofs.check_pages.Goals as goal

pub returns-in-End : goal.returns-in-End
returns-in-End c =
    let e : c.next.result ≡ Ok (End c.in-End.p) = cc in
    ap refused_as c.at.ensures
    ∙ check_more (record { is = sym c.loop-v.invariant }) c.next.ensures _ e (omega (arith, length-words c.args.sheet.now))

pub returns-in-End-2 : goal.returns-in-End-2
returns-in-End-2 c =
    let e : c.next.result ≡ Ok (End c.in-End.p) = cc in
    check_done (record { is = sym c.loop-v.invariant }) c.next.ensures _ _ e c.word.ensures (omega (arith, length-words c.args.sheet.now))
