-- `gdi_parse::begins` meets its contract. Assumes nothing.
use mathlib.Core.Path.{sym, ◌∙◌}
use borrow.Author.Tests.{lt-leb}
use Rattle.std.proofs.Common.{rules, tests}
use Rattle.std.proofs.lemmas.Iterator.{YieldsList-from_slice, YieldsList-from_zip}
use Rattle.std.proofs.lemmas.Iterator.Search.{all_from_yields_List}
use Rattle.gdi_parse.proofs.Forms.{allows, all-fit, short-fit}
use Rattle.gdi_parse.proofs.begins.Goals as goal

pub returns-then-form-bytes : goal.returns-then-form-bytes
returns-then-form-bytes c =
    let a = c.args in
    all_from_yields_List {s = c.zip.result} allows c.all.new.self _ _ c.all.ensures.ran (YieldsList-from_zip (YieldsList-from_slice a.form.now (cc)) (YieldsList-from_slice a.bytes.now (cc))) (λ x b q k. search (rules, tests))
    ∙ all-fit a.form.now a.bytes.now c.requires c.if-form-bytes.true

pub returns-else-form-bytes : goal.returns-else-form-bytes
returns-else-form-bytes c = lt-leb _ _ c.if-form-bytes.false ∙ sym (short-fit _ _ c.if-form-bytes.false)
