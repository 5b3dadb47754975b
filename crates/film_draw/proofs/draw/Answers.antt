-- `film_draw::draw` meets its promise. Assumes nothing.
use mathlib.Core.Path.{sym, ap, refl, ◌∙◌}
use native.Mathlib.Omega.{arith}
use Rattle.std.proofs.lemmas.Result.{err_from_is_err_and}
use Rattle.refusal.specs.Code.{tested_as}
use Rattle.film_herald.proofs.Refusals.{herald_fine}
use Rattle.film_layout.specs.Walks.{opened_as, found_as}
use Rattle.film_draw.proofs.Inking.{band_strokes}
use Rattle.film_draw.proofs.Drawing.{size_is, frame_fits, whole_rows, handed_on, gone_on, rows_drawn, promised_herald, promised_no_page, promised_no_band, promised_short, promised_stop, promised_page}
use Rattle.film_draw.proofs.draw.Goals as goal
use Rattle.film_draw.proofs.draw.Goals.{then-page-word-via-then-page-word, then-page-word-via-else-page-word+then-band-bands_per_page}

pub returns-in_err-test_herald : goal.returns-in_err-test_herald
returns-in_err-test_herald c =
    let x = err_from_is_err_and c.from_residual.result c.from_residual.ensures.1 in
    rw (x.1, x.2) (promised_herald _ _ _ _ _ _ (sym (ap tested_as c.in_err-test_herald.was) ∙ c.test_herald.ensures))

pub returns-then-page-word : goal.returns-then-page-word
returns-then-page-word c =
    let fine = sym c.test_herald.ensures ∙ ap tested_as c.in_ok-test_herald.was in
    rw c.at.ensures
    (elim c.then-page-word.branch [
      | then-page-word-via-then-page-word w ↦ promised_no_page _ _ _ _ _ fine (omega (arith, c.word.ensures))
      | then-page-word-via-else-page-word+then-band-bands_per_page w ↦
          promised_no_band _ _ _ _ _ fine (omega (arith, c.word.ensures)) (omega (arith, w.bands_per_page.ensures))
    ])

pub band_frame-frame-requires : goal.band_frame-frame-requires
band_frame-frame-requires c =
    let fine = sym c.test_herald.ensures ∙ ap tested_as c.in_ok-test_herald.was in
    ((herald_fine _ _ fine).band_low, omega (arith, c.bands_per_page.ensures))

pub returns-then-buffer-size : goal.returns-then-buffer-size
returns-then-buffer-size c =
    let fine = sym c.test_herald.ensures ∙ ap tested_as c.in_ok-test_herald.was in
    rw c.at-then-buffer-size.ensures
    (promised_short _ _ _ _ _ fine (omega (arith, c.word.ensures)) (omega (arith, c.bands_per_page.ensures))
    (omega (arith, c.size-size.ensures, size_is _ c.band_frame-frame.ensures refl)))

pub returns-in_err-walk : goal.returns-in_err-walk
returns-in_err-walk c =
    let fine = sym c.test_herald.ensures ∙ ap tested_as c.in_ok-test_herald.was in
    let x = err_from_is_err_and c.from_residual-in_err-walk.result c.from_residual-in_err-walk.ensures.1 in
    rw (x.1, x.2)
    (promised_stop _ _ _ _ _ fine (omega (arith, c.word.ensures)) (omega (arith, c.bands_per_page.ensures))
    (omega (arith, c.size-size.ensures, size_is _ c.band_frame-frame.ensures refl)) _
    (sym (ap (opened_as _) c.in_err-walk.was) ∙ c.find_page.ensures))

pub returns-in_err-from : goal.returns-in_err-from
returns-in_err-from c =
    let fine = sym c.test_herald.ensures ∙ ap tested_as c.in_ok-test_herald.was in
    let x = err_from_is_err_and c.from_residual-in_err-from.result c.from_residual-in_err-from.ensures.1 in
    rw (x.1, x.2)
    (promised_page _ _ _ _ _ fine (omega (arith, c.word.ensures)) (omega (arith, c.bands_per_page.ensures))
    (omega (arith, c.size-size.ensures, size_is _ c.band_frame-frame.ensures refl)) _
    c.band_frame-frame.ensures (sym (ap (opened_as _) c.in_ok-walk.was) ∙ c.find_page.ensures)
    (handed_on _ _ _ (sym (ap (found_as _) c.in_err-from.was) ∙ c.find_band.ensures.result_value)))

pub returns-in_err-test_band : goal.returns-in_err-test_band
returns-in_err-test_band c =
    let fine = sym c.test_herald.ensures ∙ ap tested_as c.in_ok-test_herald.was in
    let x = err_from_is_err_and c.from_residual-in_err-test_band.result c.from_residual-in_err-test_band.ensures.1 in
    rw (x.1, x.2)
    (promised_page _ _ _ _ _ fine (omega (arith, c.word.ensures)) (omega (arith, c.bands_per_page.ensures))
    (omega (arith, c.size-size.ensures, size_is _ c.band_frame-frame.ensures refl)) _
    c.band_frame-frame.ensures (sym (ap (opened_as _) c.in_ok-walk.was) ∙ c.find_page.ensures)
    (gone_on _ _ (sym (ap (found_as _) c.in_ok-from.was) ∙ c.find_band.ensures.result_value)
    (handed_on _ _ _ (sym (ap tested_as c.in_err-test_band.was) ∙ c.test_band.ensures))))

pub ink_band-requires : goal.ink_band-requires
ink_band-requires c =
    let fine = sym c.test_herald.ensures ∙ ap tested_as c.in_ok-test_herald.was in
    (frame_fits _ c.args.buffer.now c.band_frame-frame.ensures fine (omega (arith, c.size-size.ensures, size_is _ c.band_frame-frame.ensures refl))).0

pub count_dots-dots-requires : goal.count_dots-dots-requires
count_dots-dots-requires c =
    let fine = sym c.test_herald.ensures ∙ ap tested_as c.in_ok-test_herald.was in
    let fits = frame_fits _ c.args.buffer.now c.band_frame-frame.ensures fine (omega (arith, c.size-size.ensures, size_is _ c.band_frame-frame.ensures refl)) in
    whole_rows c.band_frame-frame.result _ _ c.args.buffer.now _ c.size-size.ensures c.row_bytes.ensures c.ink_band.auto.buf fits.0 fits.1

pub returns : goal.returns
returns c =
    let a = c.args in
    let fine = sym c.test_herald.ensures ∙ ap tested_as c.in_ok-test_herald.was in
    let ks = band_strokes a.sheet.now a.load.now c.in_ok-from.from c.in_ok-from.end in
    promised_page _ _ _ _ _ fine (omega (arith, c.word.ensures)) (omega (arith, c.bands_per_page.ensures))
    (omega (arith, c.size-size.ensures, size_is _ c.band_frame-frame.ensures refl)) _
    c.band_frame-frame.ensures (sym (ap (opened_as _) c.in_ok-walk.was) ∙ c.find_page.ensures)
    (gone_on _ _ (sym (ap (found_as _) c.in_ok-from.was) ∙ c.find_band.ensures.result_value)
    (gone_on _ tt (sym (ap tested_as c.in_ok-test_band.was) ∙ c.test_band.ensures)
    (rows_drawn c.band_frame-frame.result ks _ _ _ _ c.ink_band.ensures c.size-size.ensures c.count_dots-dots.ensures)))
