-- `text::band_line` meets its contract. Assumes nothing.
use Rattle.std.proofs.Common.{◌≡◌, ap, ◌∙◌, length, arith, length-append}
use Rattle.text.specs.Lines.{page_label, band_label, rows_label, dots_label, band_line}
use Rattle.buffers.specs.Buffers.{written, count}
use Rattle.text.proofs.Numbers.{length-decimal}
use Rattle.text.proofs.Lines.{band_made}
use Rattle.text.proofs.band_line.Goals as goal

pub put_pairs-requires-2 : goal.put_pairs-requires-2
put_pairs-requires-2 c =
    omega
    (arith, simp length-append at (ap length c.put_pairs.ensures), ap length c.new-line.ensures, length-decimal c.args.rows, length-decimal c.args.dots)

pub returns : goal.returns
unfolding page_label band_label rows_label dots_label
returns c =
    let made : c.put_pairs-2.new.self ≡ band_line c.args.page c.args.band c.args.rows c.args.dots = band_made _ _ _ _ (rw c.new-line.ensures at c.put_pairs.ensures) c.put_pairs-2.ensures in record {
      value = c.put_into.ensures.value ∙ ap (λ t. count t c.args.out.now) made;
      out_after = c.put_into.ensures.out_after ∙ ap (λ t. written t c.args.out.now) made;
    }
