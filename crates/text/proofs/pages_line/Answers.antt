-- `text::pages_line` meets its contract. Assumes nothing.
use Rattle.std.proofs.Common.{◌≡◌, ap, ◌∙◌}
use Rattle.text.specs.Lines.{pages_label, bands_label, pages_line}
use Rattle.buffers.specs.Buffers.{written, count}
use Rattle.text.proofs.pages_line.Goals as goal

pub returns : goal.returns
unfolding pages_label bands_label pages_line
returns c =
    let made : c.put_pairs.new.self ≡ pages_line c.args.pages c.args.bands = rw c.new-line.ensures at c.put_pairs.ensures in record {
      value = c.put_into.ensures.value ∙ ap (λ t. count t c.args.out.now) made;
      out_after = c.put_into.ensures.out_after ∙ ap (λ t. written t c.args.out.now) made;
    }
