-- `text::refusal_line` meets its contract. Assumes nothing.
use Rattle.std.proofs.Common.{◌≡◌, ap, ◌∙◌}
use Rattle.text.specs.Lines.{refused_label, at_label, refusal_line}
use Rattle.buffers.specs.Buffers.{written, count}
use Rattle.text.proofs.refusal_line.Goals as goal

pub returns : goal.returns
unfolding refused_label at_label refusal_line
returns c =
    let made : c.put_pairs.new.self ≡ refusal_line c.args.number c.args.place = rw (c.new-line.ensures, c.from.ensures) at c.put_pairs.ensures in record {
      value = c.put_into.ensures.value ∙ ap (λ t. count t c.args.out.now) made;
      out_after = c.put_into.ensures.out_after ∙ ap (λ t. written t c.args.out.now) made;
    }
