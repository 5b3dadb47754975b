-- `buffers::put` meets its contract. Assumes nothing.
use Rattle.std.proofs.Common.{refl, ap, sym, length, drop, ◌++◌, ◌∙◌, arith}
use Rattle.buffers.proofs.Buffers.{counted, written-room, too_short, too_short_count}
use Rattle.buffers.proofs.put.Goals as goal

pub returns-then-out-bytes : goal.returns-then-out-bytes
returns-then-out-bytes c = record {
  value = too_short_count _ _ c.if-out-bytes.true;
  out_after = too_short _ _ c.if-out-bytes.true;
}

pub returns-clause-value : goal.returns-clause-value
returns-clause-value c = counted _ _ (omega arith) refl

pub returns-clause-out_after : goal.returns-clause-out_after
returns-clause-out_after c =
    ap (λ t. t ++ drop (length c.args.bytes.now) c.args.out.now) c.copy_from_slice.ensures.after
    ∙ sym (written-room c.args.bytes.now c.args.out.now (omega arith))
