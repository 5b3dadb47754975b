-- `text::row_line` meets its contract. The loop's invariant: the digits of the row's first i bytes are put. Assumes nothing.
use Rattle.std.proofs.Common.{sym, arith}
use Rattle.buffers.proofs.Buffers.{begun_written, counted, too_short, too_short_count}
use Rattle.text.proofs.Lines.{row_length_lem, row_short, rowed_first, rowed_next, rowed_last}
use Rattle.text.proofs.row_line.Goals as goal

pub returns-then-out-row : goal.returns-then-out-row
returns-then-out-row c =
    let a = c.args in
    let l = row_short a.row.now a.out.now (omega arith) in record {
      value = too_short_count _ _ l;
      out_after = too_short _ _ l;
    }

pub loop-i-init : goal.loop-i-init
loop-i-init c = rowed_first _ _ (omega arith)

pub loop-i-preserved : goal.loop-i-preserved
loop-i-preserved c = rowed_next c.loop-i.invariant (omega arith) c.hex_digit.ensures c.hex_digit-in-loop-i.ensures

pub returns : goal.returns
returns c =
    let a = c.args in
    let b = rowed_last c.loop-i.invariant (omega arith) in record {
      value = counted _ _ b.room (sym (row_length_lem a.row.now));
      out_after = begun_written b (sym (row_length_lem a.row.now));
    }
