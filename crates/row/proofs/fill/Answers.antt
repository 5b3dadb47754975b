-- `row::fill` meets its contract: stretches that meet are one stretch. Assumes nothing.
use Prim.Native.Nat.{◌+◌, ◌*◌, ◌/◌}
use native.Mathlib.Omega.{arith}
use Rattle.row.proofs.Stretches.{fill_none, fill_join, filled-ends, fill_nothing}
use Rattle.row.proofs.fill.Goals as goal

pub returns-then-first-last : goal.returns-then-first-last
returns-then-first-last c =
    let x = c.args in
    let front = filled-ends _ _ _ x.from (8 * (x.from / 8 + 1)) _ _ _ (omega arith) (omega arith) c.fill_in_byte.ensures in
    let back = filled-ends _ _ _ (8 * (x.to / 8)) x.to _ _ _ (omega arith) (omega arith) c.fill_in_byte-then-first-last.ensures in
    fill_join _ _ _ _ _ _ _ _ (omega arith) (omega arith) (fill_join _ _ _ _ _ _ _ _ (omega arith) (omega arith) front c.fill_bytes.ensures) back

pub returns-then-from-to : goal.returns-then-from-to
returns-then-from-to c = filled-ends _ _ _ _ _ _ _ _ (omega arith) (omega arith) c.fill_in_byte-then-from-to.ensures

pub returns-else-from-to : goal.returns-else-from-to
returns-else-from-to c = fill_nothing _ 0 _ _ _ _ _ (omega arith) (fill_none _ 0 _ (λ j. (c.type_inv.row j).fits))
