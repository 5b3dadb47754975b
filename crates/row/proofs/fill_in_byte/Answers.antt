-- `row::fill_in_byte` meets its contract: the byte that it stores has the old dots but for those of the stretch. Assumes nothing.
use Rattle.std.proofs.Common.{◌∙◌, arith}
use Rattle.row.proofs.Stretches.{set_dots, shift_le}
use Rattle.row.proofs.fill_in_byte.Goals as goal

pub overflow_sub-mask : goal.overflow_sub-mask
overflow_sub-mask c = shift_le 255 _ _ c.requires.0

pub returns : goal.returns
returns c = c.set_masked.ensures ∙ set_dots _ _ _ _ _ (λ j. (c.slice_known-1.given j).fits) (omega (arith, c.requires.0, c.requires.1)) c.requires.1
