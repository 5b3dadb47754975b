-- `row::set_dot` meets its contract: the byte that it stores has the old dots but for dot f. Assumes nothing.
use Rattle.std.proofs.Common.{◌∙◌}
use Rattle.row.proofs.Stretches.{set_dot}
use Rattle.row.proofs.set_dot.Goals as goal

pub returns : goal.returns
returns c = c.set_masked.ensures ∙ set_dot _ _ _ (λ j. (c.slice_known-1.given j).fits)
