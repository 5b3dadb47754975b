-- `row::clear` meets its contract. Assumes nothing.
use mathlib.Core.Path.{◌∙◌}
use Rattle.row.proofs.Stretches.{all-filled}
use Rattle.row.proofs.clear.Goals as goal

pub returns : goal.returns
returns c = c.fill_bytes.ensures ∙ all-filled _ _ _
