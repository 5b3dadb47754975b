-- `film_masks::stretch_in_row` meets its contract: the part that is lent is the line's row. Assumes nothing.
use mathlib.Core.Path.{ap, ◌∙◌}
use Prim.Native.Nat.{ℕ, ◌+◌, ◌*◌, ◌-◌}
use native.Mathlib.Nat.{add-sub_cancel_left}
use Rattle.std.proofs.Common.{arith, rules}
use Rattle.film_masks.proofs.Bands.{band_one}
use Rattle.film_masks.proofs.stretch_in_row.Goals as goal

pub returns : goal.returns
returns c =
    let a = c.args in
    let k = a.s - a.frame.top in
    let n = c.row_bytes-n.result in
    band_one _ _ _ _ a.s k (k * n) _ _ (omega arith) (ap (λ (x : ℕ). k * x) c.row_bytes-n.ensures) (k * n + n - k * n) _
    (omega arith) c.requires.0 (λ i. search rules)
    (add-sub_cancel_left (k * n) n ∙ c.row_bytes-n.ensures) c.ink_stretch.ensures
