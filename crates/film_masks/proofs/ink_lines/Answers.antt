-- `film_masks::ink_lines` meets its contract. Assumes nothing.
use mathlib.Core.Path.{ap, ◌∙◌}
use Prim.Native.Nat.{ℕ, ◌+◌, ◌-◌, ◌*◌}
use native.Mathlib.Nat.{add-sub_cancel_left}
use native.Mathlib.Omega.{arith}
use Rattle.film_masks.proofs.Lines.{lined_first, lined_row, lined_done}
use Rattle.film_masks.proofs.ink_lines.Goals as goal

pub loop-s-init : goal.loop-s-init
loop-s-init g c = λ C M h. lined_first (λ i. (c.type_inv.buf i).fits) h.off c.max-s.ensures

pub loop-s-preserved : goal.loop-s-preserved
loop-s-preserved g c = λ C M h.
    let w = c.loop-s.invariant C M h in
    let k = c.loop-s.s - c.args.frame.top in
    let n = c.row_bytes-n.result in
    lined_row w (k * n) (k * n + n - k * n) (omega arith) c.requires.0 (ap (λ (x : ℕ). k * x) c.row_bytes-n.ensures)
    (add-sub_cancel_left (k * n) n ∙ c.row_bytes-n.ensures) (h.on _ _ _ (omega (arith, w.since)) (omega arith) c.ink_row.ensures)

pub returns : goal.returns
returns g c = λ C M h. lined_done (c.loop-s.invariant C M h) (omega arith)
