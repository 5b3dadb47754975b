-- `film_masks::ink_trapezoid_row` meets its contract: no edge is a negative number up to its last line. Assumes nothing.
use Prim.Native.Nat.{◌+◌, ◌-◌}
use native.Mathlib.Omega.{arith}
use Rattle.film_edges.proofs.Edges.{placed}
use Rattle.film_masks.proofs.Lines.{trapezoid_row}
use Rattle.film_masks.proofs.ink_trapezoid_row.Goals as goal

pub overflow_cast-from : goal.overflow_cast-from
overflow_cast-from c =
    let t = c.args.t in
    (placed _ t.f_min t.f_min_last (t.s_size - 1) (c.args.s - t.s_min) c.edge_at-from.type_inv c.edge_at-from.ensures (omega arith)).cast

pub overflow_cast-to : goal.overflow_cast-to
overflow_cast-to c =
    let t = c.args.t in
    (placed _ (t.f_min + t.f_size) (t.f_min_last + t.f_size_last) (t.s_size - 1) (c.args.s - t.s_min) c.edge_at-to.type_inv c.edge_at-to.ensures (omega arith)).cast

pub returns : goal.returns
returns c =
    let t = c.args.t in
    trapezoid_row c.args.frame _ _ _ _ _ _ _ _ _ _ _ _ c.requires.0 c.requires.1
    (placed _ t.f_min t.f_min_last (t.s_size - 1) (c.args.s - t.s_min) c.edge_at-from.type_inv c.edge_at-from.ensures (omega arith)).is
    (placed _ (t.f_min + t.f_size) (t.f_min_last + t.f_size_last) (t.s_size - 1) (c.args.s - t.s_min) c.edge_at-to.type_inv c.edge_at-to.ensures (omega arith)).is
    c.ink_stretch.ensures
