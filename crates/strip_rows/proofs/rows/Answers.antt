-- `strip_rows::rows` meets its contract. Assumes nothing.
use Prim.Native.Nat.{◌<◌, ◌+◌}
use mathlib.Core.Path.{refl}
use lib.ListN.{length, length-set}
use native.Mathlib.Omega.{arith}
use Rattle.strip_rows.proofs.Laws.{begins, in_bands, pair_goes_on, ends}
use Rattle.strip_rows.proofs.rows.Goals as goal

pub loop-i-init : goal.loop-i-init
loop-i-init c = (refl, begins _ _)

-- both bytes of the tile are in the bands
in_reach : (c : goal.After-shared_slice_known-in-loop-i-1-unread) → c.tile_byte-at.result + 1 < length c.args.bands.now
in_reach c = omega (arith, in_bands c.loop-i.i c.args.n (omega arith))

-- both bytes of the tile are in the bands
in_reach-2 : (c : goal.After-shared_slice_known-in-loop-i-2-1-unread) → c.tile_byte-at.result + 1 < length c.args.bands.now
in_reach-2 c = omega (arith, in_bands c.loop-i.i c.args.n (omega arith))

pub bounds-bands-at : goal.bounds-bands-at
bounds-bands-at c = omega (arith, in_reach c)

pub bounds-bands-at-in-loop-i : goal.bounds-bands-at-in-loop-i
bounds-bands-at-in-loop-i c = in_reach-2 c

pub entry-requires : goal.entry-requires
entry-requires c =
    let at = c.tile_byte-at.result in
    omega (arith, c.type_inv.bands at, c.type_inv.bands (at + 1))

pub bounds-dots-i-in-loop-i : goal.bounds-dots-i-in-loop-i
bounds-dots-i-in-loop-i c = simp length-set (omega arith)

pub loop-i-preserved : goal.loop-i-preserved
loop-i-preserved c =
    let o = c.loop-i in
    let g = c.table_of-table in
    let at = c.tile_byte-at.result in (
      simp length-set o.invariant.0,
      pair_goes_on _ _ _ _ _ _ at _ _ c.tile_byte-at.ensures g.ensures (omega (arith, c.type_inv.bands at)) (omega (arith, c.type_inv.bands (at + 1)))
          c.entry.ensures c.entry-in-loop-i.ensures (omega arith) o.invariant.1,
    )

pub shape_of-dots : goal.shape_of-dots
shape_of-dots c = c.loop-i.invariant.0

pub returns : goal.returns
returns c = ends _ _ _ _ _ _ c.loop-i.invariant.1 (omega arith)
