-- `film_paint::paint_dot` meets its contract: what it writes is the painted dot, and where a transparent tile is 0 the row stays. Assumes nothing.
use Rattle.film_paint.proofs.Painting.{solid_dot, ink_dot, opaque_dot, keep_dot, dot_written, dot_kept}
use Rattle.film_paint.proofs.paint_dot.Goals as goal
use Rattle.film_paint.proofs.paint_dot.Goals.{then-c-via-then-c, then-c-via-else-c+then-not-t}

pub returns-in-Solid : goal.returns-in-Solid
returns-in-Solid c = dot_written _ _ _ _ _ c.set_dot.ensures (solid_dot _ _ _ _ _ c.in-Solid.is)

pub returns-then-c : goal.returns-then-c
returns-then-c c =
    elim c.then-c.branch [
      | then-c-via-then-c w ↦ dot_written _ _ _ _ _ c.set_dot-then-c.ensures (ink_dot _ _ _ _ _ _ c.in-Tile.is c.tile_dot-c.ensures w.if-c.true)
      | then-c-via-else-c+then-not-t w ↦
          dot_written _ _ _ _ _ c.set_dot-then-c.ensures (opaque_dot _ _ _ _ _ _ c.in-Tile.is c.tile_dot-c.ensures w.if-not-t.true)
    ]

pub returns-else-not-t : goal.returns-else-not-t
returns-else-not-t c =
    dot_kept c.args.row.now c.args.j _ (λ j. (c.type_inv.row j).fits)
    (keep_dot _ _ _ _ _ _ c.in-Tile.is c.tile_dot-c.ensures c.if-not-t.false c.if-c.false)
