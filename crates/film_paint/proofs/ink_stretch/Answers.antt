-- `film_paint::ink_stretch` meets its contract: what it fills or paints is the part of the stretch that is in the window. Assumes nothing.
use mathlib.Core.Bool.{true}
use Rattle.std.proofs.Common.{arith, rules}
use Rattle.film_paint.specs.Rows.{window_of}
use Rattle.film_paint.proofs.Lines.{line_clipped, line_filled, line_dotted}
use Rattle.film_paint.proofs.ink_stretch.Goals as goal

pub returns-in-Solid : goal.returns-in-Solid
returns-in-Solid c =
    line_clipped _ (window_of c.args.frame) _ _ c.saturating_sub-first.result c.min-end.result _ _ _ _ c.saturating_sub-first.ensures (omega arith)
    (line_filled _ _ _ _ _ _ _ _ _ c.in-Solid.is c.fill.ensures)

pub returns-in-Tile : goal.returns-in-Tile
returns-in-Tile c =
    line_clipped _ (window_of c.args.frame) _ _ c.saturating_sub-first.result c.min-end.result _ _ _ _ c.saturating_sub-first.ensures (omega arith)
    (line_dotted _ _ _ _ _ _ _ _ (c.paint_dots.ensures (λ f. true) (λ j r p q e. search rules)))
