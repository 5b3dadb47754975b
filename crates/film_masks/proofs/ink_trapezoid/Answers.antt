-- `film_masks::ink_trapezoid` meets its contract. Assumes nothing.
use Rattle.std.proofs.Common.{rules}
use Rattle.film_masks.proofs.Lines.{trapezoid_lines}
use Rattle.film_masks.proofs.ink_trapezoid.Goals as goal

pub returns : goal.returns
returns c = c.ink_lines.ensures _ _ (trapezoid_lines _ _ _ _ _ _ (λ row row' s a b e. search rules))
