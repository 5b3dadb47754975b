-- `film_masks::ink_rectangle` meets its contract. Assumes nothing.
use Rattle.std.proofs.Common.{rules}
use Rattle.film_masks.proofs.Lines.{rectangle_lines}
use Rattle.film_masks.proofs.ink_rectangle.Goals as goal

pub returns : goal.returns
returns c = c.ink_lines.ensures _ _ (rectangle_lines _ _ _ _ (λ row row' s e. search rules))
