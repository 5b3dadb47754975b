-- `film_draw::band_frame` meets its contract: the band begins on the page, so no difference or cast loses anything. Assumes nothing.
use native.Mathlib.Omega.{arith}
use Rattle.film_draw.proofs.Drawing.{first_line}
use Rattle.film_draw.proofs.band_frame.Goals as goal

pub overflow_mul-above : goal.overflow_mul-above
overflow_mul-above c = omega (arith, first_line _ _ _ _ c.requires.0 c.requires.1 c.word-lines.ensures c.word-most.ensures)

pub overflow_sub-lines : goal.overflow_sub-lines
overflow_sub-lines c = omega (arith, first_line _ _ _ _ c.requires.0 c.requires.1 c.word-lines.ensures c.word-most.ensures)

pub overflow_cast-result : goal.overflow_cast-result
overflow_cast-result c = omega (arith, first_line _ _ _ _ c.requires.0 c.requires.1 c.word-lines.ensures c.word-most.ensures)
