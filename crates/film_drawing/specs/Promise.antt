-- What a draw promises, as it stands in draw's `ensures`: the answer and the buffer, for every sheet, load, page, band and buffer.
use Rattle.std.specs.Prelude.{◌≡◌, List, ℕ, Result, length}
use Rattle.refusal.specs.Answers.{Answer, given, and_then}
use Rattle.refusal.specs.Code.{answer_as}
use Rattle.refusal.specs.declared.Refusal.{Refusal}
use Rattle.film_drawing.specs.Draw.{DrawAnswer, draw_answer, buffer_after}
use Rattle.film_drawing.specs.declared.Drawn.{Drawn}

-- rows and dots
pub record Counts : Type 0 where
  pub rows : ℕ
  pub dots : ℕ

abbrev pub done : (rows dots : ℕ) → Answer Counts
done rows dots = given (record { rows = rows; dots = dots })

-- of the code's answer
abbrev pub drawn_as : Result Drawn Refusal → Answer Counts
drawn_as r = answer_as (λ d. record { rows = d.rows; dots = d.dots }) r

-- of the answer that is due, which has the bytes of the rows too
abbrev pub due : DrawAnswer → Answer Counts
due a = and_then a (λ d. done d.rows d.dots)

-- a draw of band b of page `page` into a buffer that held `held` answers r and leaves `left` in the buffer
pub record DrawPromised (sheet load : List ℕ) (page b : ℕ) (held : List ℕ) (r : Result Drawn Refusal) (left : List ℕ) : Type 0 where
  pub answer_is : drawn_as r ≡ due (draw_answer sheet load page b (length held))
  pub left_is : left ≡ buffer_after (draw_answer sheet load page b (length held)) held
