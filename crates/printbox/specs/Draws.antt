-- A call of `film_check` or `film_draw` is a call of demand 3 (crates/film_drawing/specs, Demand3): it keeps the promise of check or of draw.
use Rattle.std.specs.Prelude.{◌≡◌, List, ℕ, Result}
use Rattle.refusal.specs.declared.Refusal.{Refusal}
use Rattle.film_check.specs.Promise.{checked_as, CheckPromised}
use Rattle.film_drawing.specs.Promise.{drawn_as, DrawPromised}
use Rattle.film_drawing.specs.declared.Drawn.{Drawn}
use Rattle.printbox_answers.specs.Numbers.{of_check, of_draw}

-- a check that gave `numbers`: they are those of an answer that is promised
pub record KeepsCheckPromise (sheet load numbers : List ℕ) : Type 0 where
  pub answer : Result ℕ Refusal
  pub numbers_are : numbers ≡ of_check (checked_as answer)
  pub promised : CheckPromised sheet load answer

-- a draw that gave `numbers` and left `left` in a buffer that held `held`
pub record KeepsDrawPromise (sheet load : List ℕ) (page b : ℕ) (held numbers left : List ℕ) : Type 0 where
  pub answer : Result Drawn Refusal
  pub numbers_are : numbers ≡ of_draw (drawn_as answer)
  pub promised : DrawPromised sheet load page b held answer left
