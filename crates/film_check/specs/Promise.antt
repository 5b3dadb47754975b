-- What the check promises, as it stands in check's `ensures`: the answer for every sheet and load.
use Rattle.std.specs.Prelude.{◌≡◌, List, ℕ, Result}
use Rattle.refusal.specs.Code.{answer_as}
use Rattle.refusal.specs.declared.Refusal.{Refusal}
use Rattle.film_check.specs.Check.{CheckAnswer, check_answer}

-- the answer that the code's answer stands for
abbrev pub checked_as : Result ℕ Refusal → CheckAnswer
checked_as r = answer_as (λ n. n) r

-- a check of a sheet with its load answers r
pub record CheckPromised (sheet load : List ℕ) (r : Result ℕ Refusal) : Type 0 where
  pub answer_is : checked_as r ≡ check_answer sheet load
