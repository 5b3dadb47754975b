-- What the loop over a row's dots asks of the mask that it is given.
use Rattle.std.specs.Prelude.{◌≡◌, Bool, ℕ, ◌+◌, ◌<◌, ◌≤◌}

-- a mask may be asked for the dots from `from` up to, not including, `to` of a row whose first dot is dot `left` of the film
abbrev pub Takes : (left from to : ℕ) → (may : ℕ → Type 0) → Type 0
Takes left from to may = (j : ℕ) → from ≤ j → j < to → may (left + j)

-- and answers what M says there
abbrev pub Tells : (left from to : ℕ) → (answers : ℕ → Bool → Type 0) → (M : ℕ → Bool) → Type 0
Tells left from to answers M = (j : ℕ) (r : Bool) → from ≤ j → j < to → answers (left + j) r → r ≡ M (left + j)
