-- The numbers of the code's answers.
use Rattle.std.specs.Prelude.{◌≡◌, List, [], ◌∷◌, ℕ, Result, Ok, Err}
use Rattle.refusal.specs.Faults.{number_of}
use Rattle.refusal.specs.declared.Refusal.{Refusal}
use Rattle.refusal.specs.declared.Fault.TheVariants as fault
use Rattle.gdi_read.specs.declared.LineRead.{LineRead}
use Rattle.gdi_read.specs.declared.LineRead.TheVariants.{Line, PageEnd}
use Rattle.printbox_answers.specs.Numbers.{done, refused, page_end}

-- a line, or the page end that stands where it would start: the next place
abbrev pub line_values : LineRead → List ℕ
line_values (Line offset left) = done offset left
line_values (PageEnd offset left) = page_end offset left

-- a refusal: its fault's number, and its place
abbrev pub told_refusal : Refusal → List ℕ
told_refusal r = refused (number_of r.fault) r.place

-- a refusal by any number, and its place
abbrev pub told_number : ℕ × ℕ → List ℕ
told_number (number, place) = refused number place

-- an answer, by the numbers of what is given and of what is refused
abbrev pub numbers_of : {T R : Type 0} → (T → List ℕ) → (R → List ℕ) → Result T R → List ℕ
numbers_of values told (Ok a) = values a
numbers_of values told (Err r) = told r

-- ---- worked cases

pub record CodeCases : Type 0 where
  pub given : numbers_of (λ n. done n 0) told_refusal (Ok 3) ≡ 0 ∷ 3 ∷ 0 ∷ []
  pub refused_case : numbers_of (λ n. done n 0) told_refusal (Err (record { fault = fault.UnknownCode; place = 14 })) ≡ 1 ∷ 7 ∷ 14 ∷ []
  -- a number that no fault has
  pub by_number : numbers_of (λ n. done n 0) told_number (Err (99, 14)) ≡ 1 ∷ 99 ∷ 14 ∷ []
  pub line_read : line_values (Line 114 5) ≡ 0 ∷ 114 ∷ 5 ∷ []
  pub at_page_end : line_values (PageEnd 119 4) ≡ 2 ∷ 119 ∷ 4 ∷ []

pub code_cases : CodeCases
code_cases = search
