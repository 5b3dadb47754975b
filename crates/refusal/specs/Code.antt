-- The answers that the code's answers stand for.
use Rattle.std.specs.Prelude.{Result, Ok, Err}
use Rattle.refusal.specs.Answers.{Answer, given, refused, Verdict}
use Rattle.refusal.specs.Faults.{number_of}
use Rattle.refusal.specs.declared.Refusal.{Refusal}

abbrev pub refused_as : {A : Type 0} → Refusal → Answer A
refused_as r = refused (number_of r.fault) r.place

-- what was asked for, by what it stands for; or a refusal
abbrev pub answer_as : {A B : Type 0} → (A → B) → Result A Refusal → Answer B
answer_as f (Ok a) = given (f a)
answer_as f (Err r) = refused_as r

abbrev pub tested_as : Result Unit Refusal → Verdict
tested_as r = answer_as (λ u. u) r
