-- A call on numbers is a call of the statement about streams (crates/strip/specs, Streams): it keeps receive's promise.
use Rattle.std.specs.Prelude.{◌≡◌, List, ℕ}
use Rattle.strip.specs.Step.{Answered, Steps, with_status, new_record}
use Rattle.strip_numbers.specs.Numbers.{receiver_of, record_of, record_with_status, answer_of, NumberSteps}
use Rattle.strip_numbers.specs.declared.StripRecord.{StripRecord}
use Rattle.strip_numbers.specs.declared.StripAnswer.{StripAnswer}

-- a call that left r' in a record that held r, and gave the numbers a: they are those of an answer that is promised
pub record KeepsPromise (r : StripRecord) (b : ℕ) (bs ds : List ℕ) (r' : StripRecord) (a : StripAnswer) (bs' ds' : List ℕ) : Type 0 where
  pub answer : Answered
  pub numbers_are : a ≡ answer_of answer
  pub promised : Steps (receiver_of r) b bs ds (receiver_of r') answer bs' ds'

pub record Keeps : Type 0 where
  pub receives : (r r' : StripRecord) (b : ℕ) (bs ds bs' ds' : List ℕ) (a : StripAnswer) → NumberSteps r b bs ds r' a bs' ds' → KeepsPromise r b bs ds r' a bs' ds'
  pub begins : receiver_of (record_of new_record) ≡ new_record
  pub sets : (v : ℕ) (r : StripRecord) → receiver_of (record_with_status v r) ≡ with_status v (receiver_of r)
