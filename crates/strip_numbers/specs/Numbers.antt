-- The receiver's record and its answers as numbers.
use Rattle.std.specs.Prelude.{◌≡◌, refl, Ok, Err, cond, List, [], ℕ, length, replicate}
use Rattle.strip.specs.declared.Receiver.{Receiver}
use Rattle.strip.specs.declared.Phase.TheVariants.{Hunt}
use Rattle.refusal.specs.declared.Refusal.{Refusal}
use Rattle.strip.specs.declared.Answer.{Answer}
use Rattle.strip.specs.declared.Answer.TheVariants.{Reply, Initialized, Added, Ended, Inquired, Printed}
use Rattle.refusal.specs.declared.Fault.TheVariants.{Checksum, UnknownCommand, PacketHeader, TooManyBands, BandBytes, Unusable}
use Rattle.refusal.specs.Faults as faults
use Rattle.strip.specs.Phases.{phase_of, number_of}
use Rattle.strip.specs.Step.{After, Answered, refused_with, receiver, step_of, unusable, new_record}
use Rattle.strip_numbers.specs.declared.StripRecord.{StripRecord}
use Rattle.strip_numbers.specs.declared.StripAnswer.{StripAnswer}

-- ---- the record

abbrev pub receiver_of : StripRecord → Receiver
receiver_of r = receiver (phase_of r.phase) r.command r.indicator r.size r.have r.sum r.low r.status r.bands r.body

-- a record by its numbers
abbrev pub numbered : (phase command indicator size have sum low status bands : ℕ) (body : List ℕ) → StripRecord
numbered phase command indicator size have sum low status bands body = record {
  phase = phase;
  command = command;
  indicator = indicator;
  size = size;
  have = have;
  sum = sum;
  low = low;
  status = status;
  bands = bands;
  body = body;
}

abbrev pub record_of : Receiver → StripRecord
record_of r = numbered (number_of r.phase) r.command r.indicator r.size r.have r.sum r.low r.status r.bands r.body

-- the record with the status that the host sets
abbrev pub record_with_status : ℕ → StripRecord → StripRecord
record_with_status v r = numbered r.phase r.command r.indicator r.size r.have r.sum r.low v r.bands r.body

-- ---- the answer

-- kind 0, done: the byte on the line; and what the packet did that the byte ends, with its numbers
abbrev pub done : (reply event bands margins density : ℕ) → StripAnswer
done reply event bands margins density =
    record { kind = 0; reply = reply; event = event; bands = bands; margins = margins; density = density; number = 0; place = 0 }

-- kind 1, refused: number and place; on the line a byte that is taken is answered 0
abbrev pub refusal : (number place : ℕ) → StripAnswer
refusal number place = record { kind = 1; reply = 0; event = 0; bands = 0; margins = 0; density = 0; number = number; place = place }

-- events: 0 none, 1 Initialize, 2 a band, 3 Data with no body, 4 Inquiry, 5 Print
abbrev pub event_of : Answer → StripAnswer
event_of (Reply x) = done x 0 0 0 0
event_of Initialized = done 0 1 0 0 0
event_of (Added count) = done 0 2 count 0 0
event_of Ended = done 0 3 0 0 0
event_of Inquired = done 0 4 0 0 0
event_of (Printed count margins density) = done 0 5 count margins density

abbrev pub refusal_of : Refusal → StripAnswer
refusal_of r = refusal (faults.number_of r.fault) r.place

abbrev pub answer_of : Answered → StripAnswer
answer_of (Ok answer) = event_of answer
answer_of (Err r) = refusal_of r

-- ---- one byte

pub record Outcome : Type 0 where
  pub rec : StripRecord
  pub answer : StripAnswer
  pub bands : List ℕ
  pub dots : List ℕ

abbrev pub outcome : StripRecord → StripAnswer → (bands dots : List ℕ) → Outcome
outcome r a bs ds = record { rec = r; answer = a; bands = bs; dots = ds }

abbrev pub of_after : After → Outcome
of_after o = outcome (record_of o.rec) (answer_of o.answer) o.bands o.dots

-- 36 leaves the record as it came, whatever its phase; else it is the step of the receiver that the record stands for
unfoldable pub number_step : StripRecord → ℕ → (bands dots : List ℕ) → Outcome
number_step r b bs ds =
    cond (unusable (length bs) (length ds) r.bands r.have) (outcome r (refusal 36 0) bs ds) (of_after (step_of (receiver_of r) b bs ds))

-- what the contract of the library's entry says
abbrev pub NumberSteps : StripRecord → ℕ → (bands dots : List ℕ) → StripRecord → StripAnswer → (bands dots : List ℕ) → Type 0
NumberSteps r b bs ds r' a bs' ds' = outcome r' a bs' ds' ≡ number_step r b bs ds

-- ---- worked cases

-- a new record in a phase of another number
abbrev in_phase : ℕ → StripRecord
in_phase n = numbered n 0 0 0 0 0 0 0 0 (replicate 648 0)

pub record NumberCases : Type 0 where
  pub new_record_case : record_of new_record ≡ in_phase 0
  pub reply : answer_of (Ok (Reply 0x81)) ≡ record { kind = 0; reply = 0x81; event = 0; bands = 0; margins = 0; density = 0; number = 0; place = 0 }
  pub printed : answer_of (Ok (Printed 9 0x13 0x40)) ≡ record { kind = 0; reply = 0; event = 5; bands = 9; margins = 0x13; density = 0x40; number = 0; place = 0 }
  pub refused : answer_of (refused_with Checksum) ≡ record { kind = 1; reply = 0; event = 0; bands = 0; margins = 0; density = 0; number = 31; place = 0 }
  pub unknown_command : (answer_of (refused_with UnknownCommand)).number ≡ 32
  pub packet_header : (answer_of (refused_with PacketHeader)).number ≡ 33
  pub too_many_bands : (answer_of (refused_with TooManyBands)).number ≡ 34
  pub band_bytes : (answer_of (refused_with BandBytes)).number ≡ 35
  pub unusable_call : (answer_of (refused_with Unusable)).number ≡ 36
  pub initialized : (answer_of (Ok Initialized)).event ≡ 1
  pub added : (answer_of (Ok (Added 3))).event ≡ 2
  pub added_count : (answer_of (Ok (Added 3))).bands ≡ 3
  pub ended : (answer_of (Ok Ended)).event ≡ 3
  pub inquired : (answer_of (Ok Inquired)).event ≡ 4
  -- 36 leaves a phase that no number names; a byte that is taken is searched in it
  pub left : (number_step (in_phase 200) 7 [] []).rec.phase ≡ 200
  pub searched : phase_of 200 ≡ Hunt

pub number_cases : NumberCases
unfolding phase_of number_step unusable
number_cases = record {
  new_record_case = refl;
  reply = refl;
  printed = refl;
  refused = refl;
  unknown_command = refl;
  packet_header = refl;
  too_many_bands = refl;
  band_bytes = refl;
  unusable_call = refl;
  initialized = refl;
  added = refl;
  added_count = refl;
  ended = refl;
  inquired = refl;
  left = refl;
  searched = refl;
}
