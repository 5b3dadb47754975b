-- One byte comes: what a record, its answer and the two lent buffers are then. It says so of every record.
use Rattle.std.specs.Prelude.{◌≡◌, refl, Result, Ok, Err, Bool, cond, ◌&&◌, ◌||◌, List, [], ◌++◌, ℕ, ◌+◌, ◌*◌, eqb, ltb, length, take, drop, set, replicate}
use Rattle.refusal.specs.declared.Fault.{Fault}
use Rattle.refusal.specs.declared.Fault.TheVariants as fault
use Rattle.refusal.specs.declared.Refusal.{Refusal}
use Rattle.strip.specs.declared.Receiver.{Receiver}
use Rattle.strip.specs.declared.Phase.{Phase}
use Rattle.strip.specs.declared.Phase.TheVariants.{Hunt, Mark, Command, Indicator, Low, High, Body, SumLow, SumHigh, ClockFirst, ClockSecond}
use Rattle.strip.specs.declared.Answer.{Answer}
use Rattle.strip.specs.declared.Answer.TheVariants.{Reply, Initialized, Added, Ended, Inquired, Printed}
use Rattle.strip.specs.Packets.{first_mark, second_mark, fitting, number, add16, most_body}
use Rattle.strip.specs.Dots.{printed}
use Rattle.strip.specs.Actions.{Action, initialize, add, end_page, print, inquire, refuse, action, most_bands}

-- what a byte is answered: an answer, or a refusal
abbrev pub Answered : Type 0
Answered = Result Answer Refusal

pub record After : Type 0 where
  pub rec : Receiver
  pub answer : Answered
  pub bands : List ℕ
  pub dots : List ℕ

-- room for nine bands, and for their rows
abbrev pub room : ℕ
room = 5760

-- a record by its numbers
abbrev pub receiver : Phase → (command indicator size have sum low status bands : ℕ) (body : List ℕ) → Receiver
receiver phase command indicator size have sum low status bands body = record {
  phase = phase;
  command = command;
  indicator = indicator;
  size = size;
  have = have;
  sum = sum;
  low = low;
  status = status;
  bands = bands;
  body = body;
}

-- the record with another phase and other numbers of the packet; status, bands and body stay
abbrev pub noted : Receiver → Phase → (command indicator size have sum low : ℕ) → Receiver
noted r phase command indicator size have sum low = receiver phase command indicator size have sum low r.status r.bands r.body

abbrev pub at : Receiver → Phase → Receiver
at r phase = noted r phase r.command r.indicator r.size r.have r.sum r.low

-- the record with so many waiting bands
abbrev pub holding : Receiver → (bands : ℕ) → Receiver
holding r n = receiver r.phase r.command r.indicator r.size r.have r.sum r.low r.status n r.body

-- after so many body bytes: one more, or the checksum where all came; after 648 it comes whatever the length says
abbrev pub after_byte : (have size : ℕ) → Phase
after_byte have size = cond (ltb have size && ltb have most_body) Body SumLow

abbrev pub with_byte : Receiver → ℕ → (have : ℕ) → (body : List ℕ) → Receiver
with_byte r b have body = receiver (after_byte have r.size) r.command r.indicator r.size have (add16 r.sum b) r.low r.status r.bands body

-- one more body byte, kept where there is room for it
abbrev pub bodied : Receiver → ℕ → Receiver
bodied r b = cond (ltb r.have most_body) (with_byte r b (r.have + 1) (set r.body r.have b)) (with_byte r b r.have r.body)

-- a band at place n of the buffer
abbrev pub placed : (bands : List ℕ) (n : ℕ) (band : List ℕ) → List ℕ
placed bands n band = take (640 * n) bands ++ (band ++ drop (640 * n + 640) bands)

-- every refusal is at place 0
abbrev pub refused_with : Fault → Answered
refused_with f = Err (record { fault = f; place = 0 })

abbrev pub leaves : Receiver → Answered → (bands dots : List ℕ) → After
leaves r a bs ds = record { rec = r; answer = a; bands = bs; dots = ds }

-- the second checksum byte came, and the packet asks for this
abbrev pub carried : Receiver → Action → (bands dots : List ℕ) → After
carried r initialize bs ds = leaves (at (holding r 0) ClockFirst) (Ok Initialized) bs ds
carried r (add band) bs ds = leaves (at (holding r (r.bands + 1)) ClockFirst) (Ok (Added (r.bands + 1))) (placed bs r.bands band) ds
carried r end_page bs ds = leaves (at r ClockFirst) (Ok Ended) bs ds
carried r (print palette margins density) bs ds = leaves (at r ClockFirst) (Ok (Printed r.bands margins density)) bs (printed bs r.bands palette ds)
carried r inquire bs ds = leaves (at r ClockFirst) (Ok Inquired) bs ds
carried r (refuse f) bs ds = leaves (at r Hunt) (refused_with f) bs ds

-- the header's last byte came, and the length is n
abbrev pub headed : Receiver → (n sum : ℕ) → (bands dots : List ℕ) → After
headed r n s bs ds =
    cond (fitting r.command r.indicator n)
    (leaves (noted r (cond (eqb n 0) SumLow Body) r.command r.indicator n 0 s r.low) (Ok (Reply 0)) bs ds)
    (leaves (at r Hunt) (refused_with fault.PacketHeader) bs ds)

-- the byte is taken
abbrev pub taken : Phase → Receiver → ℕ → (bands dots : List ℕ) → After
taken Hunt r b bs ds = leaves (at r (cond (eqb b first_mark) Mark Hunt)) (Ok (Reply 0)) bs ds
taken Mark r b bs ds = leaves (at r (cond (eqb b second_mark) Command (cond (eqb b first_mark) Mark Hunt))) (Ok (Reply 0)) bs ds
taken Command r b bs ds = leaves (noted r Indicator b r.indicator r.size r.have b r.low) (Ok (Reply 0)) bs ds
taken Indicator r b bs ds = leaves (noted r Low r.command b r.size r.have (add16 r.sum b) r.low) (Ok (Reply 0)) bs ds
taken Low r b bs ds = leaves (noted r High r.command r.indicator r.size r.have (add16 r.sum b) b) (Ok (Reply 0)) bs ds
taken High r b bs ds = headed r (number r.low b) (add16 r.sum b) bs ds
taken Body r b bs ds = leaves (bodied r b) (Ok (Reply 0)) bs ds
taken SumLow r b bs ds = leaves (noted r SumHigh r.command r.indicator r.size r.have r.sum b) (Ok (Reply 0)) bs ds
taken SumHigh r b bs ds = carried r (action r.bands r.command r.indicator (take r.have r.body) r.sum r.low b) bs ds
taken ClockFirst r b bs ds = leaves (at r ClockSecond) (Ok (Reply 0x81)) bs ds
taken ClockSecond r b bs ds = leaves (at r Hunt) (Ok (Reply r.status)) bs ds

-- Unusable, 36: a lent buffer under 5,760 bytes, or a record of over nine bands or 648 body bytes
unfoldable pub unusable : (band_bytes dot_bytes waiting have : ℕ) → Bool
unusable band_bytes dot_bytes waiting have = ltb band_bytes room || (ltb dot_bytes room || (ltb most_bands waiting || ltb most_body have))

-- one byte, to a record that stands in this phase: 36 comes first, and the byte is then not taken
unfoldable pub step_in : Phase → Receiver → ℕ → (bands dots : List ℕ) → After
step_in phase r b bs ds = cond (unusable (length bs) (length ds) r.bands r.have) (leaves r (refused_with fault.Unusable) bs ds) (taken phase r b bs ds)

abbrev pub step_of : Receiver → ℕ → (bands dots : List ℕ) → After
step_of r b bs ds = step_in r.phase r b bs ds

-- what the contracts of `step` and `receive` say
abbrev pub Steps : Receiver → ℕ → (bands dots : List ℕ) → Receiver → Answered → (bands dots : List ℕ) → Type 0
Steps r b bs ds r' a bs' ds' = leaves r' a bs' ds' ≡ step_of r b bs ds

-- the record with the status that the host sets
abbrev pub with_status : ℕ → Receiver → Receiver
with_status v r = receiver r.phase r.command r.indicator r.size r.have r.sum r.low v r.bands r.body

-- a new record
abbrev pub new_record : Receiver
new_record = receiver Hunt 0 0 0 0 0 0 0 0 (replicate 648 0)

-- ---- worked cases: what a byte leaves of a record, and records that no stream leaves. What a stream does is worked out in Reading and Witness

-- a record of command 02 with these numbers and a body of 7s
abbrev odd : Phase → (size have sum low bands : ℕ) → Receiver
odd phase size have sum low bands = receiver phase 0x02 0 size have sum low 0 bands (replicate 648 7)

-- a record in which no two numbers are alike but the sum and the low byte
abbrev mixed : Phase → (command indicator sum low bands : ℕ) → Receiver
mixed phase command indicator sum low bands = receiver phase command indicator 3 4 sum low 5 bands (replicate 648 7)

pub record StepCases : Type 0 where
  -- what a byte does not speak of stays
  pub at_command : (taken Command (mixed Command 1 2 8 6 9) 0x0F [] []).rec ≡ mixed Indicator 0x0F 2 0x0F 6 9
  pub at_indicator : (taken Indicator (mixed Indicator 1 2 8 6 9) 0x10 [] []).rec ≡ mixed Low 1 0x10 0x18 6 9
  pub at_low : (taken Low (mixed Low 1 2 8 6 9) 0x10 [] []).rec ≡ mixed High 1 2 0x18 0x10 9
  pub at_sum : (taken SumLow (mixed SumLow 1 2 8 6 9) 0x10 [] []).rec ≡ mixed SumHigh 1 2 8 0x10 9
  pub empties : (taken SumHigh (mixed SumHigh 1 2 6 6 9) 0 [] []).rec ≡ mixed ClockFirst 1 2 6 6 0
  pub refused_31 : (taken SumHigh (mixed SumHigh 1 2 8 6 9) 0 [] []).rec ≡ mixed Hunt 1 2 8 6 9
  pub refused_33 : (taken High (mixed High 1 2 8 6 9) 0 [] []).rec ≡ mixed Hunt 1 2 8 6 9
  -- more body bytes than the length: the next is kept, and the checksum comes
  pub past_length : (taken Body (odd Body 4 5 0 0 0) 9 [] []).rec ≡ receiver SumLow 0x02 0 4 6 9 0 0 0 (set (replicate 648 7) 5 9)
  -- no room: the byte is not kept, and the checksum comes whatever the length says
  pub no_room : (taken Body (odd Body 700 648 1 0 0) 9 [] []).rec ≡ odd SumLow 700 648 10 0 0
  pub last_room : (taken Body (odd Body 700 647 1 0 0) 9 [] []).rec ≡ receiver SumLow 0x02 0 700 648 10 0 0 0 (set (replicate 648 7) 647 9)
  -- Print with two body bytes: palette and density are 0
  pub short_print : (taken SumHigh (odd SumHigh 4 2 1 1 0) 0 [] []).answer ≡ Ok (Printed 0 7 0)
  pub ten_bands : (step_in Hunt (odd Hunt 0 0 0 0 10) 0x88 (replicate 5760 0) (replicate 5760 0)).answer ≡ refused_with fault.Unusable
  pub body_649 : (step_in Hunt (odd Hunt 0 649 0 0 9) 0x88 (replicate 5760 0) (replicate 5760 0)).answer ≡ refused_with fault.Unusable
  pub just_usable : (step_in Hunt (odd Hunt 0 648 0 0 9) 0x88 (replicate 5760 0) (replicate 5760 0)).answer ≡ Ok (Reply 0)
  pub bands_5759 : (step_in Hunt (odd Hunt 0 0 0 0 0) 0x88 (replicate 5759 0) (replicate 5760 0)).answer ≡ refused_with fault.Unusable
  pub dots_5759 : (step_in Hunt (odd Hunt 0 0 0 0 0) 0x88 (replicate 5760 0) (replicate 5759 0)).answer ≡ refused_with fault.Unusable

pub step_cases : StepCases
unfolding fitting action step_in unusable
step_cases = record {
  at_command = refl;
  at_indicator = refl;
  at_low = refl;
  at_sum = refl;
  empties = refl;
  refused_31 = refl;
  refused_33 = refl;
  past_length = refl;
  no_room = refl;
  last_room = refl;
  short_print = refl;
  ten_bands = refl;
  body_649 = refl;
  just_usable = refl;
  bands_5759 = refl;
  dots_5759 = refl;
}
