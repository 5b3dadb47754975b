-- The statement about streams.
use Rattle.std.specs.Prelude.{◌≡◌, Ok, List, [], ◌∷◌, ◌++◌, ℕ, ◌*◌, ◌/◌, ◌%◌, ◌≤◌, ◌<◌, length, take}
use Rattle.refusal.specs.declared.Fault.{Fault}
use Rattle.refusal.specs.declared.Fault.TheVariants.{Unusable}
use Rattle.strip.specs.declared.Receiver.{Receiver}
use Rattle.strip.specs.declared.Phase.{Phase}
use Rattle.strip.specs.declared.Phase.TheVariants.{Hunt, Mark, Command, Indicator, Low, High, Body, SumLow, SumHigh, ClockFirst, ClockSecond}
use Rattle.strip.specs.declared.Answer.TheVariants.{Reply, Initialized, Added, Ended, Inquired, Printed}
use Rattle.strip.specs.Packets.{checksum}
use Rattle.strip.specs.Dots as rows
use Rattle.strip.specs.Reading.{Place, searching, half, in_header, in_body, in_sum, in_clock, Said, quiet, acknowledged, status, initialized, added, ended, inquired, printed, refused, Reading, plainly, Bands}
use Rattle.strip.specs.Step.{Answered, Steps, refused_with, with_status, new_record}

-- ---- what happens to a receiver

-- the bytes of the waiting bands in a buffer
abbrev pub waiting_in : Receiver → List ℕ → List ℕ
waiting_in r bs = take (640 * r.bands) bs

-- From a new record these bytes have been taken, one by one, and now the record is r and the bands wait in bs. Of a call's outcome nothing is said
-- but that it meets receive's promise; each call has whatever dots, and any bytes past the waiting bands.
pub data Stream : (bytes : List ℕ) (r : Receiver) (bs : List ℕ) → Type 0 where
  new : (bs : List ℕ) → Stream [] new_record bs
  took : {bytes : List ℕ} {r r' : Receiver} {bs bs' : List ℕ} (b : ℕ) → b < 256 → (ds ds' : List ℕ) (a : Answered)
      → Steps r b bs ds r' a bs' ds' → (a ≡ refused_with Unusable → ⊥) → Stream bytes r bs → Stream (bytes ++ (b ∷ [])) r' bs'
  -- a call refused with 36 takes no byte, whatever was lent to it
  not_taken : {bytes : List ℕ} {r r' : Receiver} {bs : List ℕ} (b : ℕ) (cs cs' ds ds' : List ℕ) (a : Answered)
      → Steps r b cs ds r' a cs' ds' → a ≡ refused_with Unusable → Stream bytes r bs → Stream bytes r' bs
  host : {bytes : List ℕ} {r : Receiver} {bs : List ℕ} (v : ℕ) → Stream bytes r bs → Stream bytes (with_status v r) bs
  -- nobody else writes the waiting bands; what lies past them may change
  others : {bytes : List ℕ} {r : Receiver} {bs bs' : List ℕ} → waiting_in r bs' ≡ waiting_in r bs → Stream bytes r bs → Stream bytes r bs'

-- ---- what is claimed

-- the header that a record holds
abbrev pub head_of : Receiver → List ℕ
head_of r = r.command ∷ r.indicator ∷ r.size % 256 ∷ r.size / 256 ∷ []

abbrev pub body_of : Receiver → List ℕ
body_of r = take r.have r.body

-- where a record stands, of the fields that its phase uses
abbrev pub place_at : Phase → Receiver → Place
place_at Hunt r = searching
place_at Mark r = half
place_at Command r = in_header []
place_at Indicator r = in_header (r.command ∷ [])
place_at Low r = in_header (r.command ∷ r.indicator ∷ [])
place_at High r = in_header (r.command ∷ r.indicator ∷ r.low ∷ [])
place_at Body r = in_body (head_of r) (body_of r)
place_at SumLow r = in_sum (head_of r) (body_of r) []
place_at SumHigh r = in_sum (head_of r) (body_of r) (r.low ∷ [])
place_at ClockFirst r = in_clock 0
place_at ClockSecond r = in_clock 1

abbrev pub place_of : Receiver → Place
place_of r = place_at r.phase r

-- the sum so far, where header or body bytes have come
abbrev pub SumIs : Place → ℕ → Type 0
SumIs searching s = Unit
SumIs half s = Unit
SumIs (in_header []) s = Unit
SumIs (in_header (b ∷ bs)) s = s ≡ checksum (b ∷ bs)
SumIs (in_body h bs) s = s ≡ checksum (h ++ bs)
SumIs (in_sum h bs c) s = s ≡ checksum (h ++ bs)
SumIs (in_clock n) s = Unit

unfoldable pub joined : Bands → List ℕ
joined [] = []
joined (band ∷ w) = band ++ joined w

pub record Shows (r : Receiver) (bs : List ℕ) (x : Reading) : Type 0 where
  pub place_is : place_of r ≡ x.place
  pub sum_is : SumIs x.place r.sum
  pub count_is : r.bands ≡ length x.waiting
  pub bands_are : waiting_in r bs ≡ joined x.waiting

-- the answer to what was said, where the host last set this status
abbrev pub answer_of : (status : ℕ) → Said → Answered
answer_of v quiet = Ok (Reply 0)
answer_of v acknowledged = Ok (Reply 0x81)
answer_of v status = Ok (Reply v)
answer_of v initialized = Ok Initialized
answer_of v (added count) = Ok (Added count)
answer_of v ended = Ok Ended
answer_of v inquired = Ok Inquired
answer_of v (printed count margins density palette) = Ok (Printed count margins density)
answer_of v (refused f) = refused_with f

-- the dots after a byte, where ds were there: Print writes the rows of the waiting bands, else they stay
abbrev pub dots_of : Bands → Said → List ℕ → List ℕ
dots_of w quiet ds = ds
dots_of w acknowledged ds = ds
dots_of w status ds = ds
dots_of w initialized ds = ds
dots_of w (added count) ds = ds
dots_of w ended ds = ds
dots_of w inquired ds = ds
dots_of w (printed count margins density palette) ds = rows.printed (joined w) count palette ds
dots_of w (refused f) ds = ds

-- a call that was refused: neither buffer changes, nor the count; with 36 nothing does, else the search begins at the next byte
pub record Unchanged (r r' : Receiver) (fault : Fault) (bs bs' ds ds' : List ℕ) : Type 0 where
  pub same_bands : bs' ≡ bs
  pub same_dots : ds' ≡ ds
  pub same_count : r'.bands ≡ r.bands
  pub not_taken : fault ≡ Unusable → r' ≡ r
  pub searches : (fault ≡ Unusable → ⊥) → r'.phase ≡ Hunt

pub record ReceivedPlainly : Type 0 where
  -- receiver and waiting bands are those of the plain reading of the packets
  pub reads : (bytes : List ℕ) (r : Receiver) (bs : List ℕ) → Stream bytes r bs → Shows r bs (plainly bytes)
  -- each taken byte is answered what the plain reading says
  pub answers : (bytes : List ℕ) (r r' : Receiver) (bs bs' ds ds' : List ℕ) (a : Answered) (b : ℕ) → b < 256 → Stream bytes r bs
      → Steps r b bs ds r' a bs' ds' → (a ≡ refused_with Unusable → ⊥) → a ≡ answer_of r.status (plainly (bytes ++ (b ∷ []))).said
  -- and writes the dots that it says
  pub prints : (bytes : List ℕ) (r r' : Receiver) (bs bs' ds ds' : List ℕ) (a : Answered) (b : ℕ) → b < 256 → Stream bytes r bs
      → Steps r b bs ds r' a bs' ds' → (a ≡ refused_with Unusable → ⊥) → ds' ≡ dots_of (plainly (bytes ++ (b ∷ []))).waiting (plainly (bytes ++ (b ∷ []))).said ds
  -- with room for nine bands in both buffers a byte is taken
  pub takes : (bytes : List ℕ) (r r' : Receiver) (bs bs' ds ds' : List ℕ) (a : Answered) (b : ℕ) → Stream bytes r bs
      → Steps r b bs ds r' a bs' ds' → 5760 ≤ length bs → 5760 ≤ length ds → a ≡ refused_with Unusable → ⊥
  -- whatever the record: a refused packet changes no band, and the search for a mark goes on at the next byte; 36 takes nothing and changes nothing
  pub refuses : (r r' : Receiver) (bs bs' ds ds' : List ℕ) (b : ℕ) (fault : Fault) → Steps r b bs ds r' (refused_with fault) bs' ds' → Unchanged r r' fault bs bs' ds ds'
