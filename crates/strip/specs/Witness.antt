-- That the statement about streams speaks of something: whatever comes makes a stream. And one is worked out, byte by byte: a page of nine bands, plain and
-- coded, a tenth, a wrong checksum, a Print, a status that is set between two clock bytes, an Initialize.
use Rattle.std.specs.Prelude.{◌≡◌, refl, Ok, Err, List, [], ◌∷◌, ◌++◌, ℕ, zero, suc, ◌/◌, ◌%◌, ◌≤◌, ◌<◌, length, take, replicate}
use Rattle.refusal.specs.declared.Fault.TheVariants as fault
use Rattle.strip.specs.declared.Answer.TheVariants.{Reply, Initialized, Added, Ended, Inquired, Printed}
use Rattle.strip.specs.Packets.{fitting, sum_from, checksum}
use Rattle.strip.specs.Coding.{expand_from}
use Rattle.strip.specs.Actions.{action}
use Rattle.strip.specs.Dots.{printed, four_dots, listed}
use Rattle.strip.specs.Reading.{reading, plainly, read_on, packet, searching, status}
use Rattle.strip.specs.Step.{After, Answered, leaves, refused_with, step_in, step_of, unusable, with_status, new_record}
use Rattle.strip.specs.Streams.{Stream}

-- a byte comes, or the host sets the status
pub data Happening : Type 0 where
  comes : (byte : ℕ) → Happening
  sets : (value : ℕ) → Happening

-- the bytes that came
unfoldable pub bytes_of : List Happening → List ℕ
bytes_of [] = []
bytes_of (comes b ∷ hs) = b ∷ bytes_of hs
bytes_of (sets v ∷ hs) = bytes_of hs

-- the outcome of what happens to a receiver and its two buffers, in turn
unfoldable pub outcome_of : List Happening → After → After
outcome_of [] o = o
outcome_of (comes b ∷ hs) o = outcome_of hs (step_of o.rec b o.bands o.dots)
outcome_of (sets v ∷ hs) o = outcome_of hs (leaves (with_status v o.rec) o.answer o.bands o.dots)

unfoldable pub Bytes : List Happening → Type 0
Bytes [] = Unit
Bytes (comes b ∷ hs) = (b < 256) × Bytes hs
Bytes (sets v ∷ hs) = Bytes hs

-- whatever comes to a new record, with room for nine bands in both buffers, makes a stream: every byte is taken
abbrev pub EveryStream : Type 0
EveryStream =
    (hs : List Happening) (a : Answered) (bs ds : List ℕ) → Bytes hs → 5760 ≤ length bs → 5760 ≤ length ds
    → Stream (bytes_of hs) (outcome_of hs (leaves new_record a bs ds)).rec (outcome_of hs (leaves new_record a bs ds)).bands

-- ---- a stream worked out

abbrev heard_of : Answered → List Answered → List Answered
heard_of (Ok (Reply zero)) xs = xs
heard_of (Ok (Reply (suc n))) xs = Ok (Reply (suc n)) ∷ xs
heard_of (Ok Initialized) xs = Ok Initialized ∷ xs
heard_of (Ok (Added n)) xs = Ok (Added n) ∷ xs
heard_of (Ok Ended) xs = Ok Ended ∷ xs
heard_of (Ok Inquired) xs = Ok Inquired ∷ xs
heard_of (Ok (Printed n m d)) xs = Ok (Printed n m d) ∷ xs
heard_of (Err r) xs = Err r ∷ xs

-- the answers, but for replies of 0
unfoldable pub heard : List Happening → After → List Answered
heard [] o = []
heard (comes b ∷ hs) o = heard_of (step_of o.rec b o.bands o.dots).answer (heard hs (step_of o.rec b o.bands o.dots))
heard (sets v ∷ hs) o = heard hs (leaves (with_status v o.rec) o.answer o.bands o.dots)

unfoldable pub come : List ℕ → List Happening
come [] = []
come (b ∷ bs) = comes b ∷ come bs

-- mark, header, body and checksum
abbrev packet_of : (command indicator : ℕ) (body : List ℕ) → List Happening
packet_of c i body =
    let header : List ℕ = c ∷ i ∷ length body % 256 ∷ length body / 256 ∷ [] in
    let sum : ℕ = checksum (header ++ body) in
    come (0x88 ∷ 0x33 ∷ header ++ (body ++ (sum % 256 ∷ sum / 256 ∷ [])))

abbrev clocks : List Happening
clocks = comes 0x00 ∷ comes 0x00 ∷ []

abbrev fresh : After
fresh = leaves new_record (Ok (Reply 0)) (replicate 5760 0) (replicate 5760 0)

-- a band of one byte, coded in five runs
abbrev coded_band : ℕ → List Happening
coded_band n = packet_of 0x04 1 (0xFF ∷ n ∷ 0xFF ∷ n ∷ 0xFF ∷ n ∷ 0xFF ∷ n ∷ 0xFA ∷ n ∷ [])

abbrev nine_bands : List Happening
nine_bands =
    packet_of 0x01 0 [] ++ clocks ++ packet_of 0x04 0 (replicate 640 0x0F) ++ clocks ++ coded_band 2 ++ clocks ++ coded_band 3 ++ clocks ++ coded_band 4 ++ clocks
    ++ coded_band 5 ++ clocks ++ coded_band 6 ++ clocks ++ coded_band 7 ++ clocks ++ coded_band 8 ++ clocks ++ coded_band 9 ++ clocks

-- the tenth band, and an Inquiry whose checksum is wrong; both are searched on after their last byte
abbrev refused_ones : List Happening
refused_ones = coded_band 10 ++ come (0x88 ∷ 0x33 ∷ 0x0F ∷ 0x00 ∷ 0x00 ∷ 0x00 ∷ 0x0E ∷ 0x00 ∷ [])

-- the status is set between the clock bytes
abbrev printing : List Happening
printing = packet_of 0x02 0 (0x01 ∷ 0x13 ∷ 0xE4 ∷ 0x40 ∷ []) ++ (comes 0x00 ∷ sets 0x06 ∷ comes 0x00 ∷ [])

abbrev printed_page : List Happening
printed_page = sets 2 ∷ nine_bands ++ refused_ones ++ printing

abbrev witness : List Happening
witness = printed_page ++ packet_of 0x01 0 [] ++ clocks

-- 81 and the status, after a packet that acted
abbrev acknowledged : ℕ → List Answered
acknowledged v = Ok (Reply 0x81) ∷ Ok (Reply v) ∷ []

pub record WitnessCases : Type 0 where
  pub hears : heard witness fresh
      ≡ Ok Initialized ∷ acknowledged 2 ++ Ok (Added 1) ∷ acknowledged 2 ++ Ok (Added 2) ∷ acknowledged 2 ++ Ok (Added 3) ∷ acknowledged 2 ++ Ok (Added 4) ∷ acknowledged 2
      ++ Ok (Added 5) ∷ acknowledged 2 ++ Ok (Added 6) ∷ acknowledged 2 ++ Ok (Added 7) ∷ acknowledged 2 ++ Ok (Added 8) ∷ acknowledged 2 ++ Ok (Added 9) ∷ acknowledged 2
      ++ refused_with fault.TooManyBands ∷ refused_with fault.Checksum ∷ Ok (Printed 9 0x13 0x40) ∷ acknowledged 6 ++ Ok Initialized ∷ acknowledged 6
  -- the plain reading of the same bytes: the nine bands wait on after Print, and Initialize empties the page
  pub nine_wait : plainly (bytes_of printed_page)
      ≡ reading (replicate 640 0x0F ∷ replicate 640 2 ∷ replicate 640 3 ∷ replicate 640 4 ∷ replicate 640 5 ∷ replicate 640 6 ∷ replicate 640 7 ∷ replicate 640 8 ∷ replicate 640 9 ∷ []) searching status
  pub none_waits : plainly (bytes_of witness) ≡ reading [] searching status
  -- the bytes 0F 0F of a tile row are four dots of index 0 and four of index 3; through E4 they are 3 and 0
  pub dots_written : take 4 (outcome_of printed_page fresh).dots ≡ 0xFF ∷ 0x00 ∷ 0xFF ∷ 0x00 ∷ []

pub witness_cases : WitnessCases
unfolding heard outcome_of bytes_of come read_on packet step_in unusable fitting sum_from expand_from action printed listed four_dots
witness_cases = record { hears = refl; nine_wait = refl; none_waits = refl; dots_written = refl }
