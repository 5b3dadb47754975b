-- The plain reading of a stream: find the mark, take the packet after it, act or refuse, pass the two clock bytes, go on.
use Rattle.std.specs.Prelude.{◌≡◌, refl, cond, List, [], ◌∷◌, ◌++◌, ℕ, zero, suc, ◌+◌, eqb, ltb, length, get_or, take, drop, replicate}
use Rattle.refusal.specs.declared.Fault.{Fault}
use Rattle.refusal.specs.declared.Fault.TheVariants as fault
use Rattle.strip.specs.Packets.{first_mark, second_mark, fitting, number, checksum, sum_from}
use Rattle.strip.specs.Coding.{expand_from}
use Rattle.strip.specs.Actions.{Action, initialize, add, end_page, print, inquire, refuse, action}

abbrev pub Bands : Type 0
Bands = List (List ℕ)

-- where a stream's end leaves the reading
pub data Place : Type 0 where
  searching : Place
  -- the last byte is an 88 that 33 would make a mark
  half : Place
  -- after a mark, with fewer than four header bytes
  in_header : (came : List ℕ) → Place
  -- the header fits, and the body is not whole
  in_body : (header came : List ℕ) → Place
  -- the body is whole, and of the two checksum bytes so many came
  in_sum : (header body came : List ℕ) → Place
  -- the packet acted, and of the two clock bytes so many came
  in_clock : (came : ℕ) → Place

-- what the last byte is answered
pub data Said : Type 0 where
  -- 0
  quiet : Said
  -- 81
  acknowledged : Said
  -- the host's status
  status : Said
  -- 0, and which packet acted; with the bands that wait then
  initialized : Said
  added : (count : ℕ) → Said
  ended : Said
  inquired : Said
  -- with the palette that the rows were written through
  printed : (count margins density palette : ℕ) → Said
  refused : Fault → Said

pub record Reading : Type 0 where
  pub waiting : Bands
  pub place : Place
  pub said : Said

abbrev pub reading : Bands → Place → Said → Reading
reading w p s = record { waiting = w; place = p; said = s }

-- at some byte the reading ends; or it goes on, so many bytes further
pub data Next : Type 0 where
  ends : Reading → Next
  on : (skip : ℕ) → Bands → Said → Next

-- a packet acted, and is over `skip` bytes after its first mark byte; then two clock bytes
abbrev pub acted : (skip : ℕ) → Bands → Said → (tail : List ℕ) → Next
acted skip w s [] = ends (reading w (in_clock 0) s)
acted skip w s (a ∷ []) = ends (reading w (in_clock 1) acknowledged)
acted skip w s (a ∷ b ∷ tail) = on (skip + 2) w status

abbrev pub carried_out : (skip : ℕ) → Bands → Action → (tail : List ℕ) → Next
carried_out skip w initialize tail = acted skip [] initialized tail
carried_out skip w (add band) tail = acted skip (w ++ (band ∷ [])) (added (length w + 1)) tail
carried_out skip w end_page tail = acted skip w ended tail
carried_out skip w (print palette margins density) tail = acted skip w (printed (length w) margins density palette) tail
carried_out skip w inquire tail = acted skip w inquired tail
carried_out skip w (refuse f) tail = on skip w (refused f)

-- what a packet asks for: its four header bytes, its body, its two checksum bytes
abbrev pub asked : Bands → (head came : List ℕ) → (low high : ℕ) → Action
asked w head came low high = action (length w) (get_or head 0 0) (get_or head 1 0) came (checksum (head ++ came)) low high

-- after the body
abbrev pub after_body : (skip : ℕ) → Bands → (head came bytes : List ℕ) → Next
after_body skip w head came [] = ends (reading w (in_sum head came []) quiet)
after_body skip w head came (low ∷ []) = ends (reading w (in_sum head came (low ∷ [])) quiet)
after_body skip w head came (low ∷ high ∷ tail) = carried_out skip w (asked w head came low high) tail

-- after a header that fits, with n body bytes
abbrev pub after_header : Bands → (head : List ℕ) → (n : ℕ) → (bytes : List ℕ) → Next
after_header w head n bytes =
    cond (ltb (length bytes) n) (ends (reading w (in_body head bytes) quiet)) (after_body (5 + (n + 2)) w head (take n bytes) (drop n bytes))

-- after the mark; PacketHeader, 33, is told at the header's last byte
unfoldable pub packet : Bands → (bytes : List ℕ) → Next
packet w [] = ends (reading w (in_header []) quiet)
packet w (c ∷ []) = ends (reading w (in_header (c ∷ [])) quiet)
packet w (c ∷ i ∷ []) = ends (reading w (in_header (c ∷ i ∷ [])) quiet)
packet w (c ∷ i ∷ l ∷ []) = ends (reading w (in_header (c ∷ i ∷ l ∷ [])) quiet)
packet w (c ∷ i ∷ l ∷ h ∷ bytes) =
    cond (fitting c i (number l h)) (after_header w (c ∷ i ∷ l ∷ h ∷ []) (number l h) bytes) (on 5 w (refused fault.PacketHeader))

-- an 88 before `bytes`
abbrev pub after88 : Bands → (bytes : List ℕ) → Next
after88 w [] = ends (reading w half quiet)
after88 w (b ∷ bytes) = cond (eqb b second_mark) (packet w bytes) (on 0 w quiet)

abbrev pub follow : Next → (ℕ → Bands → Said → Reading) → Reading
follow (ends x) go = x
follow (on skip w s) go = go skip w s

-- The reading from here on, where these bands wait, s was said last, and the next `skip` bytes are of a packet that was read.
unfoldable pub read_on : (skip : ℕ) → Bands → Said → List ℕ → Reading
read_on skip w s [] = reading w searching s
read_on (suc n) w s (b ∷ bytes) = read_on n w s bytes
read_on zero w s (b ∷ bytes) = follow (cond (eqb b first_mark) (after88 w bytes) (on 0 w quiet)) (λ n w' s'. read_on n w' s' bytes)

-- of a stream from a new record
abbrev pub plainly : List ℕ → Reading
plainly bytes = read_on 0 [] quiet bytes

-- ---- worked cases

-- Inquiry: 88 33 0F 00 00 00 0F 00
abbrev inquiry : List ℕ
inquiry = 0x88 ∷ 0x33 ∷ 0x0F ∷ 0x00 ∷ 0x00 ∷ 0x00 ∷ 0x0F ∷ 0x00 ∷ []

-- Data, one band of 7s in five runs: length 10, sum 04 + 01 + 0A + 4 · 106 + 101
abbrev band7 : List ℕ
band7 =
    0x88 ∷ 0x33 ∷ 0x04 ∷ 0x01 ∷ 0x0A ∷ 0x00 ∷ 0xFF ∷ 0x07 ∷ 0xFF ∷ 0x07 ∷ 0xFF ∷ 0x07 ∷ 0xFF ∷ 0x07 ∷ 0xFA ∷ 0x07 ∷ 0x28 ∷ 0x05 ∷ 0x00 ∷ 0x00 ∷ []

abbrev initializing : List ℕ
initializing = 0x88 ∷ 0x33 ∷ 0x01 ∷ 0x00 ∷ 0x00 ∷ 0x00 ∷ 0x01 ∷ 0x00 ∷ 0x00 ∷ 0x00 ∷ []

abbrev printing : List ℕ
printing = 0x88 ∷ 0x33 ∷ 0x02 ∷ 0x00 ∷ 0x04 ∷ 0x00 ∷ 0x01 ∷ 0x13 ∷ 0xE4 ∷ 0x40 ∷ 0x3E ∷ 0x01 ∷ []

pub record ReadingCases : Type 0 where
  pub nothing : plainly [] ≡ reading [] searching quiet
  pub half_mark : plainly (0x01 ∷ 0x88 ∷ []) ≡ reading [] half quiet
  pub no_mark : plainly (0x88 ∷ 0x01 ∷ 0x33 ∷ []) ≡ reading [] searching quiet
  pub second_88 : plainly (0x88 ∷ 0x88 ∷ 0x33 ∷ []) ≡ reading [] (in_header []) quiet
  pub acts : plainly inquiry ≡ reading [] (in_clock 0) inquired
  pub first_clock : plainly (inquiry ++ (0x88 ∷ [])) ≡ reading [] (in_clock 1) acknowledged
  pub second_clock : plainly (inquiry ++ (0x88 ∷ 0x33 ∷ [])) ≡ reading [] searching status
  -- a clock byte opens no mark
  pub no_mark_there : plainly (inquiry ++ (0x00 ∷ 0x88 ∷ 0x33 ∷ [])) ≡ reading [] searching quiet
  -- a wrong sum, and the next packet right after it
  pub wrong_sum : plainly (0x88 ∷ 0x33 ∷ 0x0F ∷ 0x00 ∷ 0x00 ∷ 0x00 ∷ 0x0E ∷ 0x00 ∷ []) ≡ reading [] searching (refused fault.Checksum)
  pub then_next : plainly (0x88 ∷ 0x33 ∷ 0x0F ∷ 0x00 ∷ 0x00 ∷ 0x00 ∷ 0x0E ∷ 0x00 ∷ inquiry) ≡ reading [] (in_clock 0) inquired
  -- the byte that tells of a refusal opens no mark: a length's 88, then 33
  pub no_mark_of_length : plainly (0x88 ∷ 0x33 ∷ 0x01 ∷ 0x00 ∷ 0x00 ∷ 0x88 ∷ 0x33 ∷ 0x0F ∷ []) ≡ reading [] searching quiet
  pub unfit : plainly (0x88 ∷ 0x33 ∷ 0x02 ∷ 0x00 ∷ 0x05 ∷ 0x00 ∷ []) ≡ reading [] searching (refused fault.PacketHeader)
  pub body_is_searched : plainly (0x88 ∷ 0x33 ∷ 0x02 ∷ 0x00 ∷ 0x05 ∷ 0x00 ∷ inquiry) ≡ reading [] (in_clock 0) inquired
  pub one_band_case : plainly band7 ≡ reading (replicate 640 7 ∷ []) searching status
  pub prints : plainly (band7 ++ band7 ++ printing) ≡ reading (replicate 640 7 ∷ replicate 640 7 ∷ []) (in_clock 0) (printed 2 0x13 0x40 0xE4)
  pub empties : plainly (band7 ++ initializing) ≡ reading [] searching status
  pub in_body_case : plainly (0x88 ∷ 0x33 ∷ 0x02 ∷ 0x00 ∷ 0x04 ∷ 0x00 ∷ 0x01 ∷ 0x13 ∷ []) ≡ reading [] (in_body (0x02 ∷ 0x00 ∷ 0x04 ∷ 0x00 ∷ []) (0x01 ∷ 0x13 ∷ [])) quiet

pub reading_cases : ReadingCases
unfolding read_on packet fitting action sum_from expand_from
reading_cases = record {
  nothing = refl;
  half_mark = refl;
  no_mark = refl;
  second_88 = refl;
  acts = refl;
  first_clock = refl;
  second_clock = refl;
  no_mark_there = refl;
  wrong_sum = refl;
  then_next = refl;
  no_mark_of_length = refl;
  unfit = refl;
  body_is_searched = refl;
  one_band_case = refl;
  prints = refl;
  empties = refl;
  in_body_case = refl;
}
