-- A packet of the strip printer's line: the mark 88 33, four header bytes (command, indicator, length low byte first), the body, two checksum bytes (low
-- byte first).
use Rattle.std.specs.Prelude.{◌≡◌, Bool, true, false, cond, ◌&&◌, ◌||◌, List, [], ◌∷◌, ℕ, ◌+◌, ◌*◌, ◌%◌, eqb, leb, replicate}

-- the mark
abbrev pub first_mark : ℕ
first_mark = 0x88

abbrev pub second_mark : ℕ
second_mark = 0x33

-- the four commands that the source has
abbrev pub initialize_code : ℕ
initialize_code = 0x01

abbrev pub print_code : ℕ
print_code = 0x02

abbrev pub data_code : ℕ
data_code = 0x04

abbrev pub inquiry_code : ℕ
inquiry_code = 0x0F

-- a body has at most 648 bytes, and a band 640
abbrev pub most_body : ℕ
most_body = 648

abbrev pub band_size : ℕ
band_size = 640

-- Whether indicator and length fit the command: indicator 0, but 1 for coded Data of 1 to 648 bytes; plain Data 640 bytes or none, Print 4, the
-- source's other commands none; an unknown command any indicator, up to 648.
unfoldable pub fitting : (command indicator size : ℕ) → Bool
fitting c i n =
    cond (eqb c data_code) (cond (eqb i 0) (eqb n 0 || eqb n band_size) (eqb i 1 && leb 1 n && leb n most_body))
    (cond (eqb c print_code) (eqb i 0 && eqb n 4)
    (cond (eqb c initialize_code || eqb c inquiry_code) (eqb i 0 && eqb n 0)
    (leb n most_body)))

-- a number in two bytes, low byte first
abbrev pub number : (low high : ℕ) → ℕ
number low high = low + 256 * high

-- carried past 65,535 a sum starts again at zero
abbrev pub add16 : ℕ → ℕ → ℕ
add16 s b = (s + b) % 65536

-- s with some bytes added
unfoldable pub sum_from : ℕ → List ℕ → ℕ
sum_from s [] = s
sum_from s (b ∷ bs) = sum_from (add16 s b) bs

-- the checksum of a packet's header and body
abbrev pub checksum : List ℕ → ℕ
checksum bs = sum_from 0 bs

-- ---- worked cases

pub record PacketCases : Type 0 where
  pub plain : fitting 0x04 0 640 ≡ true
  pub empty : fitting 0x04 0 0 ≡ true
  pub plain_short : fitting 0x04 0 639 ≡ false
  pub plain_long : fitting 0x04 0 641 ≡ false
  pub coded_none : fitting 0x04 1 0 ≡ false
  pub coded_least : fitting 0x04 1 1 ≡ true
  pub coded_most : fitting 0x04 1 648 ≡ true
  pub coded_over : fitting 0x04 1 649 ≡ false
  pub indicator_two : fitting 0x04 2 640 ≡ false
  pub print_four : fitting 0x02 0 4 ≡ true
  pub print_three : fitting 0x02 0 3 ≡ false
  pub print_five : fitting 0x02 0 5 ≡ false
  pub print_coded : fitting 0x02 1 4 ≡ false
  pub initialize_none : fitting 0x01 0 0 ≡ true
  pub initialize_one : fitting 0x01 0 1 ≡ false
  pub initialize_coded : fitting 0x01 1 0 ≡ false
  pub inquiry_none : fitting 0x0F 0 0 ≡ true
  pub inquiry_one : fitting 0x0F 0 1 ≡ false
  pub inquiry_coded : fitting 0x0F 1 0 ≡ false
  pub unknown_most : fitting 0x07 9 648 ≡ true
  pub unknown_over : fitting 0x07 0 649 ≡ false
  -- 11 is not 01: the whole byte is the command
  pub high_digit : fitting 0x11 1 3 ≡ true
  -- an Initialize's header, 01 00 00 00
  pub small_sum : checksum (0x01 ∷ 0x00 ∷ 0x00 ∷ 0x00 ∷ []) ≡ 1
  -- a plain band of 640 bytes FF: 04 + 00 + 80 + 02 + 640 · 255 = 163,334, which is 32,262 beyond twice 65,536
  pub starts_again : checksum (0x04 ∷ 0x00 ∷ 0x80 ∷ 0x02 ∷ replicate 640 0xFF) ≡ 32262
  pub to_zero : sum_from 65535 (1 ∷ []) ≡ 0
  pub not_yet : sum_from 65534 (1 ∷ []) ≡ 65535
  pub length_of_band : number 0x80 0x02 ≡ 640

pub packet_cases : PacketCases
unfolding fitting sum_from
packet_cases = search
