-- What a whole packet asks for, at its second checksum byte, where so many bands wait: it acts, or is refused.
use Rattle.std.specs.Prelude.{◌≡◌, refl, cond, List, [], ◌∷◌, ℕ, eqb, leb, length, get_or, replicate}
use Rattle.refusal.specs.declared.Fault.{Fault}
use Rattle.refusal.specs.declared.Fault.TheVariants as fault
use Rattle.strip.specs.Packets.{initialize_code, print_code, data_code, inquiry_code, band_size, number}
use Rattle.strip.specs.Coding.{Expansion, whole, cut, expand, expand_from}

pub data Action : Type 0 where
  -- Initialize: no band waits any more
  initialize : Action
  -- Data: one more band waits
  add : (band : List ℕ) → Action
  -- Data with no body
  end_page : Action
  -- Print: the waiting bands' rows are written, and the bands wait on
  print : (palette margins density : ℕ) → Action
  -- Inquiry
  inquire : Action
  refuse : Fault → Action

-- nine bands wait at most
abbrev pub most_bands : ℕ
most_bands = 9

-- BandBytes, 35: a body that doesn't expand to 640
abbrev pub of_expansion : Expansion → Action
of_expansion (whole band) = cond (eqb (length band) band_size) (add band) (refuse fault.BandBytes)
of_expansion cut = refuse fault.BandBytes

-- Data, where so many bands wait: TooManyBands, 34, is a tenth band
abbrev pub of_data : (waiting indicator : ℕ) (body : List ℕ) → Action
of_data waiting indicator body =
    cond (eqb (length body) 0) end_page
    (cond (leb most_bands waiting) (refuse fault.TooManyBands)
    (of_expansion (cond (eqb indicator 0) (whole body) (expand body))))

-- Print's body: a byte of any content, margins, palette, density. UnknownCommand, 32: a command that the source lacks
abbrev pub of_command : (waiting command indicator : ℕ) (body : List ℕ) → Action
of_command waiting command indicator body =
    cond (eqb command initialize_code) initialize
    (cond (eqb command print_code) (print (get_or body 2 0) (get_or body 1 0) (get_or body 3 0))
    (cond (eqb command data_code) (of_data waiting indicator body)
    (cond (eqb command inquiry_code) inquire
    (refuse fault.UnknownCommand))))

-- Checksum, 31, before all: the two checksum bytes are to be the sum
unfoldable pub action : (waiting command indicator : ℕ) (body : List ℕ) (sum low high : ℕ) → Action
action waiting command indicator body sum low high =
    cond (eqb (number low high) sum) (of_command waiting command indicator body) (refuse fault.Checksum)

-- ---- worked cases

pub record ActionCases : Type 0 where
  pub initialized : action 9 0x01 0 [] 1 1 0 ≡ initialize
  pub wrong_sum : action 9 0x01 0 [] 1 0 1 ≡ refuse fault.Checksum
  pub inquired : action 3 0x0F 0 [] 15 15 0 ≡ inquire
  -- empty Data is no tenth band
  pub ended : action 9 0x04 0 [] 4 4 0 ≡ end_page
  pub unknown : action 0 0x07 0 [] 7 7 0 ≡ refuse fault.UnknownCommand
  pub unknown_and_wrong : action 0 0x07 0 [] 7 8 0 ≡ refuse fault.Checksum
  pub high_digit : action 0 0x11 0 [] 17 17 0 ≡ refuse fault.UnknownCommand
  pub prints : action 2 0x02 0 (0x01 ∷ 0x13 ∷ 0xE4 ∷ 0x40 ∷ []) 0x13E 0x3E 0x01 ≡ print 0xE4 0x13 0x40
  -- Print's first byte may be any
  pub prints_too : action 0 0x02 0 (0xFF ∷ 0x0F ∷ 0x1B ∷ 0x7F ∷ []) 9 9 0 ≡ print 0x1B 0x0F 0x7F
  pub tenth : action 9 0x04 1 (0x80 ∷ []) 5 5 0 ≡ refuse fault.TooManyBands
  pub tenth_plain : action 9 0x04 0 (replicate 640 5) 5 5 0 ≡ refuse fault.TooManyBands
  pub cut_run : action 8 0x04 1 (0x80 ∷ []) 5 5 0 ≡ refuse fault.BandBytes
  pub short : action 0 0x04 1 (0xFF ∷ 0x07 ∷ []) 5 5 0 ≡ refuse fault.BandBytes
  -- four runs of 129, and one of 123, 124 and 125
  pub one_short : action 0 0x04 1 (0xFF ∷ 7 ∷ 0xFF ∷ 7 ∷ 0xFF ∷ 7 ∷ 0xFF ∷ 7 ∷ 0xF9 ∷ 7 ∷ []) 5 5 0 ≡ refuse fault.BandBytes
  pub coded : action 8 0x04 1 (0xFF ∷ 7 ∷ 0xFF ∷ 7 ∷ 0xFF ∷ 7 ∷ 0xFF ∷ 7 ∷ 0xFA ∷ 7 ∷ []) 5 5 0 ≡ add (replicate 640 7)
  pub one_over : action 0 0x04 1 (0xFF ∷ 7 ∷ 0xFF ∷ 7 ∷ 0xFF ∷ 7 ∷ 0xFF ∷ 7 ∷ 0xFB ∷ 7 ∷ []) 5 5 0 ≡ refuse fault.BandBytes
  -- 640 bytes, and a run's first byte after them
  pub byte_left : action 0 0x04 1 (0xFF ∷ 7 ∷ 0xFF ∷ 7 ∷ 0xFF ∷ 7 ∷ 0xFF ∷ 7 ∷ 0xFA ∷ 7 ∷ 0x80 ∷ []) 5 5 0 ≡ refuse fault.BandBytes
  -- plain bytes are no runs
  pub plain : action 8 0x04 0 (replicate 640 0xFF) 5 5 0 ≡ add (replicate 640 0xFF)

pub action_cases : ActionCases
unfolding action expand_from
action_cases = record {
  initialized = refl;
  wrong_sum = refl;
  inquired = refl;
  ended = refl;
  unknown = refl;
  unknown_and_wrong = refl;
  high_digit = refl;
  prints = refl;
  prints_too = refl;
  tenth = refl;
  tenth_plain = refl;
  cut_run = refl;
  short = refl;
  one_short = refl;
  coded = refl;
  one_over = refl;
  byte_left = refl;
  plain = refl;
}
