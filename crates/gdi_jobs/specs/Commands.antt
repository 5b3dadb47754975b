-- The commands of a line: what one is, and how it is read from its bytes.
use Rattle.std.specs.Prelude.{◌≡◌, Bool, true, false, cond, List, [], ◌∷◌, ℕ, ◌+◌, ◌*◌, ◌/◌, ◌%◌, eqb, leb}

-- so many dots of one colour
pub data Command : Type 0 where
  run : (black : Bool) → (dots : ℕ) → Command

-- how many dots it has
abbrev pub dots_of : Command → ℕ
dots_of (run black n) = n

-- A command is taken with the number of its bytes; or it is refused, with a number and the offset of its place from its first byte.
pub data Taken : Type 0 where
  taken : Command → (bytes : ℕ) → Taken
  broken : (number offset : ℕ) → Taken

-- bit 6 of the first byte: black
abbrev pub black_bit : ℕ → Bool
black_bit c = eqb (c / 64 % 2) 1

-- the second byte, L2; 24 at the job's end where it is missing
abbrev pub with_second : ℕ → List ℕ → Taken
with_second c [] = broken 24 1
with_second c (l2 ∷ rest) = taken (run (black_bit c) (c % 64 + 64 * l2)) 2

-- The command whose first byte is c, where its block has `left` bytes from c on and `rest` is what the job has after c. Bit 7 is for two bytes;
-- 24 at the command where the second is past its block. Bits 5-0 are L1; the length is L1, or L1 + 64 · L2.
unfoldable pub command : (left c : ℕ) → (rest : List ℕ) → Taken
command left c rest = cond (leb 128 c) (cond (leb left 1) (broken 24 0) (with_second c rest)) (taken (run (black_bit c) (c % 64)) 1)

-- ---- worked cases

pub record CommandCases : Type 0 where
  pub one_byte : command 1 0x5A [] ≡ taken (run true 26) 1
  pub white : command 9 0x3F (0x12 ∷ []) ≡ taken (run false 63) 1
  pub two_bytes : command 2 0x9A (0x4A ∷ []) ≡ taken (run false 4762) 2
  pub black_of_two : command 9 0xF1 (0x19 ∷ 0xB1 ∷ []) ≡ taken (run true 1649) 2
  pub longest : command 2 0xFF (0xFF ∷ []) ≡ taken (run true 16383) 2
  pub no_dots : command 1 0x40 [] ≡ taken (run true 0) 1
  pub short_of_two : command 2 0x85 (0x00 ∷ []) ≡ taken (run false 5) 2
  pub past_block : command 1 0x80 (0x01 ∷ []) ≡ broken 24 0
  pub past_job : command 2 0x80 [] ≡ broken 24 1
  -- past block and job: at the command
  pub past_both : command 1 0x80 [] ≡ broken 24 0

pub command_cases : CommandCases
unfolding command
command_cases = search
