-- The bytes that a row is written as: one command for each longest run of a colour, in blocks of at most 255 bytes.
use Rattle.std.specs.Prelude.{◌≡◌, refl, Bool, true, false, cond, List, [], ◌∷◌, ◌++◌, map, ℕ, zero, suc, ◌+◌, ◌*◌, ◌/◌, ◌%◌, leb, ltb, length}
use Rattle.std.specs.Bool.{beq}
use Rattle.row.specs.Dots.{bit, dot_at}
use Rattle.row.specs.Dots as dots
use Rattle.row.specs.Counts.{joined}
use Rattle.gdi_jobs.specs.Commands.{Command, run}

-- ---- the runs of a row

-- a dot in front of runs: it belongs to the first where it has its colour, else it is a run of its own
abbrev pub add_dot : Bool → List Command → List Command
add_dot v [] = run v 1 ∷ []
add_dot v (run black n ∷ rs) = cond (beq v black) (run black (suc n) ∷ rs) (run v 1 ∷ run black n ∷ rs)

-- the longest runs of a colour in the n dots from f on
unfoldable pub runs_from : (ℕ → Bool) → (f n : ℕ) → List Command
runs_from d f zero = []
runs_from d f (suc n) = add_dot (d f) (runs_from d (suc f) n)

-- of a row: it starts with the colour of dot 0
unfoldable pub runs : (width : ℕ) (row : List ℕ) → List Command
runs width row = runs_from (dot_at row) 0 width

-- ---- their bytes

-- a command: one byte below 64 dots, else two
unfoldable pub command_bytes : Command → List ℕ
command_bytes (run black n) = cond (ltb n 64) ((64 * bit black + n) ∷ []) ((128 + 64 * bit black + n % 64) ∷ n / 64 ∷ [])

-- commands put into blocks, of which the first holds `block` already; a command that would take a block's size over 255 starts the next
unfoldable pub blocks : (block : List ℕ) → List Command → List (List ℕ)
blocks block [] = block ∷ []
blocks block (c ∷ cs) =
    let more = command_bytes c in
    let here = blocks (block ++ more) cs in
    let next = blocks more cs in
    cond (leb (length block + length more) 255) here (block ∷ next)

-- a block: 12 00, size (low byte first), 00 00, then its bytes
unfoldable pub block_bytes : List ℕ → List ℕ
block_bytes block = 0x12 ∷ 0x00 ∷ length block % 256 ∷ length block / 256 ∷ 0x00 ∷ 0x00 ∷ block

-- a row: a line starts a block
unfoldable pub row_bytes : (width : ℕ) (row : List ℕ) → List ℕ
row_bytes width row = joined (map block_bytes (blocks [] (runs width row)))

-- ---- worked cases

-- n dots of black and white in turn, in runs of one dot
abbrev turns : ℕ → List Command
turns zero = []
turns (suc zero) = run true 1 ∷ []
turns (suc (suc n)) = run true 1 ∷ run false 1 ∷ turns n

pub record RowCases : Type 0 where
  pub three_runs : runs 12 (0x70 ∷ 0x00 ∷ []) ≡ run false 1 ∷ run true 3 ∷ run false 8 ∷ []
  pub black_first : runs 3 (0xE0 ∷ []) ≡ run true 3 ∷ []
  pub over_a_byte : runs 10 (0x01 ∷ 0xC0 ∷ []) ≡ run false 7 ∷ run true 3 ∷ []
  pub one_byte : command_bytes (run true 26) ≡ 0x5A ∷ []
  pub white_63 : command_bytes (run false 63) ≡ 0x3F ∷ []
  pub white_64 : command_bytes (run false 64) ≡ 0x80 ∷ 0x01 ∷ []
  pub black_1649 : command_bytes (run true 1649) ≡ 0xF1 ∷ 0x19 ∷ []
  pub most : command_bytes (run true 16383) ≡ 0xFF ∷ 0xFF ∷ []
  pub a_row : row_bytes 3 (0xE0 ∷ []) ≡ 0x12 ∷ 0x00 ∷ 0x01 ∷ 0x00 ∷ 0x00 ∷ 0x00 ∷ 0x43 ∷ []
  pub in_order : blocks [] (run true 1 ∷ run false 2 ∷ []) ≡ (0x41 ∷ 0x02 ∷ []) ∷ []
  pub full_block : map length (blocks [] (turns 255)) ≡ 255 ∷ []
  pub next_block : map length (blocks [] (turns 256)) ≡ 255 ∷ 1 ∷ []
  -- a command of two bytes lies whole in its block
  pub not_cut : map length (blocks [] (turns 254 ++ (run true 64 ∷ run false 1 ∷ []))) ≡ 254 ∷ 3 ∷ []
  pub two_blocks : joined (map block_bytes ((0x41 ∷ []) ∷ (0x80 ∷ 0x01 ∷ []) ∷ []))
      ≡ 0x12 ∷ 0x00 ∷ 0x01 ∷ 0x00 ∷ 0x00 ∷ 0x00 ∷ 0x41 ∷ 0x12 ∷ 0x00 ∷ 0x02 ∷ 0x00 ∷ 0x00 ∷ 0x00 ∷ 0x80 ∷ 0x01 ∷ []

pub row_cases : RowCases
unfolding runs runs_from command_bytes blocks block_bytes row_bytes joined dot_at dots.dot_in
row_cases =
    record {
      three_runs = refl;
      black_first = refl;
      over_a_byte = refl;
      one_byte = refl;
      white_63 = refl;
      white_64 = refl;
      black_1649 = refl;
      most = refl;
      a_row = refl;
      in_order = refl;
      full_block = refl;
      next_block = refl;
      not_cut = refl;
      two_blocks = refl;
    }
