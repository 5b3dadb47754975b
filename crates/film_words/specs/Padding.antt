-- The padding of a sample array: each line is padded with zeros to a whole word.
use Rattle.std.specs.Prelude.{◌≡◌, Bool, true, false, not, ◌||◌, List, [], ◌∷◌, ℕ, zero, suc, ◌+◌, ◌-◌, ◌*◌, ◌%◌, ◌^◌, eqb}
use Rattle.film_words.specs.Words.{at}
use Rattle.film_words.specs.Arrays.{line_words}

-- how many bits of a line are padding: what its words have over its dots. None where f_size is a multiple of 16
abbrev pub padding_bits : ℕ → ℕ
padding_bits f_size = 16 * line_words f_size - f_size

-- the padding of line i of the array at the beginning of ws, as a number: the low bits of the line's last word, the one before line i + 1
abbrev pub padding : List ℕ → ℕ → ℕ
padding ws i = at ws (1 + suc i * line_words (at ws 1)) % 2 ^ padding_bits (at ws 1)

-- whether a bit is set in the padding of one of its first n lines
unfoldable pub lines_padding_set : List ℕ → ℕ → Bool
lines_padding_set ws zero = false
lines_padding_set ws (suc n) = lines_padding_set ws n || not (eqb (padding ws n) 0)

-- whether one is set in the array's padding, all its lines
unfoldable pub padding_set : List ℕ → Bool
padding_set ws = lines_padding_set ws (at ws 0)

-- ---- worked cases

pub record PaddingCases : Type 0 where
  -- of 4 dots the last 12 bits are padding, the first of them and the last; of 15 dots the last bit; of 16 none; of 17 the last 15 of the second word
  pub first_bit : padding_set (1 ∷ 4 ∷ 0x0800 ∷ []) ≡ true
  pub last_bit : padding_set (1 ∷ 4 ∷ 0x0001 ∷ []) ≡ true
  pub zeros : padding_set (1 ∷ 4 ∷ 0xF000 ∷ []) ≡ false
  pub one_bit : padding_set (1 ∷ 15 ∷ 0x0001 ∷ []) ≡ true
  pub 15-dots : padding_set (1 ∷ 15 ∷ 0xFFFE ∷ []) ≡ false
  pub 16-dots : padding_set (1 ∷ 16 ∷ 0xFFFF ∷ []) ≡ false
  pub 17-first : padding_set (1 ∷ 17 ∷ 0 ∷ 0x4000 ∷ []) ≡ true
  pub 17-dots : padding_set (1 ∷ 17 ∷ 0xFFFF ∷ 0x8000 ∷ []) ≡ false
  -- in the first of two lines, and in the second alone; not in a word after the array
  pub first_line : padding_set (2 ∷ 17 ∷ 0xFFFF ∷ 0x8001 ∷ 0xFFFF ∷ 0x8000 ∷ []) ≡ true
  pub last_line : padding_set (2 ∷ 17 ∷ 0xFFFF ∷ 0x8000 ∷ 0xFFFF ∷ 0x8001 ∷ []) ≡ true
  pub after : padding_set (2 ∷ 17 ∷ 0xFFFF ∷ 0x8000 ∷ 0xFFFF ∷ 0x8000 ∷ 0xFFFF ∷ 0xFFFF ∷ []) ≡ false
  -- no lines, and lines without dots, have none
  pub no_lines : padding_set (0 ∷ 17 ∷ 0xFFFF ∷ 0xFFFF ∷ []) ≡ false
  pub no_dots : padding_set (3 ∷ 0 ∷ 0xFFFF ∷ 0xFFFF ∷ []) ≡ false

pub padding_cases : PaddingCases
unfolding lines_padding_set padding_set
padding_cases = search
