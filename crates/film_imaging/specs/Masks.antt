-- What a mask covers, dot by dot. s numbers scan lines, f dots along one.
use Rattle.std.specs.Prelude.{◌≡◌, Bool, true, false, ◌&&◌, ◌||◌, List, [], ◌∷◌, ℕ, zero, suc, ◌+◌, ◌*◌, ◌-◌, ◌/◌, ◌%◌, ◌^◌, leb, ltb, eqb, ℤ, pos, ◌+ℤ◌, ◌-ℤ◌, ◌*ℤ◌}
use Rattle.std.specs.Int.Signed.{le_z, lt_z}
use Rattle.film_words.specs.Words.{at}
use Rattle.film_words.specs.Arrays.{Samples, samples_in, line_words}
use Rattle.film_words.specs.Groups.{Run, runs_in}
use Rattle.film_commands.specs.Commands.{Mask, rectangle, trapezoid, runs, samples}

-- a film: is dot f of line s 1?
abbrev pub Film : Type 0
Film = ℕ → ℕ → Bool

-- min ≤ x ≤ min + size − 1; nothing where size is 0. Sums never wrap.
unfoldable pub within : ℕ → ℕ → ℕ → Bool
within min size x = leb min x && ltb x (min + size)

-- an exact fraction; no denominator is 0
pub record Fraction : Type 0 where
  pub numerator : ℤ
  pub denominator : ℕ

-- the place of an edge d lines after its first line: `a` is its place there, and `z` its place n lines after it, so that it is at a + (z − a) · d/n. The
-- difference z − a is signed: the edge may lean toward lesser f. Over no lines the edge is at its first place, whatever z is.
unfoldable pub edge : (a z n d : ℕ) → Fraction
edge a z zero d = record { numerator = pos a; denominator = 1 }
edge a z (suc m) d = let n = suc m in record { numerator = pos (a * n) +ℤ (pos z -ℤ pos a) *ℤ pos d; denominator = n }

-- x ≤ f and f < x, compared as whole numbers: both sides are multiplied by the denominator
abbrev pub at_most : Fraction → ℕ → Bool
at_most x f = le_z x.numerator (pos (f * x.denominator))

abbrev pub beyond : Fraction → ℕ → Bool
beyond x f = lt_z (pos (f * x.denominator)) x.numerator

-- the dots of line i of a run group
unfoldable pub in_runs : List Run → ℕ → ℕ → Bool
in_runs [] i f = false
in_runs (r ∷ rs) i f = (eqb r.line i && within r.f_min r.f_size f) || in_runs rs i f

-- bit j of a word, the high bit first
abbrev pub word_bit : ℕ → ℕ → Bool
word_bit w j = eqb (w / 2 ^ (15 - j) % 2) 1

-- dot j of line i of an array; 0 off the array, so that no padding bit is a dot of it
unfoldable pub sample : Samples → ℕ → ℕ → Bool
sample a i j = ltb i a.s_size && ltb j a.f_size && word_bit (at a.lines (i * line_words a.f_size + j / 16)) (j % 16)

-- the dots of a mask. A trapezoid's rows are those of a rectangle, and b(s) ≤ f < t(s), where with n = s_size − 1 and d = s − s_min
-- b(s) = f_min + (f_min_last − f_min) · d/n and t(s) = f_min + f_size + (f_min_last + f_size_last − f_min − f_size) · d/n; one of a single row has its first edge
-- alone, f_min ≤ f < f_min + f_size. Runs and samples are shifted by s_min, and samples by f_min too.
unfoldable pub masked : Mask → Film
masked (rectangle s_min s_size f_min f_size) s f = within s_min s_size s && within f_min f_size f
masked (trapezoid s_min s_size f_min f_size f_min_last f_size_last) s f =
    let n = s_size - 1 in
    let d = s - s_min in
    within s_min s_size s && at_most (edge f_min f_min_last n d) f && beyond (edge (f_min + f_size) (f_min_last + f_size_last) n d) f
masked (runs s_min group) s f = leb s_min s && in_runs (runs_in group) (s - s_min) f
masked (samples s_min f_min array) s f = leb s_min s && leb f_min f && sample (samples_in array) (s - s_min) (f - f_min)

-- ---- worked cases

pub record MaskCases : Type 0 where
  pub first_column : within 1 3 1 ≡ true
  pub last_column : within 1 3 3 ≡ true
  pub column_before : within 1 3 0 ≡ false
  pub column_after : within 1 3 4 ≡ false
  pub no_columns : within 1 0 1 ≡ false
  -- from 0 to 3 over two lines: 3/2 on the line between
  pub edge_rising : edge 0 3 2 1 ≡ record { numerator = pos 3; denominator = 2 }
  -- from 3 to 0 over two lines: 6/2, 3/2 and 0/2
  pub edge_first : edge 3 0 2 0 ≡ record { numerator = pos 6; denominator = 2 }
  pub edge_middle : edge 3 0 2 1 ≡ record { numerator = pos 3; denominator = 2 }
  pub edge_last : edge 3 0 2 2 ≡ record { numerator = pos 0; denominator = 2 }
  -- over no lines
  pub edge_no_lines : edge 3 7 0 5 ≡ record { numerator = pos 3; denominator = 1 }
  pub rounded_up : masked (trapezoid 0 3 3 1 0 1) 1 2 ≡ true
  pub not_toward_zero : masked (trapezoid 0 3 3 1 0 1) 1 1 ≡ false
  -- lines 5 to 7: none before s_min, none after the last
  pub trapezoid_above : masked (trapezoid 5 3 3 1 0 1) 4 3 ≡ false
  pub trapezoid_first : masked (trapezoid 5 3 3 1 0 1) 5 3 ≡ true
  pub trapezoid_middle : masked (trapezoid 5 3 3 1 0 1) 6 2 ≡ true
  pub trapezoid_left_of : masked (trapezoid 5 3 3 1 0 1) 6 1 ≡ false
  pub trapezoid_right_of : masked (trapezoid 5 3 0 1 3 1) 6 3 ≡ false
  pub trapezoid_leaning_right : masked (trapezoid 5 3 0 1 3 1) 7 3 ≡ true
  pub trapezoid_last : masked (trapezoid 5 3 3 1 0 1) 7 0 ≡ true
  pub trapezoid_below : masked (trapezoid 5 3 1 9 1 9) 8 5 ≡ false
  -- one row, the first edge alone: dots 1 to 3 of line 5
  pub one_row_left_of : masked (trapezoid 5 1 1 3 0 9) 5 0 ≡ false
  pub one_row_first_dot : masked (trapezoid 5 1 1 3 9 9) 5 1 ≡ true
  pub one_row_last_dot : masked (trapezoid 5 1 1 3 0 0) 5 3 ≡ true
  pub one_row_right_of : masked (trapezoid 5 1 1 3 0 9) 5 4 ≡ false
  pub one_row_above : masked (trapezoid 5 1 1 3 1 3) 4 2 ≡ false
  pub one_row_below : masked (trapezoid 5 1 1 3 1 3) 6 2 ≡ false
  pub one_row_no_dots : masked (trapezoid 5 1 1 0 0 9) 5 1 ≡ false
  pub no_rows : masked (trapezoid 5 0 1 3 1 3) 5 2 ≡ false
  pub high_bit_first : word_bit 0x8000 0 ≡ true
  pub low_bit_last : word_bit 0x0001 15 ≡ true
  pub sample_there : sample (record { s_size = 2; f_size = 17; lines = 0 ∷ 0 ∷ 0 ∷ 0x8000 ∷ [] }) 1 16 ≡ true
  pub sample_padding : sample (record { s_size = 1; f_size = 4; lines = 0xFFFF ∷ [] }) 0 4 ≡ false
  pub sample_below : sample (record { s_size = 1; f_size = 4; lines = 0xFFFF ∷ 0xFFFF ∷ [] }) 1 0 ≡ false
  pub run_of_line : in_runs (record { line = 0; f_min = 1; f_size = 3 } ∷ record { line = 1; f_min = 2; f_size = 3 } ∷ []) 1 4 ≡ true
  pub run_of_other_line : in_runs (record { line = 0; f_min = 1; f_size = 3 } ∷ record { line = 1; f_min = 2; f_size = 3 } ∷ []) 0 4 ≡ false

pub mask_cases : MaskCases
unfolding within edge in_runs sample masked
mask_cases = search
