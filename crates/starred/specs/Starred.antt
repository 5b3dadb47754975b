-- The starred cases: dots that settle it.
use Rattle.std.specs.Prelude.{◌≡◌, true, false, List, [], ◌∷◌, ℕ, ◌≤◌}
use Rattle.film_commands.specs.Commands.{Mask, rectangle, trapezoid}
use Rattle.film_commands.specs.Band.{solid, stroke}
use Rattle.film_imaging.specs.Masks.{masked}
use Rattle.film_imaging.specs.Pictures.{rows_of}
use Rattle.gdi_jobs.specs.Commands.{run, taken, command}
use Rattle.gdi_jobs.specs.Lines.{line, line_at, line_row}
use Rattle.gdi_jobs.specs.Rows.{command_bytes}

-- the bytes of the lines 0 to n - 1 of a film of 16 dots on which the mask m was inked
abbrev pub lines : ℕ → Mask → List (List ℕ)
lines n m = rows_of (record { f_min = 0; f_size = 16 }) 0 n (stroke 0 0 (solid true) m ∷ [])

-- `command left c rest` is the command whose first byte is c, with `left` bytes of its block from there on and the bytes `rest` after it; `run true n` is n dots of black,
-- `run false n` of white. `line_at job offset left width n` is what the line reader reads at a place for a row of n bytes.
pub record Starred : Type 0 where
  -- R: rectangle 1, 2, 1, 3 inks lines 1 and 2, columns 1 to 3, byte 70
  pub r : lines 4 (rectangle 1 2 1 3) ≡ (0x00 ∷ 0x00 ∷ []) ∷ (0x70 ∷ 0x00 ∷ []) ∷ (0x70 ∷ 0x00 ∷ []) ∷ (0x00 ∷ 0x00 ∷ []) ∷ []
  -- R0: size 0 inks nothing
  pub r0_lines : (s_min f_min f_size s f : ℕ) → masked (rectangle s_min 0 f_min f_size) s f ≡ false
  pub r0_dots : (s_min s_size f_min s f : ℕ) → masked (rectangle s_min s_size f_min 0) s f ≡ false
  -- T1: trapezoid 0, 3, 0, 2, 3, 2 gives rows C0, 30, 18
  pub t1 : lines 3 (trapezoid 0 3 0 2 3 2) ≡ (0xC0 ∷ 0x00 ∷ []) ∷ (0x30 ∷ 0x00 ∷ []) ∷ (0x18 ∷ 0x00 ∷ []) ∷ []
  -- T2: 0, 3, 3, 1, 0, 1 gives 10, 20, 80
  pub t2 : lines 3 (trapezoid 0 3 3 1 0 1) ≡ (0x10 ∷ 0x00 ∷ []) ∷ (0x20 ∷ 0x00 ∷ []) ∷ (0x80 ∷ 0x00 ∷ []) ∷ []
  -- T3: 0, 1, 1, 3, 9, 9 gives 70; of one row, a trapezoid is its first edge, whatever its last one is
  pub t3 : lines 2 (trapezoid 0 1 1 3 9 9) ≡ (0x70 ∷ 0x00 ∷ []) ∷ (0x00 ∷ 0x00 ∷ []) ∷ []
  pub t3_first_edge : (s_min f_min f_size f_min_last f_size_last s f : ℕ)
      → masked (trapezoid s_min 1 f_min f_size f_min_last f_size_last) s f ≡ masked (rectangle s_min 1 f_min f_size) s f
  -- G1: 5A is black, 26 dots
  pub g1 : (left : ℕ) (rest : List ℕ) → command left 0x5A rest ≡ taken (run true 26) 1
  -- G2: 9A 4A is white, 4762
  pub g2 : (left : ℕ) (rest : List ℕ) → 2 ≤ left → command left 0x9A (0x4A ∷ rest) ≡ taken (run false 4762) 2
  -- G3: F1 19 B1 19 is an A5 line, half black: at width 3298, 1649 dots of each, and then the line is whole
  pub g3 : line_at (0xF1 ∷ 0x19 ∷ 0xB1 ∷ 0x19 ∷ []) 0 4 3298 413 ≡ line (run true 1649 ∷ run false 1649 ∷ []) 4 0
  -- G4: at width 3, 7F gives E0
  pub g4 : line_at (0x7F ∷ []) 0 1 3 1 ≡ line (run true 63 ∷ []) 1 0
  pub g4_row : line_row 3 (run true 63 ∷ []) ≡ 0xE0 ∷ []
  -- G5: BF FF is white, 16,383
  pub g5 : (left : ℕ) (rest : List ℕ) → 2 ≤ left → command left 0xBF (0xFF ∷ rest) ≡ taken (run false 16383) 2
  -- G6: 3F is 63 white and 80 01 is 64, read and written
  pub g6_63 : (left : ℕ) (rest : List ℕ) → command left 0x3F rest ≡ taken (run false 63) 1
  pub g6_64 : (left : ℕ) (rest : List ℕ) → 2 ≤ left → command left 0x80 (0x01 ∷ rest) ≡ taken (run false 64) 2
  pub g6_63_written : command_bytes (run false 63) ≡ 0x3F ∷ []
  pub g6_64_written : command_bytes (run false 64) ≡ 0x80 ∷ 0x01 ∷ []
