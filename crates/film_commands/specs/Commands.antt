-- The commands of a band, one by one: what each is, and how it is read from its words. What is refused is in Refusals.
use Rattle.std.specs.Prelude.{◌≡◌, Bool, true, false, cond, List, [], ◌∷◌, ℕ, ◌+◌, eqb, take, drop}
use Rattle.refusal.specs.Answers.{Answer, given, refused, and_then}
use Rattle.refusal.specs.Tables.{first}
use Rattle.film_words.specs.Words.{at, long_at}
use Rattle.film_words.specs.Arrays.{array_extent}
use Rattle.film_words.specs.Padding.{lines_padding_set, padding_set}
use Rattle.film_words.specs.Groups.{lines_extent, group_extent}
use Rattle.film_commands.specs.Refusals.{taken_words, command_table}

-- ---- what a command is

-- run groups, sample arrays and tiles are the words that hold them
pub data Mask : Type 0 where
  rectangle : (s_min s_size f_min f_size : ℕ) → Mask
  trapezoid : (s_min s_size f_min f_size f_min_last f_size_last : ℕ) → Mask
  runs : (s_min : ℕ) → (group : List ℕ) → Mask
  samples : (s_min f_min : ℕ) → (array : List ℕ) → Mask

-- a tile is opaque or transparent, and has its address in the load
pub data Command : Type 0 where
  priority : ℕ → Command
  ink : Command
  clear : Command
  set_tile : (transparent : Bool) → (address : ℕ) → (words : List ℕ) → Command
  paint : Mask → Command

-- where the words of a command's group, array or tile stand: so many words after the code word, or at an address of the load
pub data Source : Type 0 where
  nowhere : Source
  in_band : (offset words : ℕ) → Source
  in_load : (address words : ℕ) → Source

-- a command that is taken whole, with its source and the number of words after its code word
pub record Whole : Type 0 where
  pub command : Command
  pub source : Source
  pub more : ℕ

abbrev pub whole : Command → Source → (more : ℕ) → Whole
whole c src n = record { command = c; source = src; more = n }

-- it is taken whole, or refused: the place of a refusal is counted from the code word
abbrev pub Taken : Type 0
Taken = Answer Whole

abbrev pub taken : Command → Source → (more : ℕ) → Taken
taken c src n = given (whole c src n)

-- ---- what a command is, where nothing is refused, by the words after its code word, `args`, and the load's words after its count, `load`

-- 1: long
abbrev pub priority_from : List ℕ → Whole
priority_from args = whole (priority (long_at args 0)) nowhere 2

-- 4: 0 opaque or 1 transparent, long address
abbrev pub tile_from : List ℕ → List ℕ → Whole
tile_from load args =
    let tile = drop (long_at args 1) load in
    let n = 3 + taken_words (array_extent (drop 3 tile)) in
    whole (set_tile (eqb (at args 0) 1) (long_at args 1) (take n tile)) (in_load (long_at args 1) n) 3

-- 5: s_min, s_size, f_min, f_size
abbrev pub rectangle_from : List ℕ → Whole
rectangle_from args = whole (paint (rectangle (at args 0) (at args 1) (at args 2) (at args 3))) nowhere 4

-- 6: s_min, s_size, f_min, f_size, f_min_last, f_size_last
abbrev pub trapezoid_from : List ℕ → Whole
trapezoid_from args = whole (paint (trapezoid (at args 0) (at args 1) (at args 2) (at args 3) (at args 4) (at args 5))) nowhere 6

-- 7: s_min, run group
abbrev pub runs_from : List ℕ → Whole
runs_from args =
    let group = drop 1 args in
    let n = taken_words (group_extent group) in
    whole (paint (runs (at args 0) (take n group))) (in_band 2 n) (1 + n)

-- 8: long address, s_min
abbrev pub load_runs_from : List ℕ → List ℕ → Whole
load_runs_from load args =
    let group = drop (long_at args 0) load in
    let n = taken_words (group_extent group) in
    whole (paint (runs (at args 2) (take n group))) (in_load (long_at args 0) n) 3

-- 9: s_min, f_min, sample array
abbrev pub samples_from : List ℕ → Whole
samples_from args =
    let array = drop 2 args in
    let n = taken_words (array_extent array) in
    whole (paint (samples (at args 0) (at args 1) (take n array))) (in_band 3 n) (2 + n)

-- 10: long address, s_min, f_min
abbrev pub load_samples_from : List ℕ → List ℕ → Whole
load_samples_from load args =
    let array = drop (long_at args 0) load in
    let n = taken_words (array_extent array) in
    whole (paint (samples (at args 2) (at args 3) (take n array))) (in_load (long_at args 0) n) 4

-- by its code word; a code that is not 1 to 10 is refused
unfoldable pub decoded : (load : List ℕ) (code : ℕ) (args : List ℕ) → Whole
decoded load code args =
    cond (eqb code 1) (priority_from args)
    (cond (eqb code 2) (whole ink nowhere 0)
    (cond (eqb code 3) (whole clear nowhere 0)
    (cond (eqb code 4) (tile_from load args)
    (cond (eqb code 5) (rectangle_from args)
    (cond (eqb code 6) (trapezoid_from args)
    (cond (eqb code 7) (runs_from args)
    (cond (eqb code 8) (load_runs_from load args)
    (cond (eqb code 9) (samples_from args)
    (load_samples_from load args)))))))))

-- a command is refused by the table, or taken whole
unfoldable pub command : (load : List ℕ) (least code : ℕ) (args : List ℕ) → Taken
command load least code args = and_then (first (command_table load least code args)) (λ u. given (decoded load code args))

-- the command at the beginning of the words of a band; 6 where there is no word
unfoldable pub command_in : List ℕ → ℕ → List ℕ → Taken
command_in load least [] = refused 6 0
command_in load least (code ∷ args) = command load least code args

-- ---- worked cases

-- at address 0 a tile of phase 1 at 2, 3 with one line of 4 dots; at 6 a run group of one line; at 9 an array of one line
abbrev pub example_load : List ℕ
example_load = 1 ∷ 2 ∷ 3 ∷ 1 ∷ 4 ∷ 0xA000 ∷ 1 ∷ 4 ∷ 0x8002 ∷ 1 ∷ 4 ∷ 0xF000 ∷ []

abbrev pub example_tile : List ℕ
example_tile = 1 ∷ 2 ∷ 3 ∷ 1 ∷ 4 ∷ 0xA000 ∷ []

pub record CommandCases : Type 0 where
  pub priority_equal : command_in [] 5 (1 ∷ 5 ∷ 0 ∷ 99 ∷ []) ≡ taken (priority 5) nowhere 2
  pub priority_low_word_first : command_in [] 0 (1 ∷ 256 ∷ 255 ∷ []) ≡ taken (priority 0x00FF0100) nowhere 2
  pub priority_high : command_in [] 0 (1 ∷ 0 ∷ 256 ∷ []) ≡ refused 8 2
  pub priority_falls : command_in [] 5 (1 ∷ 4 ∷ 0 ∷ []) ≡ refused 8 1
  -- in the high word alone, and where `least` is no priority
  pub priority_high_falls : command_in [] 0x20000 (1 ∷ 65535 ∷ 1 ∷ []) ≡ refused 8 1
  pub priority_high_first : command_in [] 0xFFFFFFFF (1 ∷ 0 ∷ 256 ∷ []) ≡ refused 8 2
  pub priority_cut : command_in [] 0 (1 ∷ 5 ∷ []) ≡ refused 6 0
  pub ink_alone : command_in [] 0 (2 ∷ []) ≡ taken ink nowhere 0
  pub clear_alone : command_in [] 0 (3 ∷ []) ≡ taken clear nowhere 0
  pub tile_opaque : command_in example_load 0 (4 ∷ 0 ∷ 0 ∷ 0 ∷ []) ≡ taken (set_tile false 0 example_tile) (in_load 0 6) 3
  pub tile_transparent : command_in example_load 0 (4 ∷ 1 ∷ 0 ∷ 0 ∷ []) ≡ taken (set_tile true 0 example_tile) (in_load 0 6) 3
  pub tile_cut_before_mode : command_in example_load 0 (4 ∷ 2 ∷ 0 ∷ []) ≡ refused 6 0
  pub tile_mode : command_in example_load 0 (4 ∷ 2 ∷ 0 ∷ 0 ∷ []) ≡ refused 13 1
  pub tile_mode_before_load : command_in [] 0 (4 ∷ 2 ∷ 0 ∷ 0 ∷ []) ≡ refused 13 1
  pub tile_past_load : command_in [] 0 (4 ∷ 0 ∷ 0 ∷ 0 ∷ []) ≡ refused 9 0
  pub tile_address_high : command_in example_load 0 (4 ∷ 0 ∷ 0 ∷ 1 ∷ []) ≡ refused 9 0
  pub tile_no_lines : command_in (7 ∷ 8 ∷ 9 ∷ 0 ∷ 1 ∷ 99 ∷ []) 0 (4 ∷ 0 ∷ 0 ∷ 0 ∷ []) ≡ refused 9 0
  pub tile_no_dots : command_in (7 ∷ 8 ∷ 9 ∷ 1 ∷ 0 ∷ 99 ∷ []) 0 (4 ∷ 0 ∷ 0 ∷ 0 ∷ []) ≡ refused 9 0
  -- a tile of phase 0 at 0, 0, and one whose first three words are not its sizes; at address 1
  pub tile_at_zero : command_in (99 ∷ 0 ∷ 0 ∷ 0 ∷ 1 ∷ 4 ∷ 0xA000 ∷ []) 0 (4 ∷ 0 ∷ 1 ∷ 0 ∷ []) ≡ taken (set_tile false 1 (0 ∷ 0 ∷ 0 ∷ 1 ∷ 4 ∷ 0xA000 ∷ [])) (in_load 1 6) 3
  pub tile_sizes : command_in (99 ∷ 7 ∷ 8 ∷ 9 ∷ 2 ∷ 17 ∷ 1 ∷ 0 ∷ 3 ∷ 0x8000 ∷ 99 ∷ []) 0 (4 ∷ 1 ∷ 1 ∷ 0 ∷ []) ≡ taken (set_tile true 1 (7 ∷ 8 ∷ 9 ∷ 2 ∷ 17 ∷ 1 ∷ 0 ∷ 3 ∷ 0x8000 ∷ [])) (in_load 1 9) 3
  pub tile_a_word_short : command_in (7 ∷ 8 ∷ 9 ∷ 2 ∷ 17 ∷ 1 ∷ 0 ∷ 3 ∷ []) 0 (4 ∷ 1 ∷ 0 ∷ 0 ∷ []) ≡ refused 9 0
  -- a padding bit is set: in the last line; beside a bad mode, in the line that is there of a tile past the load, in a word after the tile
  pub tile_padding : command_in (99 ∷ 7 ∷ 8 ∷ 9 ∷ 2 ∷ 17 ∷ 1 ∷ 0 ∷ 3 ∷ 0x8001 ∷ 99 ∷ []) 0 (4 ∷ 1 ∷ 1 ∷ 0 ∷ []) ≡ refused 15 0
  pub tile_mode_before_padding : command_in (7 ∷ 8 ∷ 9 ∷ 1 ∷ 4 ∷ 0xA001 ∷ []) 0 (4 ∷ 2 ∷ 0 ∷ 0 ∷ []) ≡ refused 13 1
  pub tile_past_before_padding : command_in (7 ∷ 8 ∷ 9 ∷ 2 ∷ 4 ∷ 0xA001 ∷ []) 0 (4 ∷ 0 ∷ 0 ∷ 0 ∷ []) ≡ refused 9 0
  pub tile_no_padding_after : command_in (1 ∷ 2 ∷ 3 ∷ 1 ∷ 4 ∷ 0xA000 ∷ 0xFFFF ∷ []) 0 (4 ∷ 0 ∷ 0 ∷ 0 ∷ []) ≡ taken (set_tile false 0 example_tile) (in_load 0 6) 3
  pub rectangle_read : command_in [] 0 (5 ∷ 1 ∷ 2 ∷ 3 ∷ 4 ∷ 99 ∷ []) ≡ taken (paint (rectangle 1 2 3 4)) nowhere 4
  pub rectangle_cut : command_in [] 0 (5 ∷ 1 ∷ 2 ∷ 3 ∷ []) ≡ refused 6 0
  pub trapezoid_read : command_in [] 0 (6 ∷ 1 ∷ 2 ∷ 3 ∷ 4 ∷ 5 ∷ 6 ∷ []) ≡ taken (paint (trapezoid 1 2 3 4 5 6)) nowhere 6
  pub trapezoid_cut : command_in [] 0 (6 ∷ 1 ∷ 1 ∷ 3 ∷ 4 ∷ 5 ∷ []) ≡ refused 6 0
  pub trapezoid_one_row : command_in [] 0 (6 ∷ 1 ∷ 1 ∷ 3 ∷ 4 ∷ 5 ∷ 6 ∷ []) ≡ taken (paint (trapezoid 1 1 3 4 5 6)) nowhere 6
  pub trapezoid_no_rows : command_in [] 0 (6 ∷ 1 ∷ 0 ∷ 3 ∷ 4 ∷ 5 ∷ 6 ∷ []) ≡ taken (paint (trapezoid 1 0 3 4 5 6)) nowhere 6
  pub runs_read : command_in [] 0 (7 ∷ 9 ∷ 1 ∷ 4 ∷ 0x8002 ∷ 99 ∷ []) ≡ taken (paint (runs 9 (1 ∷ 4 ∷ 0x8002 ∷ []))) (in_band 2 3) 4
  pub runs_cut : command_in [] 0 (7 ∷ 9 ∷ 1 ∷ 4 ∷ []) ≡ refused 6 0
  pub runs_no_size : command_in [] 0 (7 ∷ 9 ∷ []) ≡ refused 6 0
  pub load_runs_read : command_in example_load 0 (8 ∷ 6 ∷ 0 ∷ 9 ∷ []) ≡ taken (paint (runs 9 (1 ∷ 4 ∷ 0x8002 ∷ []))) (in_load 6 3) 3
  pub load_runs_cut : command_in example_load 0 (8 ∷ 6 ∷ 0 ∷ []) ≡ refused 6 0
  pub load_runs_past : command_in example_load 0 (8 ∷ 12 ∷ 0 ∷ 9 ∷ []) ≡ refused 9 0
  pub samples_read : command_in [] 0 (9 ∷ 8 ∷ 7 ∷ 1 ∷ 4 ∷ 0xF000 ∷ 99 ∷ []) ≡ taken (paint (samples 8 7 (1 ∷ 4 ∷ 0xF000 ∷ []))) (in_band 3 3) 5
  pub samples_cut : command_in [] 0 (9 ∷ 8 ∷ 7 ∷ 1 ∷ 17 ∷ 0xF000 ∷ []) ≡ refused 6 0
  pub samples_padding : command_in [] 0 (9 ∷ 0 ∷ 0 ∷ 1 ∷ 4 ∷ 0xF001 ∷ []) ≡ refused 15 0
  pub samples_cut_before_padding : command_in [] 0 (9 ∷ 0 ∷ 0 ∷ 2 ∷ 4 ∷ 0xF001 ∷ []) ≡ refused 6 0
  pub samples_no_lines : command_in [] 0 (9 ∷ 8 ∷ 7 ∷ 0 ∷ 4 ∷ 0xF001 ∷ []) ≡ taken (paint (samples 8 7 (0 ∷ 4 ∷ []))) (in_band 3 2) 4
  pub load_samples_read : command_in example_load 0 (10 ∷ 9 ∷ 0 ∷ 8 ∷ 7 ∷ []) ≡ taken (paint (samples 8 7 (1 ∷ 4 ∷ 0xF000 ∷ []))) (in_load 9 3) 4
  pub load_samples_cut : command_in example_load 0 (10 ∷ 9 ∷ 0 ∷ 8 ∷ []) ≡ refused 6 0
  pub load_samples_past : command_in example_load 0 (10 ∷ 10 ∷ 0 ∷ 8 ∷ 7 ∷ []) ≡ refused 9 0
  pub load_samples_padding : command_in (99 ∷ 1 ∷ 4 ∷ 0xF001 ∷ []) 0 (10 ∷ 1 ∷ 0 ∷ 8 ∷ 7 ∷ []) ≡ refused 15 0
  pub load_samples_past_before_padding : command_in (2 ∷ 4 ∷ 0xF001 ∷ []) 0 (10 ∷ 0 ∷ 0 ∷ 8 ∷ 7 ∷ []) ≡ refused 9 0
  pub unknown : command_in [] 0 (11 ∷ []) ≡ refused 7 0
  pub code_0 : command_in [] 0 (0 ∷ []) ≡ refused 7 0
  pub whole_word : command_in [] 0 (0x0105 ∷ 1 ∷ 2 ∷ 3 ∷ 4 ∷ []) ≡ refused 7 0
  pub no_word : command_in [] 0 [] ≡ refused 6 0

pub command_cases : CommandCases
unfolding command_in command command_table first decoded array_extent lines_padding_set padding_set lines_extent group_extent
command_cases = search
