-- What the check answers, for every two byte strings offered as sheet and load.
use Rattle.std.specs.Prelude.{◌≡◌, List, [], ◌∷◌, ◌++◌, ℕ}
use Rattle.refusal.specs.Answers.{Answer, given, refused, and_then}
use Rattle.refusal.specs.Tables.{first}
use Rattle.film_words.specs.Words.{words, bytes_of}
use Rattle.film_words.specs.Load.{load_count, load_words}
use Rattle.film_words.specs.Arrays.{array_extent}
use Rattle.film_words.specs.Padding.{lines_padding_set, padding_set}
use Rattle.film_words.specs.Groups.{lines_extent, group_extent}
use Rattle.film_commands.specs.Refusals.{command_table}
use Rattle.film_commands.specs.Commands.{command, decoded}
use Rattle.film_commands.specs.Band.{read_from, read_band, band_test}
use Rattle.film_herald.specs.Herald.{page_count, band_count}
use Rattle.film_herald.specs.Refusals.{length_table, password_table, size_table, load_table, page_table, herald_table, herald_test}
use Rattle.film_layout.specs.Layout.{Layout, page_head, band, ends, bands_then, pages_from, layout_of}

-- the number of pages, or a refusal
abbrev pub CheckAnswer : Type 0
CheckAnswer = Answer ℕ

-- 10: words after the last page
abbrev pub nothing_after : (place : ℕ) → List ℕ → (pages : ℕ) → CheckAnswer
nothing_after p [] n = given n
nothing_after p (w ∷ ws) n = refused 10 p

-- the walk over all bands of n pages
unfoldable pub check_layout : (load : List ℕ) (n : ℕ) → Layout → CheckAnswer
check_layout load n (page_head w rest) = check_layout load n rest
check_layout load n (band x rest) = and_then (band_test load x.place x.words) (λ u. check_layout load n rest)
check_layout load n (ends a) = and_then a (λ x. nothing_after x.place x.words n)

unfoldable pub check_answer : (sheet load : List ℕ) → CheckAnswer
check_answer sheet load =
    let ws = words sheet in
    and_then (herald_test sheet load) (λ u. check_layout (load_words load) (page_count ws) (layout_of ws))

-- ---- worked cases: sheets by their words, of 4 lines of 16 dots in one band where nothing else is said, max_load_words 9

-- the first words up to copies, by image_s_size and band_s_size
abbrev start : ℕ → ℕ → List ℕ
start S B = 0xAAAA ∷ 1 ∷ 0 ∷ 0x0258 ∷ 0x0258 ∷ S ∷ 16 ∷ B ∷ 9 ∷ 0 ∷ 1 ∷ []

-- what the check answers for the words of a sheet, and of a load
abbrev checked : List ℕ → List ℕ → CheckAnswer
checked ws ls = check_answer (bytes_of ws) (bytes_of ls)

-- one page of one band, with these words from word 13 on, and the empty load
abbrev one_band : List ℕ → CheckAnswer
one_band rest = checked (start 4 4 ++ (1 ∷ 1 ∷ rest)) (0 ∷ 0 ∷ [])

pub record CheckCases : Type 0 where
  pub passes : one_band (5 ∷ 5 ∷ 1 ∷ 2 ∷ 1 ∷ 3 ∷ []) ≡ given 1
  pub empty_band_case : one_band (0 ∷ []) ≡ given 1
  pub number_1 : check_answer (0 ∷ []) (bytes_of (0 ∷ 0 ∷ [])) ≡ refused 1 0
  pub number_2 : checked [] (0 ∷ 0 ∷ []) ≡ refused 2 0
  pub number_3 : checked (start 4 5 ++ (1 ∷ [])) (0 ∷ 0 ∷ []) ≡ refused 3 7
  pub number_4 : checked (start 4 4 ++ (1 ∷ 1 ∷ 0 ∷ [])) [] ≡ refused 4 8
  pub number_5 : checked (start 4 4 ++ (0 ∷ [])) (0 ∷ 0 ∷ []) ≡ refused 5 11
  pub number_5_bands : checked (start 4 2 ++ (1 ∷ 1 ∷ 0 ∷ [])) (0 ∷ 0 ∷ []) ≡ refused 5 12
  pub number_6_missing : one_band [] ≡ refused 6 13
  pub number_6_page_missing : checked (start 4 4 ++ (2 ∷ 1 ∷ 0 ∷ [])) (0 ∷ 0 ∷ []) ≡ refused 6 14
  pub number_6_band : one_band (2 ∷ 99 ∷ []) ≡ refused 6 13
  pub number_6_command : one_band (3 ∷ 2 ∷ 5 ∷ 1 ∷ []) ≡ refused 6 15
  pub number_7 : one_band (1 ∷ 11 ∷ []) ≡ refused 7 14
  pub number_8_high : one_band (3 ∷ 1 ∷ 0 ∷ 256 ∷ []) ≡ refused 8 16
  pub number_8_falls : one_band (6 ∷ 1 ∷ 1 ∷ 0 ∷ 1 ∷ 0 ∷ 0 ∷ []) ≡ refused 8 18
  pub number_9 : one_band (4 ∷ 4 ∷ 0 ∷ 0 ∷ 0 ∷ []) ≡ refused 9 14
  pub number_10 : one_band (1 ∷ 2 ∷ 7 ∷ []) ≡ refused 10 15
  pub number_13 : one_band (4 ∷ 4 ∷ 2 ∷ 0 ∷ 0 ∷ []) ≡ refused 13 15
  pub number_15 : one_band (6 ∷ 9 ∷ 0 ∷ 0 ∷ 1 ∷ 4 ∷ 0xF001 ∷ []) ≡ refused 15 14
  pub one_row_trapezoid : one_band (7 ∷ 6 ∷ 0 ∷ 1 ∷ 0 ∷ 2 ∷ 0 ∷ 2 ∷ []) ≡ given 1
  -- page 0's last band has a fault, and page 1 is missing: the first fault met is given
  pub first_fault : checked (start 4 4 ++ (2 ∷ 1 ∷ 1 ∷ 99 ∷ [])) (0 ∷ 0 ∷ []) ≡ refused 7 14
  pub two_pages_case : checked (start 4 2 ++ (2 ∷ 2 ∷ 0 ∷ 1 ∷ 2 ∷ 2 ∷ 1 ∷ 3 ∷ 0 ∷ [])) (0 ∷ 0 ∷ []) ≡ given 2
  -- runs from a load of 3 words, at address 0 and one too far
  pub from_load : checked (start 4 4 ++ (1 ∷ 1 ∷ 4 ∷ 8 ∷ 0 ∷ 0 ∷ 2 ∷ [])) (3 ∷ 0 ∷ 1 ∷ 4 ∷ 0x8002 ∷ []) ≡ given 1
  pub past_load : checked (start 4 4 ++ (1 ∷ 1 ∷ 4 ∷ 8 ∷ 1 ∷ 0 ∷ 2 ∷ [])) (3 ∷ 0 ∷ 1 ∷ 4 ∷ 0x8002 ∷ []) ≡ refused 9 14
  -- a tile that nothing is painted with; two arrays in the load, the second with a padding bit set: named alone, the first passes
  pub tile_padding : checked (start 4 4 ++ (1 ∷ 1 ∷ 4 ∷ 4 ∷ 0 ∷ 0 ∷ 0 ∷ [])) (6 ∷ 0 ∷ 0 ∷ 0 ∷ 0 ∷ 1 ∷ 4 ∷ 0xF001 ∷ []) ≡ refused 15 14
  pub padding_not_named : checked (start 4 4 ++ (1 ∷ 1 ∷ 5 ∷ 10 ∷ 0 ∷ 0 ∷ 0 ∷ 0 ∷ [])) (6 ∷ 0 ∷ 1 ∷ 4 ∷ 0xF000 ∷ 1 ∷ 4 ∷ 0xF001 ∷ []) ≡ given 1
  pub padding_named : checked (start 4 4 ++ (1 ∷ 1 ∷ 5 ∷ 10 ∷ 3 ∷ 0 ∷ 0 ∷ 0 ∷ [])) (6 ∷ 0 ∷ 1 ∷ 4 ∷ 0xF000 ∷ 1 ∷ 4 ∷ 0xF001 ∷ []) ≡ refused 15 14
  -- two arrays that share words of the load: what are dots of the one is padding of the other
  pub dots_of_one : checked (start 4 4 ++ (1 ∷ 1 ∷ 5 ∷ 10 ∷ 0 ∷ 0 ∷ 0 ∷ 0 ∷ [])) (5 ∷ 0 ∷ 3 ∷ 16 ∷ 1 ∷ 4 ∷ 0xF001 ∷ []) ≡ given 1
  pub padding_of_other : checked (start 4 4 ++ (1 ∷ 1 ∷ 5 ∷ 10 ∷ 2 ∷ 0 ∷ 0 ∷ 0 ∷ [])) (5 ∷ 0 ∷ 3 ∷ 16 ∷ 1 ∷ 4 ∷ 0xF001 ∷ []) ≡ refused 15 14

pub check_cases : CheckCases
unfolding check_answer check_layout herald_test first length_table password_table size_table load_table page_table herald_table words bytes_of load_count load_words band_count bands_then pages_from read_band read_from command command_table decoded array_extent lines_padding_set padding_set lines_extent group_extent
check_cases = search
