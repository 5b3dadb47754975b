-- The refusals before the walk, as a table of refusals: by number, and then in their order.
use Rattle.std.specs.Prelude.{◌≡◌, Bool, not, ◌||◌, List, [], ◌∷◌, ◌++◌, ℕ, ◌+◌, ◌*◌, ◌%◌, ltb, eqb, length}
use Rattle.refusal.specs.Answers.{refused, Verdict, fine}
use Rattle.refusal.specs.Tables.{Line, refuse, first}
use Rattle.film_words.specs.Words.{words, at, bytes_of}
use Rattle.film_words.specs.Load.{load_count}
use Rattle.film_herald.specs.Herald.{Herald, herald_of, page_count, row_length}

-- ---- by number

-- 1: odd sheet or load length, or one of them too long
abbrev pub odd : ℕ → Bool
odd n = eqb (n % 2) 1

abbrev pub too_long : ℕ → Bool
too_long n = ltb 16777216 n

unfoldable pub length_table : (sheet_bytes load_bytes : ℕ) → List Line
length_table sheet_bytes load_bytes =
    refuse 1 0 (odd sheet_bytes)
    ∷ refuse 1 0 (odd load_bytes)
    ∷ refuse 1 0 (too_long sheet_bytes)
    ∷ refuse 1 0 (too_long load_bytes)
    ∷ []

-- 2: sheet under 12 words; password; version
unfoldable pub password_table : List ℕ → List Line
password_table ws =
    refuse 2 0 (ltb (length ws) 12)
    ∷ refuse 2 0 (not (eqb (at ws 0) 0xAAAA))
    ∷ refuse 2 1 (not (eqb (at ws 1) 1))
    ∷ []

-- 3: fields 5, 6, 7, 10 outside their sizes, in that order; then band bytes
abbrev pub outside : ℕ → ℕ → ℕ → Bool
outside low high x = ltb x low || ltb high x

unfoldable pub size_table : Herald → List Line
size_table h =
    refuse 3 5 (outside 1 32768 h.image_s_size)
    ∷ refuse 3 6 (outside 1 32768 h.image_f_size)
    ∷ refuse 3 7 (outside 1 h.image_s_size h.band_s_size)
    ∷ refuse 3 10 (ltb h.copies 1)
    ∷ refuse 3 7 (ltb 65536 (h.band_s_size * row_length h.image_f_size))
    ∷ []

-- 4: load has no whole count, its count is not its length, or is over max_load_words
unfoldable pub load_table : Herald → List ℕ → List Line
load_table h load =
    refuse 4 8 (ltb (length (words load)) 2)
    ∷ refuse 4 8 (not (eqb (2 + load_count load) (length (words load))))
    ∷ refuse 4 8 (ltb h.max_load_words (load_count load))
    ∷ []

-- 5: page count 0
unfoldable pub page_table : ℕ → List Line
page_table pages = refuse 5 11 (eqb pages 0) ∷ []

-- ---- in their order, of the bytes of sheet and load

unfoldable pub herald_table : List ℕ → List ℕ → List Line
herald_table sheet load =
    let ws = words sheet in
    length_table (length sheet) (length load) ++ password_table ws ++ size_table (herald_of ws) ++ load_table (herald_of ws) load ++ page_table (page_count ws)

-- what the table says
unfoldable pub herald_test : List ℕ → List ℕ → Verdict
herald_test sheet load = first (herald_table sheet load)

-- ---- worked cases

-- sizes S, F, B, copies
abbrev sized : ℕ → ℕ → ℕ → ℕ → Verdict
sized S F B c = first (size_table (herald_of (0xAAAA ∷ 1 ∷ 0 ∷ 0 ∷ 0 ∷ S ∷ F ∷ B ∷ 0 ∷ 0 ∷ c ∷ [])))

-- a load under max_load_words 1
abbrev loaded : List ℕ → Verdict
loaded load = first (load_table (herald_of (0xAAAA ∷ 1 ∷ 0 ∷ 0 ∷ 0 ∷ 1 ∷ 1 ∷ 1 ∷ 1 ∷ 0 ∷ 1 ∷ [])) load)

-- a sheet of 12 words, by password, band_s_size and page count, with no load
abbrev twelve : ℕ → ℕ → ℕ → Verdict
twelve password band pages = herald_test (bytes_of (password ∷ 1 ∷ 0 ∷ 0 ∷ 0 ∷ 1 ∷ 1 ∷ band ∷ 0 ∷ 0 ∷ 1 ∷ pages ∷ [])) []

pub record RefusalCases : Type 0 where
  pub odd_sheet : herald_test (1 ∷ []) [] ≡ refused 1 0
  pub odd_load : herald_test [] (1 ∷ []) ≡ refused 1 0
  pub length_limits : first (length_table 16777216 16777216) ≡ fine
  pub sheet_too_long : first (length_table 16777218 0) ≡ refused 1 0
  pub load_too_long : first (length_table 0 16777218) ≡ refused 1 0
  pub empty_sheet : herald_test [] [] ≡ refused 2 0
  pub eleven_words : first (password_table (0xAAAA ∷ 1 ∷ 0 ∷ 0 ∷ 0 ∷ 1 ∷ 1 ∷ 1 ∷ 0 ∷ 0 ∷ 1 ∷ [])) ≡ refused 2 0
  pub twelve_words : first (password_table (0xAAAA ∷ 1 ∷ 0 ∷ 0 ∷ 0 ∷ 1 ∷ 1 ∷ 1 ∷ 0 ∷ 0 ∷ 1 ∷ 1 ∷ [])) ≡ fine
  pub password_wrong : first (password_table (0xAAAB ∷ 2 ∷ 0 ∷ 0 ∷ 0 ∷ 1 ∷ 1 ∷ 1 ∷ 0 ∷ 0 ∷ 1 ∷ 1 ∷ [])) ≡ refused 2 0
  pub version_wrong : first (password_table (0xAAAA ∷ 2 ∷ 0 ∷ 0 ∷ 0 ∷ 1 ∷ 1 ∷ 1 ∷ 0 ∷ 0 ∷ 1 ∷ 1 ∷ [])) ≡ refused 2 1
  pub largest : sized 32768 16 32768 1 ≡ fine
  pub no_lines : sized 0 0 1 1 ≡ refused 3 5
  pub lines_over : sized 32769 1 1 1 ≡ refused 3 5
  pub no_dots : sized 1 0 0 1 ≡ refused 3 6
  pub dots_over : sized 1 32769 1 1 ≡ refused 3 6
  pub no_band_lines : sized 1 1 0 0 ≡ refused 3 7
  pub band_over_image : sized 4 1 5 1 ≡ refused 3 7
  pub no_copies : sized 32768 32768 17 0 ≡ refused 3 10
  pub band_too_wide : sized 32768 32768 17 1 ≡ refused 3 7
  pub band_bytes_limit : sized 16384 17 16384 1 ≡ fine
  pub band_bytes_over : sized 16385 17 16385 1 ≡ refused 3 7
  pub no_load : loaded [] ≡ refused 4 8
  pub half_a_count : loaded (0 ∷ 0 ∷ []) ≡ refused 4 8
  pub empty_load_case : loaded (0 ∷ 0 ∷ 0 ∷ 0 ∷ []) ≡ fine
  pub one_word : loaded (0 ∷ 1 ∷ 0 ∷ 0 ∷ 7 ∷ 7 ∷ []) ≡ fine
  pub count_in_words : loaded (0 ∷ 2 ∷ 0 ∷ 0 ∷ 7 ∷ 7 ∷ []) ≡ refused 4 8
  pub count_never_wraps : loaded (0 ∷ 0 ∷ 0x80 ∷ 0 ∷ []) ≡ refused 4 8
  pub over_limit : loaded (0 ∷ 2 ∷ 0 ∷ 0 ∷ 7 ∷ 7 ∷ 7 ∷ 7 ∷ []) ≡ refused 4 8
  pub no_pages : first (page_table 0) ≡ refused 5 11
  pub one_page_case : first (page_table 1) ≡ fine
  pub password_before_sizes : twelve 0 0 0 ≡ refused 2 0
  pub sizes_before_load : twelve 0xAAAA 0 0 ≡ refused 3 7
  pub load_before_pages : twelve 0xAAAA 1 0 ≡ refused 4 8

pub refusal_cases : RefusalCases
unfolding first length_table password_table size_table load_table page_table herald_table herald_test words bytes_of load_count
refusal_cases = search
