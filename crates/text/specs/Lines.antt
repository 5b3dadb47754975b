-- The lines of a listing. A line is labels and numbers in turn, or the bytes of a row in hexadecimal; then the code 10, which ends it.
use Rattle.std.specs.Prelude.{◌≡◌, List, [], ◌∷◌, ◌++◌, ℕ}
use Rattle.text.specs.Numbers.{hex_digit, hex_of, decimal_in, decimal}

-- ---- the labels, each with its blanks

-- `pages `
unfoldable pub pages_label : List ℕ
pages_label = 112 ∷ 97 ∷ 103 ∷ 101 ∷ 115 ∷ 32 ∷ []

-- ` bands `
unfoldable pub bands_label : List ℕ
bands_label = 32 ∷ 98 ∷ 97 ∷ 110 ∷ 100 ∷ 115 ∷ 32 ∷ []

-- `page `
unfoldable pub page_label : List ℕ
page_label = 112 ∷ 97 ∷ 103 ∷ 101 ∷ 32 ∷ []

-- ` band `
unfoldable pub band_label : List ℕ
band_label = 32 ∷ 98 ∷ 97 ∷ 110 ∷ 100 ∷ 32 ∷ []

-- ` rows `
unfoldable pub rows_label : List ℕ
rows_label = 32 ∷ 114 ∷ 111 ∷ 119 ∷ 115 ∷ 32 ∷ []

-- ` dots `
unfoldable pub dots_label : List ℕ
dots_label = 32 ∷ 100 ∷ 111 ∷ 116 ∷ 115 ∷ 32 ∷ []

-- `refused `
unfoldable pub refused_label : List ℕ
refused_label = 114 ∷ 101 ∷ 102 ∷ 117 ∷ 115 ∷ 101 ∷ 100 ∷ 32 ∷ []

-- ` at `
unfoldable pub at_label : List ℕ
at_label = 32 ∷ 97 ∷ 116 ∷ 32 ∷ []

-- ---- the lines

-- what ends a line
abbrev pub newline : List ℕ
newline = 10 ∷ []

-- how many pages and bands there are
unfoldable pub pages_line : (pages bands : ℕ) → List ℕ
pages_line pages bands = pages_label ++ decimal pages ++ bands_label ++ decimal bands ++ newline

-- where a band stands, and what it has
unfoldable pub band_line : (page band rows dots : ℕ) → List ℕ
band_line page band rows dots =
    page_label ++ decimal page ++ band_label ++ decimal band ++ rows_label ++ decimal rows ++ dots_label ++ decimal dots ++ newline

-- the bytes of a row, without blanks
unfoldable pub row_line : List ℕ → List ℕ
row_line row = hex_of row ++ newline

-- the number of what was refused, and the place where it stands
unfoldable pub refusal_line : (number place : ℕ) → List ℕ
refusal_line number place = refused_label ++ decimal number ++ at_label ++ decimal place ++ newline

-- ---- worked cases

pub record LineCases : Type 0 where
  -- `pages 1 bands 2`
  pub pages : pages_line 1 2 ≡ 112 ∷ 97 ∷ 103 ∷ 101 ∷ 115 ∷ 32 ∷ 49 ∷ 32 ∷ 98 ∷ 97 ∷ 110 ∷ 100 ∷ 115 ∷ 32 ∷ 50 ∷ 10 ∷ []
  -- `page 0 band 0 rows 2 dots 3`
  pub band : band_line 0 0 2 3
      ≡ 112 ∷ 97 ∷ 103 ∷ 101 ∷ 32 ∷ 48 ∷ 32 ∷ 98 ∷ 97 ∷ 110 ∷ 100 ∷ 32 ∷ 48 ∷ 32 ∷ 114 ∷ 111 ∷ 119 ∷ 115 ∷ 32 ∷ 50 ∷ 32 ∷ 100 ∷ 111 ∷ 116
      ∷ 115 ∷ 32 ∷ 51 ∷ 10 ∷ []
  -- `page 4 band 15 rows 6 dots 7`
  pub other_band : band_line 4 15 6 7
      ≡ 112 ∷ 97 ∷ 103 ∷ 101 ∷ 32 ∷ 52 ∷ 32 ∷ 98 ∷ 97 ∷ 110 ∷ 100 ∷ 32 ∷ 49 ∷ 53 ∷ 32 ∷ 114 ∷ 111 ∷ 119 ∷ 115 ∷ 32 ∷ 54 ∷ 32 ∷ 100 ∷ 111
      ∷ 116 ∷ 115 ∷ 32 ∷ 55 ∷ 10 ∷ []
  -- `7000`
  pub row : row_line (0x70 ∷ 0x00 ∷ []) ≡ 55 ∷ 48 ∷ 48 ∷ 48 ∷ 10 ∷ []
  pub empty_row : row_line [] ≡ 10 ∷ []
  -- `refused 7 at 14`
  pub refusal : refusal_line 7 14 ≡ 114 ∷ 101 ∷ 102 ∷ 117 ∷ 115 ∷ 101 ∷ 100 ∷ 32 ∷ 55 ∷ 32 ∷ 97 ∷ 116 ∷ 32 ∷ 49 ∷ 52 ∷ 10 ∷ []

pub line_cases : LineCases
unfolding hex_digit hex_of decimal_in decimal pages_label bands_label page_label band_label rows_label dots_label refused_label at_label pages_line band_line row_line refusal_line
line_cases = search
