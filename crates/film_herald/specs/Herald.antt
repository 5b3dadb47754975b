-- The herald's numbers, and the bands into which a page is cut. s numbers scan lines, f dots along one.
use Rattle.std.specs.Prelude.{◌≡◌, List, [], ◌∷◌, ℕ, ◌*◌, ◌-◌, min}
use Rattle.film_words.specs.Words.{at, long_at, ceil_div}

-- the herald, 11 words
pub record Herald : Type 0 where
  pub password : ℕ
  pub version : ℕ
  pub device : ℕ
  pub s_resolution : ℕ
  pub f_resolution : ℕ
  pub image_s_size : ℕ
  pub image_f_size : ℕ
  pub band_s_size : ℕ
  pub max_load_words : ℕ
  pub copies : ℕ

abbrev pub herald_of : List ℕ → Herald
herald_of ws =
    record {
      password = at ws 0;
      version = at ws 1;
      device = at ws 2;
      s_resolution = at ws 3;
      f_resolution = at ws 4;
      image_s_size = at ws 5;
      image_f_size = at ws 6;
      band_s_size = at ws 7;
      max_load_words = long_at ws 8;
      copies = at ws 10;
    }

-- word 11 counts the pages
abbrev pub page_count : List ℕ → ℕ
page_count ws = at ws 11

-- a page has image_s_size / band_s_size bands, rounded up
unfoldable pub band_count : Herald → ℕ
band_count h = ceil_div h.image_s_size h.band_s_size

-- band b holds band_s_size · b ≤ s < band_s_size · (b + 1), cut off at image_s_size
abbrev pub band_start : Herald → ℕ → ℕ
band_start h b = h.band_s_size * b

abbrev pub band_rows : Herald → ℕ → ℕ
band_rows h b = min h.band_s_size (h.image_s_size - band_start h b)

-- a row takes 2 bytes for each 16 dots, rounded up
abbrev pub row_length : ℕ → ℕ
row_length width = 2 * ceil_div width 16

-- a page's window: its rows hold the dots f_min ≤ f < f_min + f_size
pub record Window : Type 0 where
  pub f_min : ℕ
  pub f_size : ℕ

-- every page has the whole film
abbrev pub whole_film : Herald → Window
whole_film h = record { f_min = 0; f_size = h.image_f_size }

-- the bytes of a band's own rows
abbrev pub band_bytes : Herald → Window → ℕ → ℕ
band_bytes h w b = band_rows h b * row_length w.f_size

-- ---- worked cases

-- 5 scan lines of 17 dots in bands of 2; max_load_words 10002 hex
abbrev pub example_herald : Herald
example_herald = herald_of (0xAAAA ∷ 1 ∷ 3 ∷ 600 ∷ 601 ∷ 5 ∷ 17 ∷ 2 ∷ 2 ∷ 1 ∷ 7 ∷ [])

pub record HeraldCases : Type 0 where
  pub password_is : example_herald.password ≡ 0xAAAA
  pub version_is : example_herald.version ≡ 1
  pub device_is : example_herald.device ≡ 3
  pub s_resolution_case : example_herald.s_resolution ≡ 600
  pub f_resolution_case : example_herald.f_resolution ≡ 601
  pub lines : example_herald.image_s_size ≡ 5
  pub dots : example_herald.image_f_size ≡ 17
  pub band_lines : example_herald.band_s_size ≡ 2
  pub load_limit : example_herald.max_load_words ≡ 0x00010002
  pub copies_is : example_herald.copies ≡ 7
  pub pages_counted : page_count (0 ∷ 1 ∷ 2 ∷ 3 ∷ 4 ∷ 5 ∷ 6 ∷ 7 ∷ 8 ∷ 9 ∷ 10 ∷ 11 ∷ 12 ∷ []) ≡ 11
  pub bands : band_count example_herald ≡ 3
  pub second_start : band_start example_herald 1 ≡ 2
  pub whole_band : band_rows example_herald 1 ≡ 2
  pub cut_band_case : band_rows example_herald 2 ≡ 1
  pub row_of_17 : row_length 17 ≡ 4
  pub row_of_16 : row_length 16 ≡ 2
  pub whole_film_case : whole_film example_herald ≡ record { f_min = 0; f_size = 17 }
  pub cut_band_bytes : band_bytes example_herald (whole_film example_herald) 2 ≡ 4
  pub window_bytes : band_bytes example_herald (record { f_min = 9; f_size = 8 }) 0 ≡ 4

pub herald_cases : HeraldCases
unfolding band_count
herald_cases = search
