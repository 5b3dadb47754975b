-- Tiles, palette and the printed rows. A band is 40 tiles of 16 bytes, 20 to a tile row; bands lie one after another, so tile row t of the page
-- begins at byte 320 · t. A tile's row is two bytes, the first with the low bits, bit 7 leftmost.
use Rattle.std.specs.Prelude.{◌≡◌, refl, cond, ◌&&◌, List, [], ◌∷◌, ◌++◌, leb, ℕ, zero, suc, ◌+◌, ◌*◌, ◌-◌, ◌/◌, ◌%◌, ◌^◌, length, get_or, drop, replicate}

-- the bit of a byte at place x from the left
abbrev pub bit_at : (byte x : ℕ) → ℕ
bit_at byte x = byte / 2 ^ (7 - x) % 2

-- a dot's index: the first byte has its low bit
abbrev pub index_of : (first second x : ℕ) → ℕ
index_of first second x = bit_at first x + 2 * bit_at second x

-- the palette byte: its highest two bits are for index 0
abbrev pub shade : (palette index : ℕ) → ℕ
shade palette index = palette / 4 ^ (3 - index) % 4

-- where the two bytes stand that hold dot x of row y of the page
abbrev pub tile_byte : (y x : ℕ) → ℕ
tile_byte y x = 320 * (y / 8) + 16 * (x / 8) + 2 * (y % 8)

-- the shade of dot x of row y
abbrev pub dot_of : (bands : List ℕ) (palette y x : ℕ) → ℕ
dot_of bands palette y x = shade palette (index_of (get_or bands (tile_byte y x) 0) (get_or bands (tile_byte y x + 1) 0) (x % 8))

-- four dots in a byte, the leftmost highest; 40 bytes a row
unfoldable pub four_dots : (bands : List ℕ) (palette place : ℕ) → ℕ
four_dots bands palette place =
    let y = place / 40 in
    let x = 4 * (place % 40) in
    64 * dot_of bands palette y x + 16 * dot_of bands palette y (x + 1) + 4 * dot_of bands palette y (x + 2) + dot_of bands palette y (x + 3)

-- f 0, f 1, .., n of them, from f i on
unfoldable pub listed : (ℕ → ℕ) → (i n : ℕ) → List ℕ
listed f i zero = []
listed f i (suc n) = f i ∷ listed f (suc i) n

-- n bands are 16 · n rows of 40 bytes, so 640 · n bytes, as the bands themselves are; bytes beyond stay
unfoldable pub printed : (bands : List ℕ) (n palette : ℕ) (dots : List ℕ) → List ℕ
printed bands n palette dots = listed (four_dots bands palette) 0 (640 * n) ++ drop (640 * n) dots

-- what `print` leaves: the rows, where both buffers have room for n bands; else nothing is written
unfoldable pub printing : (bands : List ℕ) (n palette : ℕ) (dots : List ℕ) → List ℕ
printing bands n palette dots = cond (leb (640 * n) (length bands) && leb (640 * n) (length dots)) (printed bands n palette dots) dots

-- ---- worked cases

pub record DotCases : Type 0 where
  -- E4 is 3, 2, 1, 0
  pub shade_0 : shade 0xE4 0 ≡ 3
  pub shade_3 : shade 0xE4 3 ≡ 0
  pub shade_1 : shade 0x1B 1 ≡ 1
  -- first byte 0F, second 33: 0 0 2 2 1 1 3 3, through 1B as they are: 0A 5F
  pub left : four_dots (0x0F ∷ 0x33 ∷ []) 0x1B 0 ≡ 0x0A
  pub right : four_dots (0x0F ∷ 0x33 ∷ []) 0x1B 1 ≡ 0x5F
  pub through : four_dots (0x0F ∷ 0x33 ∷ []) 0xE4 0 ≡ 0xF5
  -- row 1 is the tile's next two bytes; the second tile begins at 16; the second tile row at 320; the second band at 640
  pub next_row : tile_byte 1 0 ≡ 2
  pub next_tile : tile_byte 0 8 ≡ 16
  pub lower_half : tile_byte 8 0 ≡ 320
  pub next_band : tile_byte 16 159 ≡ 640 + 304
  pub next_two : tile_byte 143 159 ≡ 5758
  -- the first byte has the low bits: 80 and 00 are index 1, 00 and 80 index 2
  pub low_bit : dot_of (0x80 ∷ 0x00 ∷ []) 0x1B 0 0 ≡ 1
  pub high_bit : dot_of (0x00 ∷ 0x80 ∷ []) 0x1B 0 0 ≡ 2
  -- bit 7 is leftmost
  pub rightmost : dot_of (0x01 ∷ 0x00 ∷ []) 0x1B 0 7 ≡ 1
  pub none : printed (0xFF ∷ []) 0 0xE4 (7 ∷ 8 ∷ []) ≡ 7 ∷ 8 ∷ []
  -- a band of index 3 through E4 is white; what lies beyond it stays
  pub white : printed (replicate 640 0xFF) 1 0xE4 (replicate 640 7 ++ (8 ∷ [])) ≡ replicate 640 0 ++ (8 ∷ [])
  pub no_room : printing (replicate 640 0xFF) 1 0x1B (replicate 639 7) ≡ replicate 639 7
  pub no_band : printing (replicate 639 0xFF) 1 0x1B (replicate 640 7) ≡ replicate 640 7
  pub just_room : printing (replicate 640 0xFF) 1 0x1B (replicate 640 7) ≡ replicate 640 0xFF

pub dot_cases : DotCases
unfolding four_dots listed printed printing
dot_cases = record {
  shade_0 = refl;
  shade_3 = refl;
  shade_1 = refl;
  left = refl;
  right = refl;
  through = refl;
  next_row = refl;
  next_tile = refl;
  lower_half = refl;
  next_band = refl;
  next_two = refl;
  low_bit = refl;
  high_bit = refl;
  rightmost = refl;
  none = refl;
  white = refl;
  no_room = refl;
  no_band = refl;
  just_room = refl;
}
