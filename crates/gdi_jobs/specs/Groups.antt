-- Groups of bytes: the head of a job, and what may stand where no command stands. A form is written down as a list of bytes with `any` in it.
use Rattle.std.specs.Prelude.{◌≡◌, Bool, true, false, cond, ◌&&◌, ◌||◌, List, [], ◌∷◌, ◌++◌, map, ℕ, zero, suc, ◌+◌, ◌*◌, eqb, leb, ltb, length, get_or, set, take, drop}
use Prim.Native.Char.{code}
use Prim.Native.String.{String, char_at}

-- ---- forms

-- stands for any byte; no byte is 256
abbrev pub any : ℕ
any = 256

-- whether bytes begin as a form says
unfoldable pub fits : (form bytes : List ℕ) → Bool
fits [] bs = true
fits (x ∷ form) [] = false
fits (x ∷ form) (b ∷ bs) = (eqb x any || eqb b x) && fits form bs

-- the ASCII codes of n characters of a text, from its character i on
unfoldable pub codes : String → (i n : ℕ) → List ℕ
codes text i zero = []
codes text i (suc n) = code (char_at text i) ∷ codes text (suc i) n

-- the head, 86 bytes: 76 characters, 0D 0A, 10 00 02 00 00 00 00 00
unfoldable pub head_bytes : List ℕ
head_bytes =
    codes ") SAG-GDI RL;0;0;Comment Copyright Sagem Communication 2005. Version 1.0.0.0" 0 76
    ++ (0x0D ∷ 0x0A ∷ 0x10 ∷ 0x00 ∷ 0x02 ∷ 0x00 ∷ 0x00 ∷ 0x00 ∷ 0x00 ∷ 0x00 ∷ [])

-- a page head is known by its first two bytes
abbrev pub page_start : List ℕ
page_start = 0x11 ∷ 0x00 ∷ []

-- a page head, 21 bytes: 11 00 0F 00, tray, 04 04 00 00, width, height, format, paper type, copies, 00, toner
abbrev pub page_form : List ℕ
page_form =
    0x11 ∷ 0x00 ∷ 0x0F ∷ 0x00 ∷ any ∷ any ∷ any ∷ any ∷ 0x04 ∷ 0x04 ∷ 0x00 ∷ 0x00 ∷ any ∷ any ∷ any ∷ any ∷ any ∷ any ∷ any ∷ 0x00 ∷ any ∷ []

-- the head of a block: 12 00, size, 00 00
abbrev pub block_form : List ℕ
block_form = 0x12 ∷ 0x00 ∷ any ∷ any ∷ 0x00 ∷ 0x00 ∷ []

abbrev pub page_end_bytes : List ℕ
page_end_bytes = 0x13 ∷ 0x00 ∷ 0x00 ∷ 0x00 ∷ 0x00 ∷ 0x00 ∷ []

abbrev pub document_end_bytes : List ℕ
document_end_bytes = 0x14 ∷ 0x00 ∷ 0x00 ∷ 0x00 ∷ 0x00 ∷ 0x00 ∷ []

-- ---- the numbers in them

-- two bytes, low byte first
abbrev pub number_at : List ℕ → ℕ → ℕ
number_at bs i = get_or bs i 0 + 256 * get_or bs (i + 1) 0

-- width 1 to 16,383
unfoldable pub admitted : ℕ → Bool
admitted width = leb 1 width && leb width 16383

-- width, height 1 to 65,535, toner 0 or 1: what a page head may hold
unfoldable pub fields : (width height toner : ℕ) → Bool
fields width height toner = admitted width && leb 1 height && leb height 65535 && leb toner 1

-- ---- the kinds of groups

pub data Group : Type 0 where
  -- the job ends before the group does: six bytes, or 21 for what is known as a page head
  cut : Group
  page_head : (width height : ℕ) → Group
  -- a page head with another fixed byte, or with numbers that it may not hold
  wrong_page_head : Group
  block : (size : ℕ) → Group
  page_end : Group
  document_end : Group
  unknown : Group

-- a page head with all its bytes
abbrev pub page_head_in : List ℕ → Group
page_head_in bs =
    let width = number_at bs 12 in
    let height = number_at bs 14 in
    cond (fits page_form bs && fields width height (get_or bs 20 0)) (page_head width height) wrong_page_head

-- the group at the beginning of the bytes that the job has from there on
unfoldable pub group : List ℕ → Group
group bs =
    cond (ltb (length bs) 6) cut
    (cond (fits page_start bs) (cond (ltb (length bs) 21) cut (page_head_in bs))
    (cond (fits block_form bs) (block (number_at bs 2))
    (cond (fits page_end_bytes bs) page_end
    (cond (fits document_end_bytes bs) document_end
    unknown))))

-- ---- worked cases

-- a page head of width 3 and height 2, tray 1, format 4, paper type 3, copies 7, toner 1
abbrev pub example_page : List ℕ
example_page =
    0x11 ∷ 0x00 ∷ 0x0F ∷ 0x00 ∷ 0x01 ∷ 0x00 ∷ 0x00 ∷ 0x00 ∷ 0x04 ∷ 0x04 ∷ 0x00 ∷ 0x00 ∷ 0x03 ∷ 0x00 ∷ 0x02 ∷ 0x00 ∷ 0x04 ∷ 0x03 ∷ 0x07 ∷ 0x00 ∷ 0x01 ∷ []

-- the first 12 bytes of a page head, and the bytes after width and height, by toner
abbrev page_front : List ℕ
page_front = 0x11 ∷ 0x00 ∷ 0x0F ∷ 0x00 ∷ 0x00 ∷ 0x00 ∷ 0x00 ∷ 0x00 ∷ 0x04 ∷ 0x04 ∷ 0x00 ∷ 0x00 ∷ []

abbrev page_back : ℕ → List ℕ
page_back toner = 0x00 ∷ 0x00 ∷ 0x01 ∷ 0x00 ∷ toner ∷ []

pub record GroupCases : Type 0 where
  pub head_length : length head_bytes ≡ 86
  pub head_first : take 3 head_bytes ≡ 0x29 ∷ 0x20 ∷ 0x53 ∷ []
  pub head_text_end : take 4 (drop 73 head_bytes) ≡ 0x30 ∷ 0x2E ∷ 0x30 ∷ 0x0D ∷ []
  pub head_last : drop 76 head_bytes ≡ 0x0D ∷ 0x0A ∷ 0x10 ∷ 0x00 ∷ 0x02 ∷ 0x00 ∷ 0x00 ∷ 0x00 ∷ 0x00 ∷ 0x00 ∷ []
  pub form_longer : fits (0x01 ∷ 0x02 ∷ []) (0x01 ∷ []) ≡ false
  pub page : group example_page ≡ page_head 3 2
  -- another byte in each of the fixed places, and in each of the free ones
  pub page_fixed : map (λ i. group (set example_page i 0x55)) (2 ∷ 3 ∷ 8 ∷ 9 ∷ 10 ∷ 11 ∷ 19 ∷ [])
      ≡ wrong_page_head ∷ wrong_page_head ∷ wrong_page_head ∷ wrong_page_head ∷ wrong_page_head ∷ wrong_page_head ∷ wrong_page_head ∷ []
  pub page_free : map (λ i. group (set example_page i 0x55)) (4 ∷ 5 ∷ 6 ∷ 7 ∷ 16 ∷ 17 ∷ 18 ∷ [])
      ≡ page_head 3 2 ∷ page_head 3 2 ∷ page_head 3 2 ∷ page_head 3 2 ∷ page_head 3 2 ∷ page_head 3 2 ∷ page_head 3 2 ∷ []
  pub least_page : group (page_front ++ (0x01 ∷ 0x00 ∷ 0x01 ∷ 0x00 ∷ []) ++ page_back 1) ≡ page_head 1 1
  pub low_byte_first : group (page_front ++ (0x9A ∷ 0x12 ∷ 0x7A ∷ 0x1A ∷ []) ++ page_back 0) ≡ page_head 4762 6778
  pub largest_page : group (page_front ++ (0xFF ∷ 0x3F ∷ 0xFF ∷ 0xFF ∷ []) ++ page_back 0) ≡ page_head 16383 65535
  pub width_over : group (page_front ++ (0x00 ∷ 0x40 ∷ 0x01 ∷ 0x00 ∷ []) ++ page_back 0) ≡ wrong_page_head
  pub width_0 : group (page_front ++ (0x00 ∷ 0x00 ∷ 0x01 ∷ 0x00 ∷ []) ++ page_back 0) ≡ wrong_page_head
  pub height_0 : group (page_front ++ (0x01 ∷ 0x00 ∷ 0x00 ∷ 0x00 ∷ []) ++ page_back 0) ≡ wrong_page_head
  pub toner_2 : group (page_front ++ (0x01 ∷ 0x00 ∷ 0x01 ∷ 0x00 ∷ []) ++ page_back 2) ≡ wrong_page_head
  pub page_cut : group (take 20 example_page) ≡ cut
  -- known by 11 00, and cut before it is wrong
  pub page_cut_first : group (0x11 ∷ 0x00 ∷ 0xFF ∷ 0xFF ∷ 0xFF ∷ 0xFF ∷ []) ≡ cut
  pub other_second_byte : group (0x11 ∷ 0x01 ∷ 0x0F ∷ 0x00 ∷ 0x00 ∷ 0x00 ∷ []) ≡ unknown
  pub a_block : group (0x12 ∷ 0x00 ∷ 0x6A ∷ 0x01 ∷ 0x00 ∷ 0x00 ∷ 0x41 ∷ []) ≡ block 0x016A
  pub not_a_block : map (λ i. group (set (0x12 ∷ 0x00 ∷ 0x6A ∷ 0x00 ∷ 0x00 ∷ 0x00 ∷ []) i 0x01)) (0 ∷ 1 ∷ 4 ∷ 5 ∷ [])
      ≡ unknown ∷ unknown ∷ unknown ∷ unknown ∷ []
  pub an_end : group (page_end_bytes ++ (0x99 ∷ [])) ≡ page_end
  pub not_an_end : map (λ i. group (set page_end_bytes i 0x01)) (1 ∷ 2 ∷ 3 ∷ 4 ∷ 5 ∷ []) ≡ unknown ∷ unknown ∷ unknown ∷ unknown ∷ unknown ∷ []
  pub last_end : group document_end_bytes ≡ document_end
  pub not_the_last_end : map (λ i. group (set document_end_bytes i 0x01)) (1 ∷ 2 ∷ 3 ∷ 4 ∷ 5 ∷ []) ≡ unknown ∷ unknown ∷ unknown ∷ unknown ∷ unknown ∷ []
  pub five_bytes : group (0x13 ∷ 0x00 ∷ 0x00 ∷ 0x00 ∷ 0x00 ∷ []) ≡ cut
  pub no_bytes : group [] ≡ cut

pub group_cases : GroupCases
unfolding fits codes head_bytes admitted fields group
group_cases = search
