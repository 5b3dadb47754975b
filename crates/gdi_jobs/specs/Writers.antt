-- The writers: what each puts at the beginning of its output, or the refusal that it gives. Every refusal of a writer has place 0.
use Rattle.std.specs.Prelude.{◌≡◌, Bool, ◌&&◌, cond, List, [], ◌∷◌, ◌++◌, ℕ, ◌+◌, ◌*◌, ◌/◌, ◌%◌, eqb, leb, length, drop}
use Rattle.row.specs.Dots as dots
use Rattle.row.specs.Dots.{dot_at}
use Rattle.row_runs.specs.Spare.{clear_from, spare_clear}
use Rattle.row.specs.Counts.{joined}
use Rattle.gdi_jobs.specs.Groups.{codes, head_bytes, page_end_bytes, document_end_bytes, admitted, fields, example_page}
use Rattle.gdi_jobs.specs.Lines.{line_bytes}
use Rattle.gdi_jobs.specs.Rows.{runs_from, runs, command_bytes, blocks, block_bytes, row_bytes}

-- the bytes that are written, or a refusal
pub data Writing : Type 0 where
  writes : List ℕ → Writing
  refuses : (number place : ℕ) → Writing

-- 27 where the output has fewer bytes than are to be written; it has `room` bytes
abbrev pub in_room : List ℕ → (room : ℕ) → Writing
in_room bs room = cond (leb (length bs) room) (writes bs) (refuses 27 0)

-- ---- heads and ends

unfoldable pub head_writing : (room : ℕ) → Writing
head_writing room = in_room head_bytes room

unfoldable pub page_end_writing : (room : ℕ) → Writing
page_end_writing room = in_room page_end_bytes room

unfoldable pub document_end_writing : (room : ℕ) → Writing
document_end_writing room = in_room document_end_bytes room

-- what a page head tells
pub record PageHead : Type 0 where
  pub tray : ℕ
  pub width : ℕ
  pub height : ℕ
  pub format : ℕ
  pub paper_type : ℕ
  pub copies : ℕ
  pub toner : ℕ

-- a number of two bytes, low byte first
abbrev pub two_bytes : ℕ → List ℕ
two_bytes n = n % 256 ∷ n / 256 ∷ []

-- a number of four bytes, low byte first
abbrev pub four_bytes : ℕ → List ℕ
four_bytes n = n % 256 ∷ n / 256 % 256 ∷ n / 65536 % 256 ∷ n / 16777216 ∷ []

-- 11 00 0F 00, tray (4), 04 04 00 00, width, height (2 each), format, paper type, copies, 00, toner
unfoldable pub page_head_bytes : PageHead → List ℕ
page_head_bytes h =
    (0x11 ∷ 0x00 ∷ 0x0F ∷ 0x00 ∷ []) ++ four_bytes h.tray ++ (0x04 ∷ 0x04 ∷ 0x00 ∷ 0x00 ∷ []) ++ two_bytes h.width ++ two_bytes h.height
    ++ (h.format ∷ h.paper_type ∷ h.copies ∷ 0x00 ∷ h.toner ∷ [])

-- 22 for width, height or toner, then 27 for the output
unfoldable pub page_head_writing : PageHead → (room : ℕ) → Writing
page_head_writing h room = cond (fields h.width h.height h.toner) (in_room (page_head_bytes h) room) (refuses 22 0)

-- ---- a row

-- whether a row has just the bytes of its width, and no spare bit is set
unfoldable pub fits_width : (row : List ℕ) (width : ℕ) → Bool
fits_width row width = eqb (length row) (line_bytes width) && spare_clear row width

-- 27 for the width and the row, then 27 for the output
unfoldable pub row_writing : (width : ℕ) (row : List ℕ) (room : ℕ) → Writing
row_writing width row room = cond (admitted width && fits_width row width) (in_room (row_bytes width row) room) (refuses 27 0)

-- ---- paper

-- the command of a white line, as a number whose high byte comes first: 80 hex and the width's low six bits, then the rest of the width
unfoldable pub linefill_of : ℕ → ℕ
linefill_of width = (0x80 + width % 64) * 256 + width / 64

-- ---- the answer

-- the number of bytes that were written, or a refusal
pub data WriteAnswer : Type 0 where
  wrote : (bytes : ℕ) → WriteAnswer
  refused : (number place : ℕ) → WriteAnswer

abbrev pub answer_of : Writing → WriteAnswer
answer_of (writes bs) = wrote (length bs)
answer_of (refuses number p) = refused number p

-- what the output holds then: the bytes, and what it held beyond them; all that it held after a refusal
abbrev pub output_after : Writing → (held : List ℕ) → List ℕ
output_after (writes bs) held = bs ++ drop (length bs) held
output_after (refuses number p) held = held

-- ---- worked cases

-- tray 1, width 3, height 2, format 4, paper type 3, copies 7, toner 1
abbrev pub example_head : PageHead
example_head = record { tray = 1; width = 3; height = 2; format = 4; paper_type = 3; copies = 7; toner = 1 }

pub record WriterCases : Type 0 where
  pub head : head_writing 86 ≡ writes head_bytes
  pub head_short : head_writing 85 ≡ refuses 27 0
  pub page_end_case : page_end_writing 6 ≡ writes (0x13 ∷ 0 ∷ 0 ∷ 0 ∷ 0 ∷ 0 ∷ [])
  pub page_end_short : page_end_writing 5 ≡ refuses 27 0
  pub document_end_case : document_end_writing 6 ≡ writes (0x14 ∷ 0 ∷ 0 ∷ 0 ∷ 0 ∷ 0 ∷ [])
  pub document_end_short : document_end_writing 5 ≡ refuses 27 0
  pub page_head_case : page_head_writing example_head 21 ≡ writes example_page
  pub page_head_short : page_head_writing example_head 20 ≡ refuses 27 0
  pub low_byte_first :
      page_head_bytes (record { tray = 0x04030201; width = 0x1234; height = 0xABCD; format = 8; paper_type = 0; copies = 0; toner = 0 })
      ≡ 0x11 ∷ 0x00 ∷ 0x0F ∷ 0x00 ∷ 0x01 ∷ 0x02 ∷ 0x03 ∷ 0x04 ∷ 0x04 ∷ 0x04 ∷ 0x00 ∷ 0x00 ∷ 0x34 ∷ 0x12 ∷ 0xCD ∷ 0xAB ∷ 0x08 ∷ 0x00 ∷ 0x00 ∷ 0x00 ∷ 0x00 ∷ []
  -- 22 before 27
  pub width_0 : page_head_writing (record { tray = 0; width = 0; height = 1; format = 0; paper_type = 0; copies = 1; toner = 0 }) 0 ≡ refuses 22 0
  pub width_over : page_head_writing (record { tray = 0; width = 16384; height = 1; format = 0; paper_type = 0; copies = 1; toner = 0 }) 21 ≡ refuses 22 0
  pub height_0 : page_head_writing (record { tray = 0; width = 1; height = 0; format = 0; paper_type = 0; copies = 1; toner = 0 }) 21 ≡ refuses 22 0
  pub toner_2 : page_head_writing (record { tray = 0; width = 1; height = 1; format = 0; paper_type = 0; copies = 1; toner = 2 }) 21 ≡ refuses 22 0
  pub row : row_writing 3 (0xE0 ∷ []) 7 ≡ writes (0x12 ∷ 0x00 ∷ 0x01 ∷ 0x00 ∷ 0x00 ∷ 0x00 ∷ 0x43 ∷ [])
  pub row_short_output : row_writing 3 (0xE0 ∷ []) 6 ≡ refuses 27 0
  pub row_width_0 : row_writing 0 [] 9 ≡ refuses 27 0
  pub row_shorter : row_writing 9 (0xE0 ∷ []) 9 ≡ refuses 27 0
  pub row_longer : row_writing 3 (0xE0 ∷ 0x00 ∷ []) 9 ≡ refuses 27 0
  pub row_spare_bit : row_writing 3 (0xF0 ∷ []) 9 ≡ refuses 27 0
  pub a4 : linefill_of 4762 ≡ 0x9A4A
  pub a5 : linefill_of 3298 ≡ 0xA233
  pub letter : linefill_of 4900 ≡ 0xA44C
  pub monarch : linefill_of 2128 ≡ 0x9021
  pub narrow : linefill_of 30 ≡ 0x9E00
  pub widest : linefill_of 16383 ≡ 0xBFFF
  pub count : answer_of (writes (7 ∷ 8 ∷ [])) ≡ wrote 2
  pub refusal : answer_of (refuses 27 0) ≡ refused 27 0
  pub beyond : output_after (writes (7 ∷ 8 ∷ [])) (1 ∷ 2 ∷ 3 ∷ 4 ∷ []) ≡ 7 ∷ 8 ∷ 3 ∷ 4 ∷ []
  pub stays : output_after (refuses 27 0) (1 ∷ 2 ∷ []) ≡ 1 ∷ 2 ∷ []

pub writer_cases : WriterCases
unfolding head_writing page_end_writing document_end_writing page_head_writing page_head_bytes fits_width row_writing linefill_of line_bytes runs runs_from command_bytes blocks block_bytes row_bytes joined codes head_bytes admitted fields spare_clear clear_from dot_at dots.dot_in
writer_cases = search
