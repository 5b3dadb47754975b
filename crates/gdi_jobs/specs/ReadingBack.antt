-- Reading back: two statements about what is written. A row written as a line is read back as that row; and a job that is written whole is a job,
-- whose lines are the rows of its pages.
use Rattle.std.specs.Prelude.{◌≡◌, refl, List, [], ◌∷◌, ◌++◌, map, ℕ, zero, suc, ◌+◌, ◌<◌, ◌≤◌, length, get_or}
use Rattle.std.proofs.Common.{lit<}
use Rattle.row.specs.Dots.{dot_in, dot_at}
use Rattle.row_runs.specs.Spare.{clear_from, spare_clear}
use Rattle.row.specs.Counts.{joined}
use Rattle.gdi_jobs.specs.Groups.{head_bytes, page_end_bytes, document_end_bytes, admitted, fields, example_page}
use Rattle.gdi_jobs.specs.Jobs.{longest, job_answer, pages, block_of}
use Rattle.gdi_jobs.specs.Lines.{line_bytes, line_at, row_after, LineAnswer, next_line, after_page, answer_of}
use Rattle.gdi_jobs.specs.Rows.{runs_from, runs, command_bytes, blocks, block_bytes, row_bytes}
use Rattle.gdi_jobs.specs.Writers.{writes, PageHead, page_head_bytes, page_head_writing, fits_width, row_writing, example_head}

-- ---- a row

-- the row writer takes the row, which is a list of bytes: with room enough it writes it
pub record TakesRow (width : ℕ) (row : List ℕ) : Type 0 where
  pub bytes : (i : ℕ) → get_or row i 0 < 256
  pub written : row_writing width row (length (row_bytes width row)) ≡ writes (row_bytes width row)

-- the line reader at a place of the job, with a buffer that is as long as the row and holds anything, answers a and leaves the row in the buffer
pub record ReadsRow (job : List ℕ) (offset left width : ℕ) (a : LineAnswer) (row : List ℕ) : Type 0 where
  pub answers : answer_of (line_at job offset left width (length row)) ≡ a
  pub leaves : (held : List ℕ) → row_after width (line_at job offset left width (length row)) held ≡ row

-- For every row that the writer takes, and any bytes before and after it within the length limit: the line reader at the start of what was written,
-- with 0 bytes left, answers that row and the place right after it with 0 bytes left.
unfoldable pub RowReadsBack : Type 0
RowReadsBack =
    (width : ℕ) (row before after : List ℕ) → TakesRow width row
    → let written = row_bytes width row in
    let job = before ++ (written ++ after) in
    length job ≤ longest → ReadsRow job (length before) 0 width (next_line (length before + length written) 0) row

-- ---- a job

-- a page to be written: its head and its rows
pub record Page : Type 0 where
  pub head : PageHead
  pub rows : List (List ℕ)

-- all of a list
pub data All {A : Type 0} (P : A → Type 0) : List A → Type 0 where
  none : All P []
  more : {x : A} {xs : List A} → P x → All P xs → All P (x ∷ xs)

-- the writers take the page: its head, and exactly height rows
pub record TakesPage (p : Page) : Type 0 where
  pub head_written : page_head_writing p.head 21 ≡ writes (page_head_bytes p.head)
  pub height : length p.rows ≡ p.head.height
  pub rows_written : All (TakesRow p.head.width) p.rows

-- the written rows of a page, end to end
unfoldable pub rows_bytes : Page → List ℕ
rows_bytes p = joined (map (row_bytes p.head.width) p.rows)

-- the page head, the rows, the page end
unfoldable pub page_bytes : Page → List ℕ
page_bytes p = page_head_bytes p.head ++ (rows_bytes p ++ page_end_bytes)

-- the head, the pages, the document end
unfoldable pub job_bytes : List Page → List ℕ
job_bytes ps = head_bytes ++ (joined (map page_bytes ps) ++ document_end_bytes)

-- the line reader, called again and again from the place (offset, left) on at the place that it answered before, reads just these rows, and the place
-- is (to, rest) then
pub data ReadsRows (job : List ℕ) (width : ℕ) : (offset left : ℕ) → List (List ℕ) → (to rest : ℕ) → Type 0 where
  no_more : {offset left : ℕ} → ReadsRows job width offset left [] offset left
  one_more : {offset left offset' left' to rest : ℕ} {row : List ℕ} {rows : List (List ℕ)} → ReadsRow job offset left width (next_line offset' left') row
      → ReadsRows job width offset' left' rows to rest → ReadsRows job width offset left (row ∷ rows) to rest

-- For every list of pages that the writers take, and whose job is within the length limit: the check passes the job with that number of pages, and
-- of each page the lines read back in order, from after its head on, are its rows; then the reader answers the page end.
pub record WrittenJob : Type 0 where
  pub passes : (ps : List Page) → All TakesPage ps → length (job_bytes ps) ≤ longest → job_answer (job_bytes ps) ≡ pages (length ps)
  pub reads : (before : List Page) (p : Page) (after : List Page) → All TakesPage (before ++ (p ∷ after))
      → let job = job_bytes (before ++ (p ∷ after)) in
      let width = p.head.width in
      let start = 86 + length (joined (map page_bytes before)) + 21 in
      let end = start + length (rows_bytes p) in
      length job ≤ longest
      → ReadsRows job width start 0 p.rows end 0
      × (answer_of (line_at job end 0 width (line_bytes width)) ≡ after_page (end + 6) 0)

-- ---- the premises are met

-- a page of two rows, black and white, for the page head that the worked cases of the writers have
abbrev two_rows : Page
two_rows = record { head = example_head; rows = (0xE0 ∷ []) ∷ (0x00 ∷ []) ∷ [] }

black_byte : (i : ℕ) → get_or (0xE0 ∷ []) i 0 < 256
black_byte zero = lit< tt
black_byte (suc i) = lit< tt

white_byte : (i : ℕ) → get_or (0x00 ∷ []) i 0 < 256
white_byte zero = lit< tt
white_byte (suc i) = lit< tt

pub record BackCases : Type 0 where
  pub a_page : TakesPage two_rows
  pub a_job : job_bytes (two_rows ∷ []) ≡ head_bytes ++ (example_page ++ (block_of 1 ++ (0x43 ∷ []) ++ block_of 1 ++ (0x03 ∷ []) ++ page_end_bytes) ++ document_end_bytes)

pub back_cases : BackCases
unfolding job_bytes page_bytes rows_bytes joined page_head_bytes page_head_writing fits_width row_writing line_bytes runs runs_from command_bytes blocks block_bytes row_bytes admitted fields spare_clear clear_from dot_at dot_in
back_cases =
    record {
      a_page = record {
        head_written = refl;
        height = refl;
        rows_written = more (record { bytes = black_byte; written = refl }) (more (record { bytes = white_byte; written = refl }) none);
      };
      a_job = refl;
    }
