-- The line reader: the commands of one line, and the row that they give. A line takes commands until their sum reaches the width; the last is
-- cropped.
use Rattle.std.specs.Prelude.{◌≡◌, refl, Bool, true, false, not, cond, ◌&&◌, List, [], ◌∷◌, ◌++◌, ℕ, zero, suc, ◌+◌, ◌-◌, ◌/◌, eqb, leb, ltb, length, drop}
use Rattle.row.specs.Dots.{byte_of, row_of}
use Rattle.gdi_jobs.specs.Commands.{Command, run, dots_of, command}
use Rattle.gdi_jobs.specs.Groups.{fits, admitted, fields, group, example_page, page_end_bytes, document_end_bytes}
use Rattle.gdi_jobs.specs.Pages.{Next, to_block, to_end, to_command, fault, next}
use Rattle.gdi_jobs.specs.Jobs.{longest, block_of}

-- ---- the row

-- the dot f of commands one after another: that of the command in which it falls, black being 1; 0 past the last
unfoldable pub line_dot : List Command → ℕ → Bool
line_dot [] f = false
line_dot (run black n ∷ cs) f = cond (ltb f n) black (line_dot cs (f - n))

-- a row has width / 8 bytes, rounded up
unfoldable pub line_bytes : ℕ → ℕ
line_bytes width = (width + 7) / 8

-- the row of a line: cropped at the width, spare bits 0
unfoldable pub line_row : ℕ → List Command → List ℕ
line_row width cs = row_of (line_bytes width) (λ f. ltb f width && line_dot cs f)

-- ---- the commands

-- a line's commands, with the next place (its offset, and the bytes that are left of its block); or the page end that stands where the line would
-- start, with the offset after it; or a refusal
pub data Line : Type 0 where
  line : List Command → (offset left : ℕ) → Line
  page_end : (offset : ℕ) → Line
  refused : (number place : ℕ) → Line

-- a command in front of those that follow it
abbrev pub with_command : Command → Line → Line
with_command c (line cs p left) = line (c ∷ cs) p left
with_command c (page_end p) = page_end p
with_command c (refused number p) = refused number p

-- What comes next at place p, and then what comes after its bytes: k is told whether the line has a command, the sum of its commands, the bytes left
-- of the block, and how many bytes to pass. The line ends with the command whose dots reach the width.
abbrev pub then_line : (width : ℕ) (started : Bool) (sum left p : ℕ) → Next → (Bool → ℕ → ℕ → ℕ → Line) → Line
then_line width started sum left p (to_block size) k = k started sum size 6
then_line width started sum left p to_end k = page_end (p + 6)
then_line width started sum left p (to_command c n) k =
    with_command c (cond (leb width (sum + dots_of c)) (line [] (p + n) (left - n)) (k true (sum + dots_of c) (left - n) n))
then_line width started sum left p (fault number i) k = refused number (p + i)

-- the bytes that the job has from place p on, after `skip` bytes that still belong to what stands before; 24 where the job ends. The page may end
-- only before the line's first command, and it is never full: no line is counted.
unfoldable pub line_from : (width : ℕ) (started : Bool) (sum left skip place : ℕ) → List ℕ → Line
line_from width started sum left skip p [] = refused 24 p
line_from width started sum left (suc k) p (b ∷ bs) = line_from width started sum left k (suc p) bs
line_from width started sum left zero p (b ∷ bs) =
    then_line width started sum left p (next false (not started) left (b ∷ bs)) (λ t s l n. line_from width t s l (n - 1) (suc p) bs)

-- ---- the answer

-- What is read at the place (offset, left) of a job for a row buffer of n bytes: 27 for width and buffer comes first, then 1, then 24 for an offset
-- past the job.
unfoldable pub line_at : (job : List ℕ) (offset left width n : ℕ) → Line
line_at job offset left width n =
    cond (not (admitted width)) (refused 27 0)
    (cond (not (eqb n (line_bytes width))) (refused 27 0)
    (cond (ltb longest (length job)) (refused 1 0)
    (cond (ltb (length job) offset) (refused 24 (length job))
    (line_from width false 0 left 0 offset (drop offset job)))))

-- what the row buffer holds then: the line's row, or what it held
unfoldable pub row_after : (width : ℕ) → Line → (held : List ℕ) → List ℕ
row_after width (line cs p left) held = line_row width cs
row_after width (page_end p) held = held
row_after width (refused number p) held = held

-- the numbers of the answer: the next place after a line or a page end, or a refusal
pub data LineAnswer : Type 0 where
  next_line : (offset left : ℕ) → LineAnswer
  after_page : (offset left : ℕ) → LineAnswer
  refusal : (number place : ℕ) → LineAnswer

abbrev pub answer_of : Line → LineAnswer
answer_of (line cs p left) = next_line p left
answer_of (page_end p) = after_page p 0
answer_of (refused number p) = refusal number p

-- ---- worked cases

-- one dot of black, two of white and nine of black, with a command of no dots between
abbrev example_line : List Command
example_line = run true 1 ∷ run false 2 ∷ run true 0 ∷ run true 9 ∷ []

pub record LineCases : Type 0 where
  pub dots : line_row 16 example_line ≡ 0x9F ∷ 0xF0 ∷ []
  pub cropped : line_row 5 example_line ≡ 0x98 ∷ []
  pub as_wide_as_a_byte : line_row 8 (run true 99 ∷ []) ≡ 0xFF ∷ []
  pub a_byte_more : line_row 9 (run true 99 ∷ []) ≡ 0xFF ∷ 0x80 ∷ []
  pub one_line : line_at (0x41 ∷ 0x02 ∷ 0x7F ∷ 0x03 ∷ []) 0 9 5 1 ≡ line (run true 1 ∷ run false 2 ∷ run true 63 ∷ []) 3 6
  pub three_commands : line_at (0x41 ∷ 0x01 ∷ 0x41 ∷ 0x3F ∷ []) 0 9 3 1 ≡ line (run true 1 ∷ run false 1 ∷ run true 1 ∷ []) 3 6
  -- a block head, a line that just reaches the width, and no look at what comes after it
  pub from_gap : line_at (block_of 1 ++ (0x43 ∷ [])) 0 0 3 1 ≡ line (run true 3 ∷ []) 7 0
  pub over_blocks : line_at (0x02 ∷ (block_of 0 ++ block_of 4 ++ (0x41 ∷ []))) 0 1 3 1 ≡ line (run false 2 ∷ run true 1 ∷ []) 14 3
  pub page_end_case : line_at (block_of 0 ++ page_end_bytes) 0 0 3 1 ≡ page_end 12
  -- a command without dots starts the line too
  pub end_inside : line_at (block_of 1 ++ (0x00 ∷ []) ++ page_end_bytes) 0 0 3 1 ≡ refused 25 7
  pub late_fault : line_at (block_of 9 ++ (0x48 ∷ [])) 0 0 16 2 ≡ refused 24 7
  pub second_past_block : line_at (0x80 ∷ 0x01 ∷ []) 0 1 3 1 ≡ refused 24 0
  pub second_past_job : line_at (0x80 ∷ []) 0 500 3 1 ≡ refused 24 1
  pub page_head_case : line_at example_page 0 0 3 1 ≡ refused 23 0
  pub document_end_case : line_at document_end_bytes 0 0 3 1 ≡ refused 23 0
  pub at_the_end : line_at (0x41 ∷ []) 1 7 3 1 ≡ refused 24 1
  pub offset_past : line_at (0x41 ∷ []) 3 7 3 1 ≡ refused 24 1
  pub width_0 : line_at (0x41 ∷ []) 3 7 0 0 ≡ refused 27 0
  pub width_over : line_at (0x41 ∷ []) 3 7 16384 2048 ≡ refused 27 0
  pub width_most : line_at (0xFF ∷ 0xFF ∷ []) 0 2 16383 2048 ≡ line (run true 16383 ∷ []) 2 0
  pub row_longer : line_at (0x41 ∷ []) 3 7 8 2 ≡ refused 27 0
  pub row_shorter : line_at (0x41 ∷ []) 3 7 9 1 ≡ refused 27 0
  pub row_written : row_after 3 (line (run true 63 ∷ []) 7 0) (0xEE ∷ []) ≡ 0xE0 ∷ []
  pub row_stays : row_after 3 (refused 24 7) (0xEE ∷ []) ≡ 0xEE ∷ []
  pub row_stays_too : row_after 3 (page_end 12) (0xEE ∷ []) ≡ 0xEE ∷ []
  pub answer_line : answer_of (line [] 7 2) ≡ next_line 7 2
  pub answer_page_end : answer_of (page_end 12) ≡ after_page 12 0
  pub answer_refused : answer_of (refused 24 7) ≡ refusal 24 7

pub line_cases : LineCases
unfolding line_at line_from row_after line_row line_bytes line_dot byte_of row_of next command group fits admitted fields
line_cases = search

-- a job over the limit, whatever it holds and whatever the place
pub too_long : (job : List ℕ) (offset left : ℕ) → ltb longest (length job) ≡ true → line_at job offset left 3 1 ≡ refused 1 0
unfolding line_at line_bytes admitted
too_long job offset left e = rw e refl
