-- The job check: a walk over the job, a step at a time over a small state. A job is its head, any number of pages, and the document end; a page
-- is its page head, blocks, and the page end.
use Rattle.std.specs.Prelude.{◌≡◌, refl, true, false, cond, List, [], ◌∷◌, ◌++◌, ℕ, zero, suc, ◌+◌, ◌-◌, eqb, leb, ltb, length, take}
use Rattle.gdi_jobs.specs.Commands.{dots_of, command}
use Rattle.gdi_jobs.specs.Groups.{Group, cut, page_head, wrong_page_head, block, page_end, document_end, unknown, fits, codes, head_bytes, admitted, fields, group, example_page, page_end_bytes, document_end_bytes}
use Rattle.gdi_jobs.specs.Pages.{Next, to_block, to_end, to_command, fault, next}

-- a job has at most so many bytes
abbrev pub longest : ℕ
longest = 16777216

-- ---- where the walk stands

pub data State : Type 0 where
  -- between pages, with so many of them passed
  between : (pages : ℕ) → State
  -- in a page of this width and height: how many of its lines are whole, the sum of the commands of the line that is not, and the bytes that are
  -- left of the block
  in_page : (pages width height lines sum left : ℕ) → State

-- on to a state, past so many bytes; or the job is done; or a refusal, with the offset of its place from here
pub data Step : Type 0 where
  onward : State → (bytes : ℕ) → Step
  done : (pages : ℕ) → Step
  stop : (number offset : ℕ) → Step

-- ---- a step

-- Between pages a group stands, of which the job has n bytes from here on: a page head, or the document end, after which no byte may come.
abbrev pub step_between : (pages n : ℕ) → Group → Step
step_between pages n cut = stop 24 n
step_between pages n (page_head width height) = onward (in_page pages width height 0 0 0) 21
step_between pages n wrong_page_head = stop 22 0
step_between pages n (block size) = stop 23 0
step_between pages n page_end = stop 23 0
step_between pages n document_end = cond (ltb 6 n) (stop 26 6) (done pages)
step_between pages n unknown = stop 23 0

-- A line is whole where the sum of its commands reaches the width; what is over belongs to no line.
abbrev pub with_sum : (pages width height lines sum left : ℕ) → State
with_sum pages width height lines sum left =
    cond (leb width sum) (in_page pages width height (lines + 1) 0 left) (in_page pages width height lines sum left)

-- in a page, by what comes next
abbrev pub step_in_page : (pages width height lines sum left : ℕ) → Next → Step
step_in_page pages width height lines sum left (to_block size) = onward (in_page pages width height lines sum size) 6
step_in_page pages width height lines sum left to_end = onward (between (pages + 1)) 6
step_in_page pages width height lines sum left (to_command c n) = onward (with_sum pages width height lines (sum + dots_of c) (left - n)) n
step_in_page pages width height lines sum left (fault number i) = stop number i

-- with the bytes that the job has from here on; a page is full, and may end, where it has height lines
unfoldable pub step : State → List ℕ → Step
step (between pages) bs = step_between pages (length bs) (group bs)
step (in_page pages width height lines sum left) bs =
    let full = eqb lines height in
    step_in_page pages width height lines sum left (next full full left bs)

-- ---- the walk

-- the number of pages, or a refusal
pub data JobAnswer : Type 0 where
  pages : (count : ℕ) → JobAnswer
  refused : (number place : ℕ) → JobAnswer

-- a step at place p, and then what comes after its bytes
abbrev pub then_walk : ℕ → Step → (State → ℕ → JobAnswer) → JobAnswer
then_walk p (onward s n) k = k s n
then_walk p (done n) k = pages n
then_walk p (stop number i) k = refused number (p + i)

-- the bytes that the job has from place p on, after `skip` bytes that still belong to the step before; 24 where the job ends
unfoldable pub walk : State → (skip place : ℕ) → List ℕ → JobAnswer
walk s skip p [] = refused 24 p
walk s (suc k) p (b ∷ bs) = walk s k (suc p) bs
walk s zero p (b ∷ bs) = then_walk p (step s (b ∷ bs)) (λ t n. walk t (n - 1) (suc p) bs)

-- the head's bytes, one by one: 21 at the first that differs, 24 where the job ends before it does; then the pages
unfoldable pub walk_head : (place : ℕ) (head bytes : List ℕ) → JobAnswer
walk_head p [] bs = walk (between 0) 0 p bs
walk_head p (h ∷ head) [] = refused 24 p
walk_head p (h ∷ head) (b ∷ bs) = cond (eqb b h) (walk_head (suc p) head bs) (refused 21 p)

-- what the check answers for every byte string offered as a job
unfoldable pub job_answer : List ℕ → JobAnswer
job_answer job = cond (ltb longest (length job)) (refused 1 0) (walk_head 0 head_bytes job)

-- ---- worked cases

-- what is said of a job with these bytes after its head
abbrev after : List ℕ → JobAnswer
after bs = job_answer (head_bytes ++ bs)

-- with a page of width 3 and height 2, whose bytes start at 107
abbrev inside : List ℕ → JobAnswer
inside bs = after (example_page ++ bs)

-- the head of a block of n bytes, less than 256
abbrev pub block_of : ℕ → List ℕ
block_of n = 0x12 ∷ 0x00 ∷ n ∷ 0x00 ∷ 0x00 ∷ 0x00 ∷ []

abbrev ends : List ℕ
ends = page_end_bytes ++ document_end_bytes

pub record JobCases : Type 0 where
  pub no_pages : after document_end_bytes ≡ pages 0
  pub one_page_case : inside (block_of 2 ++ (0x43 ∷ 0x03 ∷ []) ++ ends) ≡ pages 1
  pub two_pages_case : inside (block_of 2 ++ (0x43 ∷ 0x03 ∷ []) ++ page_end_bytes ++ example_page ++ block_of 2 ++ (0x7F ∷ 0x3F ∷ []) ++ ends) ≡ pages 2
  -- a line over two blocks, empty blocks, commands without dots
  pub blocks_crossed : inside (block_of 0 ++ block_of 2 ++ (0x00 ∷ 0x02 ∷ []) ++ block_of 0 ++ block_of 2 ++ (0x41 ∷ 0x7F ∷ []) ++ block_of 0 ++ ends) ≡ pages 1
  -- what is over of a cropped command is not in the next line
  pub cropped : inside (block_of 2 ++ (0x7F ∷ 0x01 ∷ []) ++ ends) ≡ refused 25 115
  pub empty : job_answer [] ≡ refused 24 0
  pub head_cut : job_answer (take 85 head_bytes) ≡ refused 24 85
  pub head_differs : job_answer (0x29 ∷ 0x20 ∷ 0x53 ∷ 0x78 ∷ []) ≡ refused 21 3
  pub head_alone : after [] ≡ refused 24 86
  pub cut_group : after (0xFF ∷ 0xFF ∷ 0xFF ∷ 0xFF ∷ 0xFF ∷ []) ≡ refused 24 91
  pub unknown_group : after (0xFF ∷ 0xFF ∷ 0xFF ∷ 0xFF ∷ 0xFF ∷ 0xFF ∷ []) ≡ refused 23 86
  pub end_between : after page_end_bytes ≡ refused 23 86
  pub block_between : after (block_of 0) ≡ refused 23 86
  pub cut_page_head : after (take 20 example_page) ≡ refused 24 106
  pub wrong_page_head_case : after (0x11 ∷ 0x00 ∷ 0x0E ∷ take 18 example_page) ≡ refused 22 86
  pub bytes_after : after (document_end_bytes ++ (0x00 ∷ [])) ≡ refused 26 92
  pub early_end : inside ends ≡ refused 25 107
  pub end_inside_line : inside (block_of 2 ++ (0x43 ∷ 0x02 ∷ []) ++ ends) ≡ refused 25 115
  pub command_after : inside (block_of 3 ++ (0x43 ∷ 0x03 ∷ 0x80 ∷ []) ++ ends) ≡ refused 25 115
  pub block_after : inside (block_of 2 ++ (0x43 ∷ 0x03 ∷ []) ++ block_of 1 ++ (0x00 ∷ []) ++ ends) ≡ refused 25 121
  -- a byte that is missing after the lines is no command
  pub missing_after : inside (block_of 3 ++ (0x43 ∷ 0x03 ∷ [])) ≡ refused 24 115
  pub second_past_block : inside (block_of 1 ++ (0x80 ∷ []) ++ ends) ≡ refused 24 113
  pub second_past_job : inside (block_of 2 ++ (0x80 ∷ [])) ≡ refused 24 114
  pub page_in_page : inside example_page ≡ refused 23 107
  pub cut_page_in_page : inside (take 20 example_page) ≡ refused 24 127
  pub limit : ltb longest 16777216 ≡ false
  pub over_limit : ltb longest 16777217 ≡ true

pub job_cases : JobCases
unfolding job_answer walk_head walk step next command group fits codes head_bytes admitted fields
job_cases = search

-- a job over the limit, whatever it holds
pub too_long : (job : List ℕ) → ltb longest (length job) ≡ true → job_answer job ≡ refused 1 0
unfolding job_answer
too_long job e = rw e refl
