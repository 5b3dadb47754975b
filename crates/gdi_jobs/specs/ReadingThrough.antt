-- Reading through: one statement about every job that the check passes, whoever wrote it. The line reader goes through all of its pages and is never
-- refused.
use Rattle.std.specs.Prelude.{◌≡◌, refl, List, [], ◌∷◌, ◌++◌, ℕ, suc, ◌+◌, length, drop}
use Rattle.gdi_jobs.specs.Commands.{command}
use Rattle.gdi_jobs.specs.Groups.{fits, codes, head_bytes, admitted, fields, page_head, document_end, group, example_page, page_end_bytes, document_end_bytes}
use Rattle.gdi_jobs.specs.Pages.{next}
use Rattle.gdi_jobs.specs.Jobs.{job_answer, pages, block_of}
use Rattle.gdi_jobs.specs.Lines.{line_bytes, line_from, line_at, next_line, after_page, answer_of}

-- the line reader, called again and again from the place (offset, left) on at the place that it answered before, with a row buffer of the right length,
-- reads just so many lines and then the page end; after it stands the place `to`
pub data ReadsPage (job : List ℕ) (width : ℕ) : (lines offset left to : ℕ) → Type 0 where
  the_end : {offset left to : ℕ} → answer_of (line_at job offset left width (line_bytes width)) ≡ after_page to 0 → ReadsPage job width 0 offset left to
  one_line : {lines offset left offset' left' to : ℕ} → answer_of (line_at job offset left width (line_bytes width)) ≡ next_line offset' left'
      → ReadsPage job width lines offset' left' to → ReadsPage job width (suc lines) offset left to

-- n pages from place p on: a page head stands there, height lines are read from after it on, and the others begin after its page end. After the last
-- page the document end stands, and the job is over.
pub data ReadsPages (job : List ℕ) : (n p : ℕ) → Type 0 where
  no_page : {p : ℕ} → group (drop p job) ≡ document_end → p + 6 ≡ length job → ReadsPages job 0 p
  one_page_case : {n p width height to : ℕ} → group (drop p job) ≡ page_head width height → ReadsPage job width height (p + 21) 0 to
      → ReadsPages job n to → ReadsPages job (suc n) p

pub record ReadThrough : Type 0 where
  -- For every job that the check passes with n pages: they are read through, from after the head on.
  pub passed : (job : List ℕ) (n : ℕ) → job_answer job ≡ pages n → ReadsPages job n 86
  -- A job is read through in one way only: the same pages, and of each page the same lines up to the same place.
  pub one_count : (job : List ℕ) (p n m : ℕ) → ReadsPages job n p → ReadsPages job m p → n ≡ m
  pub one_way : (job : List ℕ) (width offset left l m to to' : ℕ) → ReadsPage job width l offset left to → ReadsPage job width m offset left to'
      → (l ≡ m) × (to ≡ to')

-- ---- a worked case

-- a page of width 3 and height 2 that no writer here writes: an empty block, a line over two blocks with a command of no dots in it, a line whose last
-- command is cropped, and an empty block before the page end
abbrev another_job : List ℕ
another_job =
    head_bytes ++ (example_page ++ block_of 0 ++ block_of 1 ++ (0x02 ∷ []) ++ block_of 3 ++ (0x40 ∷ 0x41 ∷ 0x7F ∷ []) ++ block_of 0 ++ page_end_bytes ++ document_end_bytes)

pub record ThroughCases : Type 0 where
  pub another : ReadsPages another_job 1 86

pub through_cases : ThroughCases
unfolding line_at line_from line_bytes next command group fits codes head_bytes admitted fields
through_cases = record { another = one_page_case refl (one_line refl (one_line refl (the_end refl))) (no_page refl refl) }
