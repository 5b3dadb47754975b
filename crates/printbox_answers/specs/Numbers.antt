-- The numbers of an answer, for callers in C and Rust: its kind and two values. Kind 0: done; kind 1: refused, with number and place; kind 2: page end,
-- with the next place.
use Rattle.std.specs.Prelude.{◌≡◌, List, [], ◌∷◌, ℕ}
use Rattle.refusal.specs.Answers as answers
use Rattle.film_check.specs.Check as sheet
use Rattle.film_drawing.specs.Promise as draw
use Rattle.gdi_jobs.specs.Jobs as jobs
use Rattle.gdi_jobs.specs.Lines as lines
use Rattle.gdi_jobs.specs.Writers as writers
use Rattle.gdi_write.specs.Paper as paper

-- ---- the three kinds

abbrev pub done : (a b : ℕ) → List ℕ
done a b = 0 ∷ a ∷ b ∷ []

abbrev pub refused : (number place : ℕ) → List ℕ
refused number place = 1 ∷ number ∷ place ∷ []

abbrev pub page_end : (offset left : ℕ) → List ℕ
page_end offset left = 2 ∷ offset ∷ left ∷ []

-- ---- each answer

-- the check of a sheet: pages
abbrev pub of_check : sheet.CheckAnswer → List ℕ
of_check (answers.given count) = done count 0
of_check (answers.refused number place) = refused number place

-- a draw: rows and dots
abbrev pub of_draw : answers.Answer draw.Counts → List ℕ
of_draw (answers.given d) = done d.rows d.dots
of_draw (answers.refused number place) = refused number place

-- the check of a job: pages
abbrev pub of_job : jobs.JobAnswer → List ℕ
of_job (jobs.pages count) = done count 0
of_job (jobs.refused number place) = refused number place

-- a line: the next place
abbrev pub of_line : lines.LineAnswer → List ℕ
of_line (lines.next_line offset left) = done offset left
of_line (lines.after_page offset left) = page_end offset left
of_line (lines.refusal number place) = refused number place

-- a writer: bytes written
abbrev pub of_writing : writers.WriteAnswer → List ℕ
of_writing (writers.wrote bytes) = done bytes 0
of_writing (writers.refused number place) = refused number place

-- paper: the command of a white line
abbrev pub of_fill : paper.FillAnswer → List ℕ
of_fill (paper.command n) = done n 0
of_fill (paper.refused number place) = refused number place

-- ---- worked cases

pub record NumberCases : Type 0 where
  pub sheet_passed : of_check (answers.given 3) ≡ 0 ∷ 3 ∷ 0 ∷ []
  pub sheet_refused : of_check (answers.refused 7 14) ≡ 1 ∷ 7 ∷ 14 ∷ []
  pub band_drawn : of_draw (draw.done 2 3) ≡ 0 ∷ 2 ∷ 3 ∷ []
  pub draw_refused : of_draw (answers.refused 6 13) ≡ 1 ∷ 6 ∷ 13 ∷ []
  pub job_passed : of_job (jobs.pages 3) ≡ 0 ∷ 3 ∷ 0 ∷ []
  pub job_refused : of_job (jobs.refused 24 86) ≡ 1 ∷ 24 ∷ 86 ∷ []
  pub line_read : of_line (lines.next_line 114 5) ≡ 0 ∷ 114 ∷ 5 ∷ []
  pub at_page_end : of_line (lines.after_page 119 4) ≡ 2 ∷ 119 ∷ 4 ∷ []
  pub line_refused : of_line (lines.refusal 25 113) ≡ 1 ∷ 25 ∷ 113 ∷ []
  pub written : of_writing (writers.wrote 86) ≡ 0 ∷ 86 ∷ 0 ∷ []
  pub writing_refused : of_writing (writers.refused 27 9) ≡ 1 ∷ 27 ∷ 9 ∷ []
  pub filled : of_fill (paper.command 0x9A4A) ≡ 0 ∷ 39498 ∷ 0 ∷ []
  pub fill_refused : of_fill (paper.refused 27 9) ≡ 1 ∷ 27 ∷ 9 ∷ []

pub number_cases : NumberCases
number_cases = search
