-- The numbers of a code's answer are those of the answer that it stands for. Assumes nothing.
use Rattle.std.proofs.Common.{◌≡◌, refl, List, ℕ, Result, Ok, Err}
use Rattle.refusal.specs.Answers as answers
use Rattle.gdi_jobs.specs.Jobs as jobs
use Rattle.gdi_jobs.specs.Lines as lines
use Rattle.gdi_jobs.specs.Writers as writers
use Rattle.gdi_write.specs.Paper as paper
use Rattle.refusal.specs.declared.Refusal.{Refusal}
use Rattle.film_check.specs.Promise.{checked_as}
use Rattle.film_drawing.specs.Promise as draw
use Rattle.film_drawing.specs.declared.Drawn.{Drawn}
use Rattle.gdi_check.specs.Answers as check
use Rattle.gdi_read.specs.Answers as read
use Rattle.gdi_read.specs.declared.LineRead.{LineRead}
use Rattle.gdi_read.specs.declared.LineRead.TheVariants.{Line, PageEnd}
use Rattle.gdi_write.specs.Answers as write
use Rattle.printbox_answers.specs.Numbers.{done, of_check, of_draw, of_job, of_line, of_writing, of_fill}
use Rattle.printbox_answers.specs.Code.{line_values, told_refusal, told_number, numbers_of}

pub sheet_numbers : (r : Result ℕ Refusal) → numbers_of (λ n. done n 0) told_refusal r ≡ of_check (checked_as r)
sheet_numbers (Ok n) = refl
sheet_numbers (Err r) = refl

pub draw_numbers : (r : Result Drawn Refusal) → numbers_of (λ d. done d.rows d.dots) told_refusal r ≡ of_draw (draw.drawn_as r)
draw_numbers (Ok d) = refl
draw_numbers (Err r) = refl

pub job_numbers : (r : Result ℕ Refusal) → numbers_of (λ n. done n 0) told_refusal r ≡ of_job (check.checked_as r)
job_numbers (Ok n) = refl
job_numbers (Err r) = refl

pub line_numbers : (r : Result LineRead Refusal) → numbers_of line_values told_refusal r ≡ of_line (read.line_read_as r)
line_numbers (Ok (Line offset left)) = refl
line_numbers (Ok (PageEnd offset left)) = refl
line_numbers (Err r) = refl

pub writing_numbers : (r : Result ℕ Refusal) → numbers_of (λ n. done n 0) told_refusal r ≡ of_writing (write.written_as r)
writing_numbers (Ok n) = refl
writing_numbers (Err r) = refl

pub fill_numbers : (r : Result ℕ Refusal) → numbers_of (λ n. done n 0) told_refusal r ≡ of_fill (write.filled_as r)
fill_numbers (Ok n) = refl
fill_numbers (Err r) = refl

-- a refusal by any number is told as each entry tells a refusal of that number
pub told_by_number : {T : Type 0} → (values : T → List ℕ) (number place : ℕ) →
    (numbers_of values told_number (Err (number, place)) ≡ of_check (answers.refused number place)) ×
    (numbers_of values told_number (Err (number, place)) ≡ of_draw (answers.refused number place)) ×
    (numbers_of values told_number (Err (number, place)) ≡ of_job (jobs.refused number place)) ×
    (numbers_of values told_number (Err (number, place)) ≡ of_line (lines.refusal number place)) ×
    (numbers_of values told_number (Err (number, place)) ≡ of_writing (writers.refused number place)) ×
    (numbers_of values told_number (Err (number, place)) ≡ of_fill (paper.refused number place))
told_by_number values number place = (refl, refl, refl, refl, refl, refl)
