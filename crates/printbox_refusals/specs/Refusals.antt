-- The refusals that an entry can give: of each entry the numbers that host/include/printbox.h names for it, for every input.
use Rattle.std.specs.Prelude.{◌≡◌, refl, Bool, true, false, not, ◌||◌, List, [], ◌∷◌, ℕ, eqb, get_or}
use Rattle.film_check.specs.Check.{check_answer}
use Rattle.film_drawing.specs.Draw.{draw_answer}
use Rattle.film_drawing.specs.Promise.{due}
use Rattle.gdi_jobs.specs.Jobs.{job_answer}
use Rattle.gdi_jobs.specs.Lines as lines
use Rattle.gdi_jobs.specs.Writers.{head_writing, page_end_writing, document_end_writing, PageHead, page_head_writing, row_writing, answer_of}
use Rattle.gdi_write.specs.Paper.{fill_answer}
use Rattle.printbox_answers.specs.Numbers.{of_check, of_draw, of_job, of_line, of_writing, of_fill}
use Rattle.strip_numbers.specs.declared.StripRecord.{StripRecord}
use Rattle.strip_numbers.specs.declared.StripAnswer.{StripAnswer}
use Rattle.strip_numbers.specs.Numbers.{number_step}

-- whether n is one of these numbers
unfoldable pub among : List ℕ → ℕ → Bool
among [] n = false
among (m ∷ ms) n = eqb n m || among ms n

-- whether an answer, its kind first, is no refusal, or one whose number is of the list
unfoldable pub gives : (ms answer : List ℕ) → Bool
gives ms answer = not (eqb (get_or answer 0 0) 1) || among ms (get_or answer 1 0)

-- ---- the numbers

abbrev pub check_refusals : List ℕ
check_refusals = 1 ∷ 2 ∷ 3 ∷ 4 ∷ 5 ∷ 6 ∷ 7 ∷ 8 ∷ 9 ∷ 10 ∷ 13 ∷ 15 ∷ []

abbrev pub draw_refusals : List ℕ
draw_refusals = 1 ∷ 2 ∷ 3 ∷ 4 ∷ 5 ∷ 6 ∷ 7 ∷ 8 ∷ 9 ∷ 11 ∷ 12 ∷ 13 ∷ 15 ∷ []

abbrev pub job_refusals : List ℕ
job_refusals = 1 ∷ 21 ∷ 22 ∷ 23 ∷ 24 ∷ 25 ∷ 26 ∷ []

abbrev pub line_refusals : List ℕ
line_refusals = 1 ∷ 23 ∷ 24 ∷ 25 ∷ 27 ∷ []

abbrev pub page_head_refusals : List ℕ
page_head_refusals = 22 ∷ 27 ∷ []

-- of the other writers, and of a linefill
abbrev pub other_refusals : List ℕ
other_refusals = 27 ∷ []

abbrev pub strip_refusals : List ℕ
strip_refusals = 31 ∷ 32 ∷ 33 ∷ 34 ∷ 35 ∷ 36 ∷ []

-- kind, number and place of an answer of the strip printer's receiver
abbrev pub of_strip : StripAnswer → List ℕ
of_strip a = a.kind ∷ a.number ∷ a.place ∷ []

-- ---- the statement

pub record Refusals : Type 0 where
  pub film_check : (sheet load : List ℕ) → gives check_refusals (of_check (check_answer sheet load)) ≡ true
  pub film_draw : (sheet load : List ℕ) (page b room : ℕ) → gives draw_refusals (of_draw (due (draw_answer sheet load page b room))) ≡ true
  pub gdi_check : (job : List ℕ) → gives job_refusals (of_job (job_answer job)) ≡ true
  pub gdi_read_line : (job : List ℕ) (offset left width room : ℕ) → gives line_refusals (of_line (lines.answer_of (lines.line_at job offset left width room))) ≡ true
  pub gdi_write_head : (room : ℕ) → gives other_refusals (of_writing (answer_of (head_writing room))) ≡ true
  pub gdi_write_page_head : (h : PageHead) (room : ℕ) → gives page_head_refusals (of_writing (answer_of (page_head_writing h room))) ≡ true
  pub gdi_write_row : (width : ℕ) (row : List ℕ) (room : ℕ) → gives other_refusals (of_writing (answer_of (row_writing width row room))) ≡ true
  pub gdi_write_page_end : (room : ℕ) → gives other_refusals (of_writing (answer_of (page_end_writing room))) ≡ true
  pub gdi_write_document_end : (room : ℕ) → gives other_refusals (of_writing (answer_of (document_end_writing room))) ≡ true
  pub gdi_linefill : (width : ℕ) → gives other_refusals (of_fill (fill_answer width)) ≡ true
  pub strip_receive : (r : StripRecord) (b : ℕ) (bands dots : List ℕ) → gives strip_refusals (of_strip (number_step r b bands dots).answer) ≡ true
  -- and the place of these is always 0
  pub strip_place : (r : StripRecord) (b : ℕ) (bands dots : List ℕ) → (number_step r b bands dots).answer.place ≡ 0

-- ---- worked cases

pub record GivesCases : Type 0 where
  pub no_refusal : gives [] (0 ∷ 11 ∷ 3 ∷ []) ≡ true
  pub page_end_case : gives [] (2 ∷ 11 ∷ 3 ∷ []) ≡ true
  pub named : gives (1 ∷ 11 ∷ []) (1 ∷ 11 ∷ 3 ∷ []) ≡ true
  pub not_named : gives (1 ∷ 3 ∷ []) (1 ∷ 11 ∷ 3 ∷ []) ≡ false

pub gives_cases : GivesCases
unfolding gives among
gives_cases = record { no_refusal = refl; page_end_case = refl; named = refl; not_named = refl }
