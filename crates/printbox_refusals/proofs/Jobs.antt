-- The refusals of a check of a job, of the line reader and of the writers. Assumes nothing.
use mathlib.Core.Path.{◌≡◌, refl}
use mathlib.Core.Bool.{Bool, true, false, not, cond, ◌&&◌}
use mathlib.Core.List.{List, [], ◌∷◌}
use Prim.Native.Nat.{ℕ, zero, suc, ◌+◌, ◌-◌, ◌%◌}
use lib.Dec.{eqb, leb, ltb}
use lib.ListN.{length, drop}
use Rattle.gdi_jobs.specs.Commands.{Command, run, dots_of, taken, broken, black_bit, with_second, command}
use Rattle.gdi_jobs.specs.Groups.{Group, cut, page_head, wrong_page_head, block, page_end, document_end, unknown, group, head_bytes, page_end_bytes, document_end_bytes, admitted, fields}
use Rattle.gdi_jobs.specs.Pages.{Next, to_block, to_end, to_command, fault, in_gap, of_command, next}
use Rattle.gdi_jobs.specs.Jobs.{State, between, in_page, Step, onward, done, stop, step_between, step_in_page, step, longest, JobAnswer, then_walk, walk, walk_head, job_answer}
use Rattle.gdi_jobs.specs.Lines.{Line, line, with_command, then_line, line_from, line_bytes, line_at}
use Rattle.gdi_jobs.specs.Lines as lines
use Rattle.gdi_jobs.specs.Rows.{row_bytes}
use Rattle.gdi_jobs.specs.Writers.{Writing, in_room, head_writing, page_end_writing, document_end_writing, PageHead, page_head_bytes, page_head_writing, fits_width, row_writing, answer_of}
use Rattle.gdi_write.specs.Paper.{FillAnswer, fill_answer}
use Rattle.printbox_answers.specs.Numbers.{of_job, of_line, of_writing, of_fill}
use Rattle.printbox_refusals.specs.Refusals.{among, gives, job_refusals, line_refusals, page_head_refusals, other_refusals}
use Rattle.printbox_refusals.proofs.Films.{either}

-- ---- what comes next in a page: 23, 24, 25

abbrev NextIn : List ℕ → Next → Type 0
NextIn ms (to_block size) = Unit {0}
NextIn ms to_end = Unit {0}
NextIn ms (to_command c n) = Unit {0}
NextIn ms (fault n i) = among ms n ≡ true

module _ (ms : List ℕ) (m23 : among ms 23 ≡ true) (m24 : among ms 24 ≡ true) (m25 : among ms 25 ≡ true) where
  gap_in : (m : Bool) (n : ℕ) (g : Group) → NextIn ms (in_gap m n g)
  gap_in m n cut = m24
  gap_in m n (page_head w v) = m23
  gap_in m n wrong_page_head = m23
  gap_in m n (block size) = tt
  gap_in m n page_end = either (NextIn ms) m tt m25
  gap_in m n document_end = m23
  gap_in m n unknown = m23

  command_in_lem : (left c : ℕ) (rest : List ℕ) → NextIn ms (of_command (command left c rest))
  unfolding command
  command_in_lem left c rest = go (leb 128 c) (leb left 1) rest
    where
      go : (two past : Bool) (rest : List ℕ) → NextIn ms (of_command (cond two (cond past (broken 24 0) (with_second c rest)) (taken (run (black_bit c) (c % 64)) 1)))
      go false past rest = tt
      go true true rest = m24
      go true false [] = m24
      go true false (b ∷ rest) = tt

  next_in : (full m : Bool) (left : ℕ) (bs : List ℕ) → NextIn ms (next full m left bs)
  unfolding next
  next_in full m zero bs = gap_in m (length bs) (group bs)
  next_in full m (suc left) [] = m24
  next_in full m (suc left) (c ∷ rest) = either (NextIn ms) full m25 (command_in_lem (suc left) c rest)

-- ---- the job check

abbrev JobIn : JobAnswer → Type 0
JobIn a = gives job_refusals (of_job a) ≡ true

abbrev StepIn : Step → Type 0
StepIn (onward s n) = Unit {0}
StepIn (done n) = Unit {0}
StepIn (stop n i) = among job_refusals n ≡ true

between_in : (n k : ℕ) (g : Group) → StepIn (step_between n k g)
unfolding among
between_in n k cut = refl
between_in n k (page_head w v) = tt
between_in n k wrong_page_head = refl
between_in n k (block size) = refl
between_in n k page_end = refl
between_in n k document_end = either StepIn (ltb 6 k) refl tt
between_in n k unknown = refl

page_in : (n width height lines sum left : ℕ) (x : Next) → NextIn job_refusals x → StepIn (step_in_page n width height lines sum left x)
page_in n width height lines sum left (to_block size) h = tt
page_in n width height lines sum left to_end h = tt
page_in n width height lines sum left (to_command c k) h = tt
page_in n width height lines sum left (fault k i) h = h

step_in : (s : State) (bs : List ℕ) → StepIn (step s bs)
unfolding step among
step_in (between n) bs = between_in n (length bs) (group bs)
step_in (in_page n width height lines sum left) bs =
    let full = eqb lines height in
    page_in n width height lines sum left (next full full left bs) (next_in job_refusals refl refl refl full full left bs)

then_in : (p : ℕ) (x : Step) (k : State → ℕ → JobAnswer) → StepIn x → ((s : State) (n : ℕ) → JobIn (k s n)) → JobIn (then_walk p x k)
unfolding gives
then_in p (onward s n) k h f = f s n
then_in p (done n) k h f = refl
then_in p (stop n i) k h f = h

walk_in : (s : State) (skip p : ℕ) (bs : List ℕ) → JobIn (walk s skip p bs)
unfolding walk gives among
walk_in s skip p [] = refl
walk_in s (suc k) p (b ∷ bs) = walk_in s k (suc p) bs
walk_in s zero p (b ∷ bs) =
    then_in p (step s (b ∷ bs)) (λ t n. walk t (n - 1) (suc p) bs) (step_in s (b ∷ bs)) (λ t n. walk_in t (n - 1) (suc p) bs)

head_in : (p : ℕ) (head bs : List ℕ) → JobIn (walk_head p head bs)
unfolding walk_head gives among
head_in p [] bs = walk_in (between 0) 0 p bs
head_in p (h ∷ head) [] = refl
head_in p (h ∷ head) (b ∷ bs) = either JobIn (eqb b h) (head_in (suc p) head bs) refl

pub gdi_check : (job : List ℕ) → gives job_refusals (of_job (job_answer job)) ≡ true
unfolding job_answer gives among
gdi_check job = either JobIn (ltb longest (length job)) refl (head_in 0 head_bytes job)

-- ---- the line reader

abbrev LineIn : Line → Type 0
LineIn x = gives line_refusals (of_line (lines.answer_of x)) ≡ true

with_in : (c : Command) (x : Line) → LineIn x → LineIn (with_command c x)
with_in c (line cs p left) h = h
with_in c (lines.page_end p) h = h
with_in c (lines.refused n p) h = h

then_line_in : (width : ℕ) (st : Bool) (sum left p : ℕ) (x : Next) (k : Bool → ℕ → ℕ → ℕ → Line) → NextIn line_refusals x
    → ((t : Bool) (s l n : ℕ) → LineIn (k t s l n)) → LineIn (then_line width st sum left p x k)
unfolding gives
then_line_in width st sum left p (to_block size) k h f = f st sum size 6
then_line_in width st sum left p to_end k h f = refl
then_line_in width st sum left p (to_command c n) k h f =
    with_in c (cond (leb width (sum + dots_of c)) (line [] (p + n) (left - n)) (k true (sum + dots_of c) (left - n) n))
    (either LineIn (leb width (sum + dots_of c)) refl (f true (sum + dots_of c) (left - n) n))
then_line_in width st sum left p (fault n i) k h f = h

line_in : (width : ℕ) (st : Bool) (sum left skip p : ℕ) (bs : List ℕ) → LineIn (line_from width st sum left skip p bs)
unfolding line_from gives among
line_in width st sum left skip p [] = refl
line_in width st sum left (suc k) p (b ∷ bs) = line_in width st sum left k (suc p) bs
line_in width st sum left zero p (b ∷ bs) =
    then_line_in width st sum left p (next false (not st) left (b ∷ bs)) (λ t s l n. line_from width t s l (n - 1) (suc p) bs)
    (next_in line_refusals refl refl refl false (not st) left (b ∷ bs)) (λ t s l n. line_in width t s l (n - 1) (suc p) bs)

pub gdi_read_line : (job : List ℕ) (offset left width room : ℕ) → gives line_refusals (of_line (lines.answer_of (line_at job offset left width room))) ≡ true
unfolding line_at gives among
gdi_read_line job offset left width room =
    either LineIn (not (admitted width)) refl
    (either LineIn (not (eqb room (line_bytes width))) refl
    (either LineIn (ltb longest (length job)) refl
    (either LineIn (ltb (length job) offset) refl (line_in width false 0 left 0 offset (drop offset job)))))

-- ---- the writers

abbrev WriteIn : List ℕ → Writing → Type 0
WriteIn ms w = gives ms (of_writing (answer_of w)) ≡ true

put_in : (ms bs : List ℕ) (room : ℕ) → among ms 27 ≡ true → WriteIn ms (in_room bs room)
unfolding gives
put_in ms bs room h = either (WriteIn ms) (leb (length bs) room) refl h

pub gdi_write_head : (room : ℕ) → WriteIn other_refusals (head_writing room)
unfolding head_writing among
gdi_write_head room = put_in other_refusals head_bytes room refl

pub gdi_write_page_end : (room : ℕ) → WriteIn other_refusals (page_end_writing room)
unfolding page_end_writing among
gdi_write_page_end room = put_in other_refusals page_end_bytes room refl

pub gdi_write_document_end : (room : ℕ) → WriteIn other_refusals (document_end_writing room)
unfolding document_end_writing among
gdi_write_document_end room = put_in other_refusals document_end_bytes room refl

pub gdi_write_page_head : (h : PageHead) (room : ℕ) → WriteIn page_head_refusals (page_head_writing h room)
unfolding page_head_writing gives among
gdi_write_page_head h room =
    either (WriteIn page_head_refusals) (fields h.width h.height h.toner) (put_in page_head_refusals (page_head_bytes h) room refl) refl

pub gdi_write_row : (width : ℕ) (row : List ℕ) (room : ℕ) → WriteIn other_refusals (row_writing width row room)
unfolding row_writing gives among
gdi_write_row width row room = either (WriteIn other_refusals) (admitted width && fits_width row width) (put_in other_refusals (row_bytes width row) room refl) refl

pub gdi_linefill : (width : ℕ) → gives other_refusals (of_fill (fill_answer width)) ≡ true
unfolding fill_answer gives among
gdi_linefill width = either (λ (a : FillAnswer). gives other_refusals (of_fill a) ≡ true) (admitted width) refl refl
