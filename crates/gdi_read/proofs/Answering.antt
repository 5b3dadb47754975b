-- Laws of what the line reader answers: the refusals before it reads, and what the two passes leave. Assumes nothing.
use mathlib.Core.Path.{◌≡◌, refl, sym, ap, ◌∙◌}
use mathlib.Core.Bool.{true, false, ◌&&◌}
use mathlib.Core.List.{List}
use Prim.Native.Nat.{ℕ, ◌+◌, ◌*◌, ◌/◌, ◌<◌, ◌≤◌}
use native.Mathlib.Omega.{arith}
use native.Mathlib.Decide.{dec_lt}
use borrow.Author.Tests.{eq-eqb, ne_eqb, lt-ltb, le-ltb}
use lib.Dec.{ltb}
use lib.ListN.{length}
use Rattle.row.specs.Dots.{dot_at, row_of}
use Rattle.row.specs.Stretches.{filled}
use Rattle.truth.proofs.Tests.{is_false}
use Rattle.row.proofs.Dots.{row_of-same}
use Rattle.row.proofs.Stretches.{filled_in, filled-before}
use Rattle.gdi_jobs.specs.Commands.{Command}
use Rattle.gdi_jobs.specs.Groups.{admitted}
use Rattle.gdi_jobs.specs.Jobs.{longest}
use Rattle.gdi_jobs.specs.Lines.{Line, line, page_end, refused, line_dot, line_bytes, line_row, line_at, row_after, LineAnswer, next_line, refusal, answer_of}
use Rattle.gdi_jobs.proofs.Groups.{never, admitted_is}
use Rattle.std.specs.Prelude.{Result, Ok, Err}
use Rattle.std.specs.Int.{div_ceil}
use Rattle.refusal.specs.declared.Refusal.{Refusal}
use Rattle.gdi_read.specs.Answers.{line_read_as}
use Rattle.gdi_read.specs.declared.LineRead as code
use Rattle.gdi_read.specs.declared.LineRead.TheVariants as variants
use Rattle.gdi_read.specs.Functions.{Passed}
use Rattle.gdi_read.proofs.Reading.{line_on}

-- a row's bytes, as the code counts them
pub rounded_up : (width : ℕ) {n : ℕ} → n ≡ div_ceil width 8 → (width + 7) / 8 ≡ n
rounded_up width e = omega (arith, e)

-- ---- the refusals before the pass

module _ (job : List ℕ) (offset left width n : ℕ) where
  pub width_refused : (1 ≤ width → width ≤ 16383 → ⊥) → line_at job offset left width n ≡ refused 27 0
  unfolding line_at
  width_refused h = rw (is_false (admitted width) (admitted_is width) (λ a. h a.0 a.1)) refl

  module _ (w : (1 ≤ width) × (width ≤ 16383)) where
    pub row_refused : (n ≡ (width + 7) / 8 → ⊥) → line_at job offset left width n ≡ refused 27 0
    unfolding line_at line_bytes
    row_refused h = rw ((admitted_is width).said w, ne_eqb n ((width + 7) / 8) h) refl

    module _ (r : n ≡ (width + 7) / 8) where
      pub job_refused : longest < length job → line_at job offset left width n ≡ refused 1 0
      unfolding line_at line_bytes
      job_refused h = rw ((admitted_is width).said w, eq-eqb n ((width + 7) / 8) r, lt-ltb longest (length job) h) refl

      module _ (l : length job ≤ longest) where
        pub offset_refused : length job < offset → line_at job offset left width n ≡ refused 24 (length job)
        unfolding line_at line_bytes
        offset_refused h =
            rw ((admitted_is width).said w, eq-eqb n ((width + 7) / 8) r, le-ltb longest (length job) l, lt-ltb (length job) offset h) refl

        -- none
        pub line_there : offset ≤ length job → line_at job offset left width n ≡ line_on job width false 0 left offset
        unfolding line_at line_bytes
        line_there h =
            rw ((admitted_is width).said w, eq-eqb n ((width + 7) / 8) r, le-ltb longest (length job) l, le-ltb (length job) offset h) refl

-- ---- the answer and the row

-- the line l answers a, and the row that was `held` is `row`
abbrev Answered : (width : ℕ) (l : Line) (held : List ℕ) (a : LineAnswer) (row : List ℕ) → Type 0
Answered width l held a row = (a ≡ answer_of l) × (row ≡ row_after width l held)

pub refused_so : (width : ℕ) (l : Line) (held : List ℕ) (number place : ℕ) → l ≡ refused number place → Answered width l held (refusal number place) held
unfolding row_after
refused_so width l held number place e = (sym (ap answer_of e), rw e refl)

-- at a page end and after a refusal the row stays
stays : (width : ℕ) (l : Line) (held : List ℕ) (r : Result code.LineRead Refusal) → ((q k : ℕ) → r ≡ Ok (variants.Line q k) → ⊥) → line_read_as r ≡ answer_of l
    → held ≡ row_after width l held
unfolding row_after
stays width (line cs p left) held (Ok (variants.Line q k)) o e = absurd (o q k refl)
stays width (line cs p left) held (Ok (variants.PageEnd q k)) o e = never (cc)
stays width (line cs p left) held (Err f) o e = never (cc)
stays width (page_end p) held r o e = refl
stays width (refused number p) held r o e = refl

-- the first pass gives r
module _ (width : ℕ) (l k : Line) (held row : List ℕ) (r : Result code.LineRead Refusal) (e : l ≡ k) (first : Passed width k false held (line_read_as r) row) where
  told_so : line_read_as r ≡ answer_of l
  told_so = first.answer ∙ ap answer_of (sym e)

  -- which is no line
  pub other_so : ((q k : ℕ) → r ≡ Ok (variants.Line q k) → ⊥) → Answered width l held (line_read_as r) row
  other_so o = (told_so, first.kept refl ∙ stays width l held r o told_so)

  -- which is a line, so that the second pass gives one too
  pub same_line : (q left : ℕ) (f : Refusal) (written : List ℕ) → r ≡ Ok (variants.Line q left) → Passed width k true row (line_read_as (Err f)) written → ⊥
  same_line q left f written y second = let z : next_line q left ≡ line_read_as (Err f) = ap line_read_as (sym y) ∙ first.answer ∙ sym second.answer in never (cc)

  -- the second pass writes, and then what is past the width is cleared
  pub line_so : (q left : ℕ) (a : LineAnswer) (written row' : List ℕ) → r ≡ Ok (variants.Line q left) → Passed width k true row a written
      → length written ≡ (width + 7) / 8 → row' ≡ row_of (length written) (filled width (8 * length written) false (dot_at written))
      → Answered width l held (next_line q left) row'
  unfolding row_after line_row line_bytes
  line_so q left a written row' y second size z = (ap line_read_as (sym y) ∙ told_so, rw e (go k (second.dots refl) (ap line_read_as (sym y) ∙ first.answer)))
    where
      clear : (cs : List Command) → ((f : ℕ) → f < width → dot_at written f ≡ line_dot cs f) → (f : ℕ) → Dec (f < width) → f < 8 * length written
          → filled width (8 * length written) false (dot_at written) f ≡ (ltb f width && line_dot cs f)
      clear cs d f (yes h) m = filled-before width (8 * length written) false (dot_at written) f h ∙ d f h ∙ sym (rw (lt-ltb f width h) refl)
      clear cs d f (no h) m =
          let b : width ≤ f = omega arith in
          filled_in width (8 * length written) false (dot_at written) f b m ∙ sym (rw (le-ltb f width b) refl)

      go : (k : Line) → ((cs : List Command) (p left : ℕ) → k ≡ line cs p left → (f : ℕ) → f < width → dot_at written f ≡ line_dot cs f)
          → next_line q left ≡ answer_of k → row' ≡ row_after width k held
      go (line cs p left) d i =
          z
          ∙ row_of-same (length written) (filled width (8 * length written) false (dot_at written)) (λ f. ltb f width && line_dot cs f)
          (λ f m. clear cs (d cs p left refl) f (dec_lt f width) m)
          ∙ ap (λ (n : ℕ). row_of n (λ f. ltb f width && line_dot cs f)) size
      go (page_end p) d i = never (cc)
      go (refused number p) d i = never (cc)
