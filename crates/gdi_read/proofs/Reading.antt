-- Laws of a pass over a line: what is read, and what the row holds. Assumes nothing.
use mathlib.Core.Path.{◌≡◌, refl, sym, ap, ◌∙◌}
use mathlib.Core.Bool.{Bool, true, false, not, cond}
use mathlib.Core.List.{List, [], ◌∷◌}
use Prim.Native.Nat.{ℕ, ◌+◌, ◌-◌, ◌*◌, ◌<◌, ◌≤◌}
use native.Mathlib.Omega.{arith}
use native.Mathlib.Decide.{dec_lt}
use borrow.Author.Tests.{lt-ltb, le-ltb}
use lib.Dec.{ltb}
use lib.ListN.{length, drop, length-drop, drop_of_length-le}
use lib.Seq.{drop-drop}
use Rattle.row.specs.Dots.{dot_at, row_of}
use Rattle.row.specs.Stretches.{filled}
use Rattle.row.proofs.Dots.{Bytes, bytes_drop, length-row_of, dot_row_of}
use Rattle.row.proofs.Stretches.{filled_in, filled-before}
use Rattle.gdi_jobs.specs.Commands.{Command, run}
use Rattle.gdi_jobs.specs.Pages.{to_command, next}
use Rattle.gdi_jobs.specs.Lines.{Line, line, page_end, refused, line_dot, with_command, line_from, next_line, after_page, refusal, answer_of}
use Rattle.gdi_parse.specs.Answers.{next_of}
use Rattle.gdi_parse.specs.declared.Next as code
use Rattle.gdi_parse.specs.declared.Next.TheVariants.{ToBlock, ToEnd, ToCommand}
use Rattle.refusal.specs.declared.Refusal.{Refusal}
use Rattle.refusal.specs.Faults.{number_of}
use Rattle.std.specs.Prelude.{Result, Ok, Err}
use Rattle.gdi_jobs.proofs.Groups.{never}
use Rattle.gdi_jobs.proofs.Pages.{next_block, next_end, next-command, next-command_dots, next_fault}
use Rattle.gdi_jobs.proofs.Lines.{line_block, line_end, line_last, line_command, line_fault}
use Rattle.gdi_read.specs.Functions.{written_stretch, Passed}

-- ---- a stretch put

module _ (write : Bool) (from to : ℕ) (black : Bool) (row : List ℕ) where
  -- it is written
  pub put_written : write ≡ true → written_stretch write from to black row ≡ row_of (length row) (filled from to black (dot_at row))
  unfolding written_stretch
  put_written w = rw w refl

  -- it is not
  pub put_left : write ≡ false → written_stretch write from to black row ≡ row
  unfolding written_stretch
  put_left w = rw w refl

  -- the row's length stays
  pub put_length : (row' : List ℕ) → row' ≡ written_stretch write from to black row → length row' ≡ length row
  unfolding written_stretch
  put_length row' e = ap length e ∙ go write
    where
      go : (t : Bool) → length (written_stretch t from to black row) ≡ length row
      go true = length-row_of (length row) (filled from to black (dot_at row))
      go false = refl

-- ---- the dots of a line in two parts

-- the dot f of a line: those below s are d's, and then come those of the commands
abbrev dot_from : (s : ℕ) (d : ℕ → Bool) → Line → ℕ → Bool
dot_from s d (line cs p left) f = cond (ltb f s) (d f) (line_dot cs (f - s))
dot_from s d (page_end p) f = false
dot_from s d (refused number p) f = false

-- from dot 0 on they are the commands'
dots_first : (d : ℕ → Bool) (cs : List Command) (p left f : ℕ) → dot_from 0 d (line cs p left) f ≡ line_dot cs f
dots_first d cs p left f = let z : f - 0 ≡ f = omega arith in rw (le-ltb f 0 (omega arith), z) refl

-- below s they are d's
dots_below : (s : ℕ) (d : ℕ → Bool) (cs : List Command) (p left f : ℕ) → f < s → dot_from s d (line cs p left) f ≡ d f
dots_below s d cs p left f h = rw (lt-ltb f s h) refl

-- a command's dots are filled, and it is passed
dots_on : (s n : ℕ) (black : Bool) (d e : ℕ → Bool) (l : Line) (f : ℕ) → e f ≡ filled s (s + n) black d f
    → dot_from s d (with_command (run black n) l) f ≡ dot_from (s + n) e l f
unfolding line_dot
dots_on s n black d e (page_end p) f h = refl
dots_on s n black d e (refused number p) f h = refl
dots_on s n black d e (line cs p left) f h = go (dec_lt f s) (dec_lt f (s + n))
  where
    go : Dec (f < s) → Dec (f < s + n) → dot_from s d (line (run black n ∷ cs) p left) f ≡ dot_from (s + n) e (line cs p left) f
    go (yes a) b =
        let m : f < s + n = omega arith in
        rw (lt-ltb f s a, lt-ltb f (s + n) m) (sym (h ∙ filled-before s (s + n) black d f a))
    go (no a) (yes b) =
        let u : s ≤ f = omega arith in
        let v : f - s < n = omega arith in
        rw (le-ltb f s u, lt-ltb (f - s) n v, lt-ltb f (s + n) b) (sym (h ∙ filled_in s (s + n) black d f u b))
    go (no a) (no b) =
        let u : s ≤ f = omega arith in
        let v : n ≤ f - s = omega arith in
        let q : s + n ≤ f = omega arith in
        let z : f - s - n ≡ f - (s + n) = omega arith in
        rw (le-ltb f s u, le-ltb (f - s) n v, le-ltb f (s + n) q, z) refl

-- a command in front does not change the answer
answer_on : (c : Command) (l : Line) → answer_of (with_command c l) ≡ answer_of l
answer_on c (line cs p left) = refl
answer_on c (page_end p) = refl
answer_on c (refused number p) = refl

-- ---- where the pass stands

-- the line from place p on, of whose commands some may be read
abbrev pub line_on : (job : List ℕ) (width : ℕ) (started : Bool) (sum left p : ℕ) → Line
line_on job width started sum left p = line_from width started sum left 0 p (drop p job)

-- what stands before place p is passed: the answer is that of what is to come, and what is written has the dots below the sum
pub record ReadTo (job : List ℕ) (offset left₀ width : ℕ) (held : List ℕ) (write : Bool) (row : List ℕ) (p left sum : ℕ) (started : Bool) : Type 0 where
  pub inside : p ≤ length job
  pub below : sum < width
  pub size : length row ≡ length held
  pub kept : write ≡ false → row ≡ held
  pub answer : answer_of (line_on job width false 0 left₀ offset) ≡ answer_of (line_on job width started sum left p)
  pub dots : write ≡ true → (f : ℕ) → f < 8 * length held
      → dot_from 0 (dot_at held) (line_on job width false 0 left₀ offset) f ≡ dot_from sum (dot_at row) (line_on job width started sum left p) f

pub read_start : (job : List ℕ) (offset left width : ℕ) (row : List ℕ) (write : Bool) → offset ≤ length job → 1 ≤ width
    → ReadTo job offset left width row write row offset left 0 false
read_start job offset left width row write h w =
    record { inside = h; below = w; size = refl; kept = λ t. refl; answer = refl; dots = λ t f l. refl }

module _ {job : List ℕ} {offset left₀ width : ℕ} {held : List ℕ} {write : Bool} {row : List ℕ} {p left sum : ℕ} {started : Bool}
    (w : ReadTo job offset left₀ width held write row p left sum started) where
  -- there is no line
  read_none : (l : Line) → line_on job width started sum left p ≡ l → ((q k : ℕ) → answer_of l ≡ next_line q k → ⊥)
      → Passed width (line_on job width false 0 left₀ offset) write held (answer_of l) row
  read_none l s n =
      let a : answer_of l ≡ answer_of (line_on job width false 0 left₀ offset) = sym (w.answer ∙ ap answer_of s) in
      record { answer = a; kept = w.kept; dots = λ t cs q k i f h. absurd (n q k (a ∙ ap answer_of i)) }

  -- the job ends
  pub read_out : length job ≤ p → Passed width (line_on job width false 0 left₀ offset) write held (refusal 24 p) row
  unfolding line_from
  read_out h = read_none (refused 24 p) (ap (line_from width started sum left 0 p) (drop_of_length-le job {i = p} h)) (λ q k z. never (cc))

  -- `next_at` gives r
  module _ (r : Result code.Next Refusal) (x : next_of r ≡ next false (not started) left (drop p job)) where
    -- a block
    pub read_block : (size : ℕ) → r ≡ Ok (ToBlock size) → ReadTo job offset left₀ width held write row (p + 6) size sum started
    read_block size y =
        let e = sym x ∙ ap next_of y in
        let b = next_block false (not started) left (drop p job) size e in
        let s : line_on job width started sum left p ≡ line_on job width started sum size (p + 6) =
        line_block width started sum left p (drop p job) size e ∙ ap (line_from width started sum size 0 (p + 6)) (drop-drop 6 p job) in
        record {
          inside = omega (arith, length-drop p job, w.inside);
          below = w.below;
          size = w.size;
          kept = w.kept;
          answer = w.answer ∙ ap answer_of s;
          dots = λ t f h. w.dots t f h ∙ ap (λ (l : Line). dot_from sum (dot_at row) l f) s;
        }

    -- a command of n dots in k bytes
    module _ (black : Bool) (n k : ℕ) (y : r ≡ Ok (ToCommand black n k)) where
      came : next false (not started) left (drop p job) ≡ to_command (run black n) k
      came = sym x ∙ ap next_of y

      -- it is in its block and in the job, and has at most 16,383 dots
      pub command_bounds : Bytes job → (n ≤ 16383) × (1 ≤ k) × (k ≤ left) × (p + k ≤ length job)
      command_bounds bytes =
          let b = next-command false (not started) left (drop p job) (run black n) k came in (
            next-command_dots false (not started) left (drop p job) (run black n) k (bytes_drop p job bytes) came,
            b.0,
            b.1.1.0,
            omega (arith, length-drop p job, w.inside),
          )

      -- its dots are put
      module _ (row' : List ℕ) (z : row' ≡ written_stretch write sum (sum + n) black row) where
        still_kept : write ≡ false → row' ≡ held
        still_kept t = z ∙ put_left write sum (sum + n) black row t ∙ w.kept t

        -- the dots, where l is the rest of the line
        dots_read : (l : Line) → line_on job width started sum left p ≡ with_command (run black n) l → write ≡ true → (f : ℕ) → f < 8 * length held
            → dot_from 0 (dot_at held) (line_on job width false 0 left₀ offset) f ≡ dot_from (sum + n) (dot_at row') l f
        dots_read l s t f h =
            let m : f < 8 * length row = omega (arith, w.size) in
            let d = filled sum (sum + n) black (dot_at row) in
            w.dots t f h ∙ ap (λ (l : Line). dot_from sum (dot_at row) l f) s
            ∙ dots_on sum n black (dot_at row) (dot_at row') l f
            (ap (λ (a : List ℕ). dot_at a f) (z ∙ put_written write sum (sum + n) black row t) ∙ dot_row_of (length row) d f m)

        -- the line goes on
        pub read_command : sum + n < width → ReadTo job offset left₀ width held write row' (p + k) (left - k) (sum + n) true
        read_command b =
            let d = next-command false (not started) left (drop p job) (run black n) k came in
            let rest = line_on job width true (sum + n) (left - k) (p + k) in
            let s : line_on job width started sum left p ≡ with_command (run black n) rest =
            line_command width started sum left p (drop p job) (run black n) k came b
            ∙ ap (λ (bs : List ℕ). with_command (run black n) (line_from width true (sum + n) (left - k) 0 (p + k) bs)) (drop-drop k p job) in
            record {
              inside = omega (arith, length-drop p job, w.inside);
              below = b;
              size = put_length write sum (sum + n) black row row' z ∙ w.size;
              kept = still_kept;
              answer = w.answer ∙ ap answer_of s ∙ answer_on (run black n) rest;
              dots = dots_read rest s;
            }

        -- the line ends with it
        pub read_last : width ≤ sum + n → width ≤ 8 * length held
            → Passed width (line_on job width false 0 left₀ offset) write held (next_line (p + k) (left - k)) row'
        read_last b h =
            let s = line_last width started sum left p (drop p job) (run black n) k came b in
            record {
              answer = sym (w.answer ∙ ap answer_of s);
              kept = still_kept;
              dots = λ t cs q l i f m.
                  sym
                  (sym (dots_first (dot_at held) cs q l f) ∙ ap (λ (l : Line). dot_from 0 (dot_at held) l f) (sym i)
                  ∙ dots_read (line [] (p + k) (left - k)) s t f (omega arith) ∙ dots_below (sum + n) (dot_at row') [] (p + k) (left - k) f (omega arith));
            }

    -- the page's end
    pub read_end : r ≡ Ok ToEnd → (p + 6 ≤ length job) × Passed width (line_on job width false 0 left₀ offset) write held (after_page (p + 6) 0) row
    read_end y =
        let e = sym x ∙ ap next_of y in (
          omega (arith, (next_end false (not started) left (drop p job) e).1, length-drop p job, w.inside),
          read_none (page_end (p + 6)) (line_end width started sum left p (drop p job) e) (λ q l z. never (cc)),
        )

    -- a refusal
    pub read_fault : (f : Refusal) → r ≡ Err f
        → (p + f.place ≤ length job) × Passed width (line_on job width false 0 left₀ offset) write held (refusal (number_of f.fault) (p + f.place)) row
    read_fault f y =
        let number = number_of f.fault in
        let i = f.place in
        let e = sym x ∙ ap next_of y in (
          omega (arith, next_fault false (not started) left (drop p job) number i e, length-drop p job, w.inside),
          read_none (refused number (p + i)) (line_fault width started sum left p (drop p job) number i e) (λ q k z. never (cc)),
        )
