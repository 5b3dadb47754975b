-- The job check passes a line as the line reader reads it; and the reader reads every line of a job that the check passes. Assumes nothing.
use mathlib.Core.Path.{◌≡◌, refl, sym, ap, ◌∙◌, subst}
use mathlib.Core.Bool.{Bool, true, false, not, cond}
use mathlib.Core.List.{List, [], ◌∷◌}
use Prim.Native.Nat.{ℕ, zero, suc, ◌+◌, ◌-◌, ◌<◌, ◌≤◌}
use native.Mathlib.Omega.{arith}
use native.Mathlib.Decide.{dec_lt}
use borrow.Author.Tests.{le-leb, lt-leb, ne_eqb}
use lib.Dec.{leb}
use lib.ListN.{length, drop, length-drop}
use lib.Seq.{drop-drop}
use Rattle.gdi_jobs.specs.Commands.{Command, dots_of}
use Rattle.gdi_jobs.specs.Pages.{Next, to_block, to_end, to_command, fault, next}
use Rattle.gdi_jobs.specs.Jobs as jobs
use Rattle.gdi_jobs.specs.Jobs.{State, in_page, onward, step_in_page, step, pages, walk}
use Rattle.gdi_jobs.specs.Lines.{Line, line, page_end, refused, with_command, line_from, next_line, answer_of}
use Rattle.gdi_jobs.proofs.Groups.{never}
use Rattle.gdi_jobs.proofs.Pages.{next_block, next-command, next_end_may, next_block_any, next-command-any}
use Rattle.gdi_jobs.proofs.Jobs.{walk-onward, walk-stop}
use Rattle.gdi_jobs.proofs.Lines.{line_block, line_end, line_last, line_command, line_fault}

-- a command in front leaves the place after the line
answer_with : (c : Command) (y : Line) → answer_of (with_command c y) ≡ answer_of y
answer_with c (line cs p left) = refl
answer_with c (page_end p) = refl
answer_with c (refused number p) = refl

-- in a page of so many lines, after those that are whole
module _ (n width height lines : ℕ) (h : lines < height) where
  -- the state in the line that is not, and that after it
  abbrev within : (sum left : ℕ) → State
  within sum left = in_page n width height lines sum left

  abbrev whole : (left : ℕ) → State
  whole left = in_page n width height (lines + 1) 0 left

  -- a step where the page is not full
  step-within : (sum left : ℕ) (bs : List ℕ) (x : Next) → next false false left bs ≡ x → step (within sum left) bs ≡ step_in_page n width height lines sum left x
  unfolding step
  step-within sum left bs x e = rw (ne_eqb lines height (λ q. omega arith)) (ap (step_in_page n width height lines sum left) e)

  -- a command takes the walk on in its line, or to the line's end
  walk-command : (sum left p : ℕ) (bs : List ℕ) (c : Command) (k : ℕ) → next false false left bs ≡ to_command c k → (t : Bool) → leb width (sum + dots_of c) ≡ t
      → walk (within sum left) 0 p bs ≡ walk (cond t (whole (left - k)) (within (sum + dots_of c) (left - k))) 0 (p + k) (drop k bs)
  walk-command sum left p bs c k e t f =
      let s : State = cond t (whole (left - k)) (within (sum + dots_of c) (left - k)) in
      walk-onward (within sum left) s k p bs
      (step-within sum left bs (to_command c k) e ∙ ap (λ (t : Bool). onward (cond t (whole (left - k)) (within (sum + dots_of c) (left - k))) k) f)

  -- from place p the walk comes to place q with the line whole
  pub record Passes (sum left p : ℕ) (bs : List ℕ) (q left' : ℕ) : Type 0 where
    pub after : p ≤ q
    pub there : q - p ≤ length bs
    pub walks : walk (within sum left) 0 p bs ≡ walk (whole left') 0 q (drop (q - p) bs)

  -- it does so where it does after k bytes
  pass_on : (sum left sum' left'' k p : ℕ) (bs : List ℕ) (q left' : ℕ) → k ≤ length bs
      → walk (within sum left) 0 p bs ≡ walk (within sum' left'') 0 (p + k) (drop k bs) → Passes sum' left'' (p + k) (drop k bs) q left'
      → Passes sum left p bs q left'
  pass_on sum left sum' left'' k p bs q left' l e r =
      let a = r.after in
      let b = r.there in
      let m : k + (q - (p + k)) ≡ q - p = omega arith in
      record {
        after = omega arith;
        there = omega (arith, length-drop k bs);
        walks = e ∙ r.walks ∙ ap (λ (l : List ℕ). walk (whole left') 0 q l) (drop-drop (q - (p + k)) k bs ∙ ap (λ (i : ℕ). drop i bs) m);
      }

  -- what reader and walk meet from p on: a line, which is read and passed; or the walk is refused, and no line is read
  data Meets (st : Bool) (sum left p : ℕ) (bs : List ℕ) : Type 0 where
    a_line : (q left' : ℕ) → answer_of (line_from width st sum left 0 p bs) ≡ next_line q left' → Passes sum left p bs q left' → Meets st sum left p bs
    no_line : (number place : ℕ) → walk (within sum left) 0 p bs ≡ jobs.refused number place
        → ((q left' : ℕ) → answer_of (line_from width st sum left 0 p bs) ≡ next_line q left' → ⊥) → Meets st sum left p bs

  -- they meet it where they do after k bytes
  meet_on : (st st' : Bool) (sum left sum' left'' k p : ℕ) (bs : List ℕ) → k ≤ length bs
      → walk (within sum left) 0 p bs ≡ walk (within sum' left'') 0 (p + k) (drop k bs)
      → answer_of (line_from width st sum left 0 p bs) ≡ answer_of (line_from width st' sum' left'' 0 (p + k) (drop k bs))
      → Meets st' sum' left'' (p + k) (drop k bs) → Meets st sum left p bs
  meet_on st st' sum left sum' left'' k p bs l e f (a_line q left' a r) = a_line q left' (f ∙ a) (pass_on sum left sum' left'' k p bs q left' l e r)
  meet_on st st' sum left sum' left'' k p bs l e f (no_line number place w n) = no_line number place (e ∙ w) (λ q left' a. n q left' (sym f ∙ a))

  -- by the number of bytes that the job has from p on
  meet : (bound : ℕ) (st : Bool) (sum left p : ℕ) (bs : List ℕ) → length bs ≤ bound → Meets st sum left p bs
  unfolding line_from walk
  meet zero st sum left p [] l = no_line 24 p refl (λ q left' a. never (cc))
  meet zero st sum left p (b ∷ bs) l = absurd (omega arith)
  meet (suc bound) st sum left p bs l = go (meet bound) (next false false left bs) refl
    where
      Rest : Type 0
      Rest = (st : Bool) (sum left p : ℕ) (bs : List ℕ) → length bs ≤ bound → Meets st sum left p bs

      at_command : Rest → (c : Command) (k : ℕ) → next false false left bs ≡ to_command c k → Dec (sum + dots_of c < width) → Meets st sum left p bs
      at_command rest c k f (yes m) =
          let known = next-command false false left bs c k f in
          let on = walk-command sum left p bs c k f false (lt-leb width (sum + dots_of c) m) in
          let after = line_from width true (sum + dots_of c) (left - k) 0 (p + k) (drop k bs) in
          meet_on st true sum left (sum + dots_of c) (left - k) k p bs (omega arith) on
          (ap answer_of (line_command width st sum left p bs c k (next-command-any false false (not st) left bs c k f) m) ∙ answer_with c after)
          (rest true (sum + dots_of c) (left - k) (p + k) (drop k bs) (omega (arith, length-drop k bs)))
      at_command rest c k f (no m) =
          let known = next-command false false left bs c k f in
          let on = walk-command sum left p bs c k f true (le-leb width (sum + dots_of c) (omega arith)) in
          let i : p + k - p ≡ k = omega arith in
          a_line (p + k) (left - k)
          (ap answer_of (line_last width st sum left p bs c k (next-command-any false false (not st) left bs c k f) (omega arith)))
          (record { after = omega arith; there = omega arith; walks = on ∙ rw i refl })

      -- where the walk is refused the reader may be at the page's end
      no_next : (number i : ℕ) → next false false left bs ≡ fault number i → (x : Next) → next false (not st) left bs ≡ x → (q left' : ℕ)
          → answer_of (line_from width st sum left 0 p bs) ≡ next_line q left' → ⊥
      no_next number i f (to_block size) g q left' a = never (cc (next_block_any false (not st) false left bs size g))
      no_next number i f to_end g q left' a = never (cc (line_end width st sum left p bs g))
      no_next number i f (to_command c k) g q left' a = never (cc (next-command-any false (not st) false left bs c k g))
      no_next number i f (fault n j) g q left' a = never (cc (line_fault width st sum left p bs n j g))

      go : Rest → (x : Next) → next false false left bs ≡ x → Meets st sum left p bs
      go rest (to_block size) f =
          let known = next_block false false left bs size f in
          meet_on st st sum left sum size 6 p bs (omega arith)
          (walk-onward (within sum left) (within sum size) 6 p bs (step-within sum left bs (to_block size) f))
          (ap answer_of (line_block width st sum left p bs size (next_block_any false false (not st) left bs size f)))
          (rest st sum size (p + 6) (drop 6 bs) (omega (arith, length-drop 6 bs)))
      go rest to_end f = never (cc (next_end_may false false left bs f))
      go rest (to_command c k) f = at_command rest c k f (dec_lt (sum + dots_of c) width)
      go rest (fault number i) f =
          no_line number (p + i) (walk-stop (within sum left) number i p bs (step-within sum left bs (fault number i) f))
          (no_next number i f (next false (not st) left bs) refl)

  -- the line that the reader reads at p is passed
  pub line_passed : (st : Bool) (sum left p : ℕ) (bs : List ℕ) (q left' : ℕ) → answer_of (line_from width st sum left 0 p bs) ≡ next_line q left'
      → Passes sum left p bs q left'
  line_passed st sum left p bs q left' e = go (meet (length bs) st sum left p bs (omega arith))
    where
      go : Meets st sum left p bs → Passes sum left p bs q left'
      go (a_line q₀ left₀ a r) =
          let at : q₀ ≡ q = cc in
          let of : left₀ ≡ left' = cc in
          subst (λ (x : ℕ). Passes sum left p bs x left') at (subst (λ (x : ℕ). Passes sum left p bs q₀ x) of r)
      go (no_line number place w n) = absurd (n q left' e)

  -- a line is read at p
  pub record Reads (st : Bool) (sum left p : ℕ) (bs : List ℕ) : Type 0 where
    pub to : ℕ
    pub rest : ℕ
    pub is : answer_of (line_from width st sum left 0 p bs) ≡ next_line to rest

  -- where the walk from p on comes to the job's end
  pub line_read : (st : Bool) (sum left p : ℕ) (bs : List ℕ) (k : ℕ) → walk (within sum left) 0 p bs ≡ pages k → Reads st sum left p bs
  line_read st sum left p bs k e = go (meet (length bs) st sum left p bs (omega arith))
    where
      go : Meets st sum left p bs → Reads st sum left p bs
      go (a_line q left' a r) = record { to = q; rest = left'; is = a }
      go (no_line number place w n) = never (cc)
