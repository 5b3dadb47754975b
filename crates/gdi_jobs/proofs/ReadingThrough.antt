-- A job that the check passes is read through. Assumes nothing.
use mathlib.Core.Path.{◌≡◌, refl, sym, ap, ◌∙◌, subst}
use mathlib.Core.Bool.{Bool, true, false, cond}
use mathlib.Core.List.{List, [], ◌∷◌}
use Prim.Native.Nat.{ℕ, zero, suc, ◌+◌, ◌-◌, ◌<◌, ◌≤◌}
use native.Mathlib.Nat.{add-zero}
use native.Mathlib.Omega.{arith}
use borrow.Author.Tests.{eq-eqb, ltb-false}
use lib.Dec.{eqb, ltb}
use lib.ListN.{length, drop, length-drop, drop_of_length-le}
use lib.Seq.{drop-drop}
use Rattle.gdi_jobs.specs.Groups.{Group, cut, page_head, wrong_page_head, block, page_end, document_end, unknown, head_bytes, admitted, group, group_cases}
use Rattle.gdi_jobs.specs.Pages.{Next, to_block, to_end, to_command, fault, next}
use Rattle.gdi_jobs.specs.Jobs.{State, between, in_page, done, stop, step_between, step_in_page, step, longest, pages, refused, walk, walk_head, job_answer}
use Rattle.gdi_jobs.specs.Lines.{line_bytes, line_from, line_at, next_line, after_page, answer_of}
use Rattle.gdi_jobs.specs.ReadingThrough.{ReadsPage, the_end, one_line, ReadsPages, no_page, one_page_case, ReadThrough}
use Rattle.gdi_jobs.proofs.Groups.{never, group_long, group_head, admitted_is}
use Rattle.gdi_jobs.proofs.Pages.{next_block, next_end, next_full}
use Rattle.gdi_jobs.proofs.Jobs.{walk-onward, walk-done, walk-stop}
use Rattle.gdi_jobs.proofs.Lines.{line_block, line_end}
use Rattle.gdi_jobs.proofs.Passing.{line_passed, line_read}
use Rattle.gdi_jobs.proofs.ReadingBack.{line_at_lem}

-- ---- the page's end

-- where no byte of a block is left, what comes next does not depend on the page being full
next_gap : (full full' m : Bool) (left : ℕ) (bs : List ℕ) → left ≡ 0 → next full m left bs ≡ next full' m left bs
unfolding next
next_gap full full' m zero bs e = refl
next_gap full full' m (suc left) bs e = absurd (omega arith)

module _ (n width height : ℕ) where
  -- a page that has all its lines
  abbrev full : (left : ℕ) → State
  full left = in_page n width height height 0 left

  step_full : (left : ℕ) (bs : List ℕ) (x : Next) → next true true left bs ≡ x → step (full left) bs ≡ step_in_page n width height height 0 left x
  unfolding step
  step_full left bs x e = rw (eq-eqb height height refl) (ap (step_in_page n width height height 0 left) e)

  -- the reader comes to the page's end, and the walk goes on after it
  record Ends (k left p : ℕ) (bs : List ℕ) : Type 0 where
    to : ℕ
    after : p < to
    there : to - p ≤ length bs
    is : answer_of (line_from width false 0 left 0 p bs) ≡ after_page to 0
    walks : walk (between (n + 1)) 0 to (drop (to - p) bs) ≡ pages k

  -- by the number of bytes that the job has from p on
  ends : (k bound left p : ℕ) (bs : List ℕ) → length bs ≤ bound → walk (full left) 0 p bs ≡ pages k → Ends k left p bs
  unfolding walk
  ends k zero left p [] l e = never (cc)
  ends k zero left p (b ∷ bs) l e = absurd (omega arith)
  ends k (suc bound) left p bs l e = go (ends k bound) (next true true left bs) refl
    where
      go : ((left p : ℕ) (bs : List ℕ) → length bs ≤ bound → walk (full left) 0 p bs ≡ pages k → Ends k left p bs)
          → (x : Next) → next true true left bs ≡ x → Ends k left p bs
      go rest (to_block size) f =
          let known = next_block true true left bs size f in
          let on = walk-onward (full left) (full size) 6 p bs (step_full left bs (to_block size) f) in
          let r = rest size (p + 6) (drop 6 bs) (omega (arith, length-drop 6 bs)) (sym on ∙ e) in
          let a = r.after in
          let b = r.there in
          let m : 6 + (r.to - (p + 6)) ≡ r.to - p = omega arith in
          record {
            to = r.to;
            after = omega arith;
            there = omega (arith, length-drop 6 bs);
            is = ap answer_of (line_block width false 0 left p bs size (next_gap false true true left bs known.0 ∙ f)) ∙ r.is;
            walks = ap (walk (between (n + 1)) 0 r.to) (sym (drop-drop (r.to - (p + 6)) 6 bs ∙ ap (λ (i : ℕ). drop i bs) m)) ∙ r.walks;
          }
      go rest to_end f =
          let known = next_end true true left bs f in
          let m : p + 6 - p ≡ 6 = omega arith in
          record {
            to = p + 6;
            after = omega arith;
            there = omega arith;
            is = ap answer_of (line_end width false 0 left p bs (next_gap false true true left bs known.0 ∙ f));
            walks =
                ap (λ (i : ℕ). walk (between (n + 1)) 0 (p + 6) (drop i bs)) m
                ∙ sym (walk-onward (full left) (between (n + 1)) 6 p bs (step_full left bs to_end f)) ∙ e;
          }
      go rest (to_command c j) f = absurd (next_full true true left bs c j refl f)
      go rest (fault number i) f = never (cc (walk-stop (full left) number i p bs (step_full left bs (fault number i) f)))

-- ---- a page

module _ (job : List ℕ) (short : length job ≤ longest) (k : ℕ) where
  -- what the reader answers at a place of the job
  read_at : (offset left width : ℕ) → admitted width ≡ true → offset ≤ length job
      → answer_of (line_at job offset left width (line_bytes width)) ≡ answer_of (line_from width false 0 left 0 offset (drop offset job))
  read_at offset left width a h = ap answer_of (line_at_lem job offset left width (line_bytes width) a refl short h)

  -- so many lines are read from a place on and then the page end, and the walk goes on after it
  record ReadTo (n width lines offset left : ℕ) : Type 0 where
    to : ℕ
    after : offset < to
    there : to ≤ length job
    reads : ReadsPage job width lines offset left to
    walks : walk (between (n + 1)) 0 to (drop to job) ≡ pages k

  line_then : {n width lines offset left offset' left' : ℕ} → offset ≤ offset'
      → answer_of (line_at job offset left width (line_bytes width)) ≡ next_line offset' left' → ReadTo n width lines offset' left'
      → ReadTo n width (suc lines) offset left
  line_then h e r = record { to = r.to; after = omega (arith, r.after); there = r.there; reads = one_line e r.reads; walks = r.walks }

  -- m lines, where the walk comes from here to the job's end
  page_read : (n width height m lines offset left : ℕ) → admitted width ≡ true → lines + m ≡ height → offset ≤ length job
      → walk (in_page n width height lines 0 left) 0 offset (drop offset job) ≡ pages k → ReadTo n width m offset left
  page_read n width height zero lines offset left a h o e =
      let all : lines ≡ height = omega arith in
      let at = drop offset job in
      let r = ends n width height k (length at) left offset at (omega arith) (rw all at e) in
      let x = r.after in
      let y = r.there in
      let m : offset + (r.to - offset) ≡ r.to = omega arith in
      record {
        to = r.to;
        after = x;
        there = omega (arith, length-drop offset job);
        reads = the_end (read_at offset left width a o ∙ r.is);
        walks = ap (walk (between (n + 1)) 0 r.to) (sym (drop-drop (r.to - offset) offset job ∙ ap (λ (i : ℕ). drop i job) m)) ∙ r.walks;
      }
  page_read n width height (suc m) lines offset left a h o e =
      let at = drop offset job in
      let some : lines < height = omega arith in
      let l = line_read n width height lines some false 0 left offset at k e in
      let q = l.to in
      let passes = line_passed n width height lines some false 0 left offset at q l.rest l.is in
      let x = passes.after in
      let y = passes.there in
      let i : offset + (q - offset) ≡ q = omega arith in
      let on : walk (in_page n width height (lines + 1) 0 l.rest) 0 q (drop q job) ≡ pages k =
      ap (walk (in_page n width height (lines + 1) 0 l.rest) 0 q) (sym (drop-drop (q - offset) offset job ∙ ap (λ (i : ℕ). drop i job) i))
      ∙ sym passes.walks ∙ e in
      line_then x (read_at offset left width a o ∙ l.is)
      (page_read n width height m (lines + 1) q l.rest a (omega arith) (omega (arith, length-drop offset job)) on)

  -- ---- the pages

  -- the pages that are read from place p on, where n of k are passed
  record ReadFrom (n p : ℕ) : Type 0 where
    count : ℕ
    all : n + count ≡ k
    reads : ReadsPages job count p

  page_then : {n p width height : ℕ} → group (drop p job) ≡ page_head width height → (r : ReadTo n width height (p + 21) 0) → ReadFrom (n + 1) r.to
      → ReadFrom n p
  page_then f r s = record { count = suc s.count; all = omega (arith, s.all); reads = one_page_case f r.reads s.reads }

  -- by the number of bytes that the job has from p on
  pages_read : (bound n p : ℕ) → p ≤ length job → length job - p ≤ bound → walk (between n) 0 p (drop p job) ≡ pages k → ReadFrom n p
  unfolding walk step
  pages_read zero n p o l e = let none : drop p job ≡ [] = drop_of_length-le job {i = p} (omega arith) in never (cc (rw none at e))
  pages_read (suc bound) n p o l e = go (pages_read bound) (group (drop p job)) refl
    where
      bs : List ℕ
      bs = drop p job

      stepped : (g : Group) → group bs ≡ g → step (between n) bs ≡ step_between n (length bs) g
      stepped g f = ap (step_between n (length bs)) f

      stopped : (number i : ℕ) → step (between n) bs ≡ stop number i → ReadFrom n p
      stopped number i s = never (cc (walk-stop (between n) number i p bs s))

      at_end_lem : group bs ≡ document_end → (t : Bool) → ltb 6 (length bs) ≡ t → ReadFrom n p
      at_end_lem f true b = stopped 26 6 (stepped document_end f ∙ rw b refl)
      at_end_lem f false b =
          let s : step (between n) bs ≡ done n = stepped document_end f ∙ rw b refl in
          let last : n ≡ k = cc (walk-done (between n) n p bs s) in
          let six = group_long bs (λ c. never (cc)) in
          let over : p + 6 ≡ length job = omega (arith, ltb-false 6 (length bs) b, length-drop p job) in
          record { count = 0; all = omega arith; reads = no_page f over }

      go : ((n p : ℕ) → p ≤ length job → length job - p ≤ bound → walk (between n) 0 p (drop p job) ≡ pages k → ReadFrom n p)
          → (g : Group) → group bs ≡ g → ReadFrom n p
      go rest cut f = stopped 24 (length bs) (stepped cut f)
      go rest (page_head w v) f =
          let known = group_head bs w v f in
          let held = known.holds in
          let there : p + 21 ≤ length job = omega (arith, length-drop p job, known.long) in
          let on : walk (in_page n w v 0 0 0) 0 (p + 21) (drop (p + 21) job) ≡ pages k =
          ap (walk (in_page n w v 0 0 0) 0 (p + 21)) (sym (drop-drop 21 p job))
          ∙ sym (walk-onward (between n) (in_page n w v 0 0 0) 21 p bs (stepped (page_head w v) f)) ∙ e in
          let r = page_read n w v v 0 (p + 21) 0 ((admitted_is w).said (held.some_width, held.most_width)) (omega arith) there on in
          let x = r.after in
          page_then f r (rest (n + 1) r.to r.there (omega arith) r.walks)
      go rest wrong_page_head f = stopped 22 0 (stepped wrong_page_head f)
      go rest (block size) f = stopped 23 0 (stepped (block size) f)
      go rest page_end f = stopped 23 0 (stepped page_end f)
      go rest document_end f = at_end_lem f (ltb 6 (length bs)) refl
      go rest unknown f = stopped 23 0 (stepped unknown f)

-- ---- the job

-- the head is passed, and then the pages
record AfterHead (k p : ℕ) (head bs : List ℕ) : Type 0 where
  long : length head ≤ length bs
  walks : walk (between 0) 0 (p + length head) (drop (length head) bs) ≡ pages k

after_head : (k p : ℕ) (head bs : List ℕ) → walk_head p head bs ≡ pages k → AfterHead k p head bs
unfolding walk_head
after_head k p [] bs e = record { long = omega arith; walks = ap (λ (q : ℕ). walk (between 0) 0 q bs) (add-zero p) ∙ e }
after_head k p (h ∷ head) [] e = never (cc)
after_head k p (h ∷ head) (b ∷ bs) e = go (eqb b h) e (after_head k (suc p) head bs)
  where
    go : (t : Bool) → cond t (walk_head (suc p) head bs) (refused 21 p) ≡ pages k → (walk_head (suc p) head bs ≡ pages k → AfterHead k (suc p) head bs)
        → AfterHead k p (h ∷ head) (b ∷ bs)
    go true e rest =
        let r = rest e in
        record {
          long = omega (arith, r.long);
          walks = ap (λ (q : ℕ). walk (between 0) 0 q (drop (length head) bs)) (omega arith) ∙ r.walks;
        }
    go false e rest = never (cc)

passed_job : (job : List ℕ) (n : ℕ) → job_answer job ≡ pages n → ReadsPages job n 86
unfolding job_answer
passed_job job n e = go (ltb longest (length job)) refl e
  where
    go : (t : Bool) → ltb longest (length job) ≡ t → cond t (refused 1 0) (walk_head 0 head_bytes job) ≡ pages n → ReadsPages job n 86
    go true b e = never (cc)
    go false b e =
        let h = after_head n 0 head_bytes job e in
        let size = group_cases.head_length in
        let on : walk (between 0) 0 86 (drop 86 job) ≡ pages n = rw size at h.walks in
        let r = pages_read job (ltb-false longest (length job) b) n (length job) 0 86 (omega (arith, h.long)) (omega arith) on in
        let all : r.count ≡ n = omega (arith, r.all) in
        subst (λ (i : ℕ). ReadsPages job i 86) all r.reads

-- ---- in one way only

one_way : (job : List ℕ) (width offset left l m to to' : ℕ) → ReadsPage job width l offset left to → ReadsPage job width m offset left to'
    → (l ≡ m) × (to ≡ to')
one_way job width offset left zero zero to to' (the_end e) (the_end f) = (refl, cc)
one_way job width offset left zero (suc m) to to' (the_end e) (one_line f s) = never (cc)
one_way job width offset left (suc l) zero to to' (one_line e r) (the_end f) = never (cc)
one_way job width offset left (suc l) (suc m) to to' (one_line {offset' = o} {left' = q} e r) (one_line {offset' = o'} {left' = q'} f s) =
    let same : o ≡ o' = cc in
    let rest : q ≡ q' = cc in
    let h = one_way job width o' q' l m to to' (subst (λ (x : ℕ). ReadsPage job width l x q' to) same (subst (λ (x : ℕ). ReadsPage job width l o x to) rest r)) s in
    (ap suc h.0, h.1)

one_count : (job : List ℕ) (p n m : ℕ) → ReadsPages job n p → ReadsPages job m p → n ≡ m
one_count job p zero zero (no_page e h) (no_page f k) = refl
one_count job p zero (suc m) (no_page e h) (one_page_case f r s) = never (cc)
one_count job p (suc n) zero (one_page_case e r s) (no_page f k) = never (cc)
one_count job p (suc n) (suc m) (one_page_case {width = w} {height = v} {to = q} e r s) (one_page_case {width = w'} {height = v'} {to = q'} f r' s') =
    let wide : w ≡ w' = cc in
    let at = subst (λ (x : ℕ). ReadsPage job x v (p + 21) 0 q) wide r in
    let h = one_way job w' (p + 21) 0 v v' q q' at r' in
    ap suc (one_count job q' n m (subst (λ (x : ℕ). ReadsPages job n x) h.1 s) s')

pub read_through : ReadThrough
read_through = record { passed = passed_job; one_count = one_count; one_way = one_way }
