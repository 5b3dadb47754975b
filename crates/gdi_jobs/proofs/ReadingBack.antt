-- What is written reads back: a row as a line, and a job whole. Assumes nothing.
use mathlib.Core.Path.{◌≡◌, refl, sym, ap, ap₂, ◌∙◌, subst}
use mathlib.Core.Bool.{Bool, true, false, not, cond, ◌&&◌}
use mathlib.Core.List.{List, [], ◌∷◌, ◌++◌, map, append_assoc, append-nil}
use Prim.Native.Nat.{ℕ, suc, ◌+◌, ◌-◌, ◌*◌, ◌/◌, ◌%◌, ◌<◌, ◌≤◌}
use native.Mathlib.Omega.{arith}
use native.Mathlib.Decide.{dec_lt}
use borrow.Author.Tests.{eq-eqb, lt-ltb, le-ltb}
use lib.Dec.{leb, ltb}
use lib.ListN.{length, drop, length-append}
use lib.Seq.{drop-append_seam, drop_at}
use Rattle.row.specs.Dots.{dot_at}
use Rattle.row.specs.Counts.{joined}
use Rattle.row.proofs.Dots.{Bytes, row_is}
use Rattle.row_runs.proofs.Spare.{spare_is}
use Rattle.gdi_jobs.specs.Commands.{Command, dots_of}
use Rattle.gdi_jobs.specs.Groups.{group_cases, page_head, head_bytes, fits, admitted, fields, group, page_end_bytes, document_end_bytes}
use Rattle.gdi_jobs.specs.Pages.{to_block, to_end, in_gap, next}
use Rattle.gdi_jobs.specs.Jobs.{between, in_page, onward, step, step_between, step_in_page, longest, walk, job_answer, pages}
use Rattle.gdi_jobs.specs.Lines.{line_dot, line_bytes, line_row, Line, line, with_command, line_from, line_at, row_after, next_line, after_page, answer_of}
use Rattle.gdi_jobs.specs.Rows.{runs_from, runs, command_bytes, blocks, block_bytes, row_bytes}
use Rattle.gdi_jobs.specs.Writers.{Writing, writes, refuses, in_room, PageHead, page_head_bytes, page_head_writing, fits_width, row_writing}
use Rattle.gdi_jobs.specs.ReadingBack.{RowReadsBack, TakesRow, ReadsRow, Page, All, none, more, TakesPage, rows_bytes, page_bytes, job_bytes, ReadsRows, no_more, one_more, WrittenJob}
use Rattle.gdi_jobs.proofs.Groups.{never, admitted_is, fields_is}
use Rattle.gdi_jobs.proofs.Jobs.{walk-onward, walk-done, head_passed}
use Rattle.gdi_jobs.proofs.Lines.{line_block, line_end, line_last, line_command}
use Rattle.gdi_jobs.proofs.Passing.{line_passed}
use Rattle.gdi_jobs.proofs.Writers.{Writable, writable_is}
use Rattle.gdi_jobs.proofs.Rows.{Some, runs_dot, runs-some, dot_sum, runs-sum, command-next, block_group, block_length, block_drop, filling, later, blocks_are}

-- ---- the line that is written

-- the bytes of blocks, end to end
abbrev pub bytes_of : List (List ℕ) → List ℕ
bytes_of bs = joined (map block_bytes bs)

-- what is written of commands from a place in a block on that holds n bytes before it: the block's bytes, then the blocks after it
abbrev onward-bytes : ℕ → List Command → List ℕ
onward-bytes n cs = filling n cs ++ bytes_of (later n cs)

-- a block comes next
gap_block : (m : Bool) (b rest : List ℕ) → next false m 0 (block_bytes b ++ rest) ≡ to_block (length b)
unfolding next
gap_block m b rest = ap (in_gap m (length (block_bytes b ++ rest))) (block_group b rest)

-- the place after a block's bytes and more
past_head : (p : ℕ) (b bs : List ℕ) → p + 6 + length (b ++ bs) ≡ p + length (block_bytes b ++ bs)
past_head p b bs = omega (arith, length-append b bs, length-append (block_bytes b) bs, block_length b)

module _ (width : ℕ) (rest : List ℕ) where
  -- in a block, the reader takes the commands up to the width: all of them
  Reads : List Command → Type 0
  Reads cs =
      (n : ℕ) (st : Bool) (sum p : ℕ) → sum + dot_sum cs ≡ width
      → line_from width st sum (length (filling n cs)) 0 p (onward-bytes n cs ++ rest) ≡ line cs (p + length (onward-bytes n cs)) 0

  -- so where the first of them is in this block, which holds n bytes with it
  ReadsHere : Command → List Command → Type 0
  ReadsHere c cs =
      (n : ℕ) (st : Bool) (sum p : ℕ) → sum + (dots_of c + dot_sum cs) ≡ width
      → let here = command_bytes c ++ filling n cs in
      line_from width st sum (length here) 0 p ((here ++ bytes_of (later n cs)) ++ rest) ≡ line (c ∷ cs) (p + length (here ++ bytes_of (later n cs))) 0

  -- a block's head
  at_head : (st : Bool) (sum p : ℕ) (b bs : List ℕ)
      → line_from width st sum 0 0 p ((block_bytes b ++ bs) ++ rest) ≡ line_from width st sum (length b) 0 (p + 6) ((b ++ bs) ++ rest)
  at_head st sum p b bs =
      rw (append_assoc (block_bytes b) bs rest, append_assoc b bs rest)
      (line_block width st sum 0 p (block_bytes b ++ (bs ++ rest)) (length b) (gap_block (not st) b (bs ++ rest))
      ∙ ap (line_from width st sum (length b) 0 (p + 6)) (block_drop b (bs ++ rest)))

  -- the last command
  last_here : (c : Command) → ReadsHere c []
  unfolding ReadsHere filling later joined dot_sum
  last_here c n st sum p e =
      let b = command_bytes c in
      let none_left : length b - length b ≡ 0 = omega arith in
      rw (append-nil b, append-nil b)
      (line_last width st sum (length b) p (b ++ rest) c (length b) (command-next (not st) (length b) c rest (omega arith)) (omega arith)
      ∙ ap (line (c ∷ []) (p + length b)) none_left)

  -- a command before others
  more_here : (c : Command) (cs : List Command) → 1 ≤ dot_sum cs → Reads cs → ReadsHere c cs
  unfolding ReadsHere Reads
  more_here c cs h reads n st sum p e =
      let b = command_bytes c in
      let on = onward-bytes n cs in
      let left : length (b ++ filling n cs) - length b ≡ length (filling n cs) = omega (arith, length-append b (filling n cs)) in
      let bytes : ((b ++ filling n cs) ++ bytes_of (later n cs)) ++ rest ≡ b ++ (on ++ rest) = simp append_assoc in
      let end : p + length b + length on ≡ p + length ((b ++ filling n cs) ++ bytes_of (later n cs)) = simp length-append (omega arith) in
      rw bytes
      (line_command width st sum (length (b ++ filling n cs)) p (b ++ (on ++ rest)) c (length b)
      (command-next (not st) (length (b ++ filling n cs)) c (on ++ rest) (omega (arith, length-append b (filling n cs)))) (omega arith)
      ∙ ap (with_command c)
      (ap₂ (λ (l : ℕ) (bs : List ℕ). line_from width true (sum + dots_of c) l 0 (p + length b) bs) left (drop-append_seam b (on ++ rest))
      ∙ reads n true (sum + dots_of c) (p + length b) (omega arith))
      ∙ ap (λ (q : ℕ). line (c ∷ cs) q 0) end)

  -- the first command is in this block, or starts the next
  from_here : (c : Command) (cs : List Command) → ReadsHere c cs → Reads (c ∷ cs)
  unfolding ReadsHere Reads filling later joined dot_sum
  from_here c cs here n st sum p e = go (leb k 255)
    where
      b : List ℕ
      b = command_bytes c

      k : ℕ
      k = n + length b

      front : Bool → List ℕ
      front t = cond t (b ++ filling k cs) []

      back : Bool → List ℕ
      back t = bytes_of (cond t (later k cs) (blocks b cs))

      go : (t : Bool) → line_from width st sum (length (front t)) 0 p ((front t ++ back t) ++ rest) ≡ line (c ∷ cs) (p + length (front t ++ back t)) 0
      go true = here k st sum p e
      go false =
          let first = b ++ filling (length b) cs in
          let then = bytes_of (later (length b) cs) in
          let are : bytes_of (blocks b cs) ≡ block_bytes first ++ then = ap bytes_of (blocks_are b cs) in
          rw are (at_head st sum p first then ∙ here (length b) st sum (p + 6) e ∙ ap (λ (q : ℕ). line (c ∷ cs) q 0) (past_head p first then))

  -- commands that have dots
  reads : (c : Command) (cs : List Command) → All Some cs → Reads (c ∷ cs)
  unfolding dot_sum
  reads c [] none = from_here c [] (last_here c)
  reads c (d ∷ cs) (more h hs) = from_here c (d ∷ cs) (more_here c (d ∷ cs) (omega arith) (reads d cs hs))

-- a written row is a line with the row's runs
pub row_line : (width : ℕ) (row rest : List ℕ) (st : Bool) (p : ℕ) → 1 ≤ width
    → line_from width st 0 0 0 p (row_bytes width row ++ rest) ≡ line (runs width row) (p + length (row_bytes width row)) 0
unfolding Reads row_bytes runs joined dot_sum
row_line width row rest st p h = go (runs width row) (runs-sum (dot_at row) 0 width) (runs-some (dot_at row) 0 width)
  where
    go : (cs : List Command) → dot_sum cs ≡ width → All Some cs
        → line_from width st 0 0 0 p (bytes_of (blocks [] cs) ++ rest) ≡ line cs (p + length (bytes_of (blocks [] cs))) 0
    go [] e none = absurd (omega arith)
    go (c ∷ cs) e (more h hs) =
        let first = filling 0 (c ∷ cs) in
        let then = bytes_of (later 0 (c ∷ cs)) in
        let are : bytes_of (blocks [] (c ∷ cs)) ≡ block_bytes first ++ then = ap bytes_of (blocks_are [] (c ∷ cs)) in
        rw are
        (at_head width rest st 0 p first then ∙ reads width rest c cs hs 0 st 0 (p + 6) (omega arith)
        ∙ ap (λ (q : ℕ). line (c ∷ cs) q 0) (past_head p first then))

-- ---- a row

-- what the writer asks of a row
pub row_taken : (width : ℕ) (row : List ℕ) → TakesRow width row → Writable width row
unfolding row_writing
row_taken width row t = (writable_is width row).holds (go (admitted width && fits_width row width) (in_room (row_bytes width row) (length (row_bytes width row))) (row_bytes width row) t.written)
  where
    go : (b : Bool) (w : Writing) (bs : List ℕ) → cond b w (refuses 27 0) ≡ writes bs → b ≡ true
    go true w bs e = refl
    go false w bs e = never (cc)

-- the row of its runs
runs_row : (width : ℕ) (row : List ℕ) → Bytes row → Writable width row → line_row width (runs width row) ≡ row
unfolding line_row runs
runs_row width row bytes t =
    sym (row_is (line_bytes width) (λ f. ltb f width && line_dot (runs_from (dot_at row) 0 width) f) row bytes t.long (λ f l. go f (dec_lt f width)))
  where
    go : (f : ℕ) → Dec (f < width) → dot_at row f ≡ (ltb f width && line_dot (runs_from (dot_at row) 0 width) f)
    go f (yes h) = rw (lt-ltb f width h) (sym (runs_dot (dot_at row) 0 width f h ∙ ap (dot_at row) (omega arith)))
    go f (no h) = rw (le-ltb f width (omega arith)) ((spare_is row width).holds t.clear f (omega arith))

-- what is read at a place of a job, where none of width, buffer, job and offset is refused
pub line_at_lem : (job : List ℕ) (offset left width n : ℕ) → admitted width ≡ true → n ≡ line_bytes width → length job ≤ longest → offset ≤ length job
    → line_at job offset left width n ≡ line_from width false 0 left 0 offset (drop offset job)
unfolding line_at
line_at_lem job offset left width n a e l h =
    rw (a, eq-eqb n (line_bytes width) e, le-ltb longest (length job) l, le-ltb (length job) offset h) refl

pub row_reads_back : RowReadsBack
unfolding RowReadsBack row_after
row_reads_back width row before after t l =
    let taken = row_taken width row t in
    let bytes = row_bytes width row in
    let job = before ++ (bytes ++ after) in
    let is : line_at job (length before) 0 width (length row) ≡ line (runs width row) (length before + length bytes) 0 =
    line_at_lem job (length before) 0 width (length row) ((admitted_is width).said taken.wide) taken.long l (omega (arith, length-append before (bytes ++ after)))
    ∙ ap (line_from width false 0 0 0 (length before)) (drop-append_seam before (bytes ++ after))
    ∙ row_line width row after false (length before) taken.wide.0 in
    record { answers = ap answer_of is; leaves = λ held. ap (λ (x : Line). row_after width x held) is ∙ runs_row width row t.bytes taken }

-- ---- a page

-- the page head that is written reads back
head_group : (h : PageHead) (rest : List ℕ) → fields h.width h.height h.toner ≡ true → group (page_head_bytes h ++ rest) ≡ page_head h.width h.height
unfolding group fits page_head_bytes
head_group h rest e =
    let w : h.width % 256 + 256 * (h.width / 256) ≡ h.width = omega arith in
    let v : h.height % 256 + 256 * (h.height / 256) ≡ h.height = omega arith in
    let long : 21 ≤ length (page_head_bytes h ++ rest) = omega arith in
    rw (le-ltb (length (page_head_bytes h ++ rest)) 6 (omega arith), le-ltb (length (page_head_bytes h ++ rest)) 21 long, w, v, e) refl

-- and the writer takes only a head that may hold its numbers
head_taken : (h : PageHead) → page_head_writing h 21 ≡ writes (page_head_bytes h) → fields h.width h.height h.toner ≡ true
unfolding page_head_writing
head_taken h e = go (fields h.width h.height h.toner) (in_room (page_head_bytes h) 21) e
  where
    go : (t : Bool) (w : Writing) → cond t w (refuses 22 0) ≡ writes (page_head_bytes h) → t ≡ true
    go true w e = refl
    go false w e = never (cc)

head_length : (h : PageHead) → length (page_head_bytes h) ≡ 21
unfolding page_head_bytes
head_length h = refl

-- the page's end comes next
next_page_end : (rest : List ℕ) (m : Bool) → next m true 0 (page_end_bytes ++ rest) ≡ to_end
unfolding next group fits
next_page_end rest m = rw (le-ltb (length (page_end_bytes ++ rest)) 6 (omega arith)) refl

-- rows end to end, as they are written
abbrev written : ℕ → List (List ℕ) → List ℕ
written width rows = joined (map (row_bytes width) rows)

-- the check passes the rows of a page
rows_passed : (n width height : ℕ) (rows : List (List ℕ)) → All (TakesRow width) rows → (lines p : ℕ) (rest : List ℕ) → lines + length rows ≤ height
    → walk (in_page n width height lines 0 0) 0 p (written width rows ++ rest)
    ≡ walk (in_page n width height (lines + length rows) 0 0) 0 (p + length (written width rows)) rest
unfolding joined
rows_passed n width height [] none lines p rest h =
    ap₂ (λ (i q : ℕ). walk (in_page n width height i 0 0) 0 q rest) (omega arith) (omega arith)
rows_passed n width height (row ∷ rows) (more t ts) lines p rest h =
    let taken = row_taken width row t in
    let b = row_bytes width row in
    let on = written width rows ++ rest in
    let q = p + length b in
    let passes = line_passed n width height lines (omega arith) false 0 0 p (b ++ on) q 0 (ap answer_of (row_line width row on false p taken.wide.0)) in
    let k : q - p ≡ length b = omega arith in
    let i : lines + 1 + length rows ≡ lines + suc (length rows) = omega arith in
    let j : q + length (written width rows) ≡ p + length (b ++ written width rows) = omega (arith, length-append b (written width rows)) in
    ap (walk (in_page n width height lines 0 0) 0 p) (append_assoc b (written width rows) rest)
    ∙ passes.walks ∙ ap (walk (in_page n width height (lines + 1) 0 0) 0 q) (ap (λ (m : ℕ). drop m (b ++ on)) k ∙ drop-append_seam b on)
    ∙ rows_passed n width height rows ts (lines + 1) q rest (omega arith)
    ∙ ap₂ (λ (i q : ℕ). walk (in_page n width height i 0 0) 0 q rest) i j

-- and the whole page
page_passed : (p : Page) → TakesPage p → (n q : ℕ) (rest : List ℕ)
    → walk (between n) 0 q (page_bytes p ++ rest) ≡ walk (between (n + 1)) 0 (q + length (page_bytes p)) rest
unfolding step page_bytes rows_bytes
page_passed p t n q rest =
    let head = page_head_bytes p.head in
    let width = p.head.width in
    let height = p.head.height in
    let rows = rows_bytes p in
    let end = page_end_bytes ++ rest in
    let page : (head ++ (rows ++ page_end_bytes)) ++ rest ≡ head ++ (rows ++ end) = simp append_assoc in
    let at : q + 21 + length rows + 6 ≡ q + length (head ++ (rows ++ page_end_bytes)) =
    omega (arith, length-append head (rows ++ page_end_bytes), length-append rows page_end_bytes, head_length p.head) in
    let lines : 0 + length p.rows ≡ height = omega (arith, t.height) in
    let ends : step (in_page n width height height 0 0) end ≡ onward (between (n + 1)) 6 =
    rw (eq-eqb height height refl) (ap (step_in_page n width height height 0 0) (next_page_end rest true)) in
    ap (walk (between n) 0 q) page
    ∙ walk-onward (between n) (in_page n width height 0 0 0) 21 q (head ++ (rows ++ end))
    (ap (step_between n (length (head ++ (rows ++ end)))) (head_group p.head (rows ++ end) (head_taken p.head t.head_written)))
    ∙ ap (walk (in_page n width height 0 0 0) 0 (q + 21)) (drop_at head (rows ++ end) 21 (head_length p.head))
    ∙ rows_passed n width height p.rows t.rows_written 0 (q + 21) end (omega arith)
    ∙ ap (λ (i : ℕ). walk (in_page n width height i 0 0) 0 (q + 21 + length rows) end) lines
    ∙ walk-onward (in_page n width height height 0 0) (between (n + 1)) 6 (q + 21 + length rows) end ends
    ∙ ap (λ (i : ℕ). walk (between (n + 1)) 0 i rest) at

-- ---- a job

-- the check passes the pages, and then the document end
pages_passed : (ps : List Page) → All TakesPage ps → (n q : ℕ) → walk (between n) 0 q (joined (map page_bytes ps) ++ document_end_bytes) ≡ pages (n + length ps)
unfolding joined step group fits
pages_passed [] none n q = walk-done (between n) n q document_end_bytes refl ∙ ap pages (omega arith)
pages_passed (p ∷ ps) (more t ts) n q =
    let then = joined (map page_bytes ps) in
    ap (walk (between n) 0 q) (append_assoc (page_bytes p) then document_end_bytes) ∙ page_passed p t n q (then ++ document_end_bytes)
    ∙ pages_passed ps ts (n + 1) (q + length (page_bytes p)) ∙ ap pages (omega arith)

-- rows that stand in a job after `front` are read in order
rows_read : (job : List ℕ) (width : ℕ) (rows : List (List ℕ)) → All (TakesRow width) rows → (front rest : List ℕ) (offset to : ℕ) → length job ≤ longest
    → job ≡ front ++ (written width rows ++ rest) → length front ≡ offset → offset + length (written width rows) ≡ to
    → ReadsRows job width offset 0 rows to 0
unfolding joined RowReadsBack
rows_read job width [] none front rest offset to l e f g =
    let end : offset ≡ to = omega arith in subst (λ (x : ℕ). ReadsRows job width offset 0 [] x 0) end no_more
rows_read job width (row ∷ rows) (more t ts) front rest offset to l e f g =
    let b = row_bytes width row in
    let on = written width rows ++ rest in
    let split : job ≡ front ++ (b ++ on) = e ∙ ap (λ (x : List ℕ). front ++ x) (append_assoc b (written width rows) rest) in
    let fits : length (front ++ (b ++ on)) ≤ longest = rw split at l in
    let first : ReadsRow job offset 0 width (next_line (offset + length b) 0) row = rw (split, ← f) (row_reads_back width row front on t fits) in
    one_more first
    (rows_read job width rows ts (front ++ b) rest (offset + length b) to l (split ∙ sym (append_assoc front b on)) (length-append front b ∙ omega arith)
    (omega (arith, length-append b (written width rows))))

-- the page's end that stands in a job after `front` is read
end_read : (job : List ℕ) (width : ℕ) (front rest : List ℕ) (end : ℕ) → admitted width ≡ true → length job ≤ longest
    → job ≡ front ++ (page_end_bytes ++ rest) → length front ≡ end → answer_of (line_at job end 0 width (line_bytes width)) ≡ after_page (end + 6) 0
end_read job width front rest end a l e f =
    let there : end ≤ length job = omega (arith, ap length e, length-append front (page_end_bytes ++ rest)) in
    ap answer_of
    (line_at_lem job end 0 width (line_bytes width) a refl l there
    ∙ ap (line_from width false 0 0 0 end) (ap (drop end) e ∙ drop_at front (page_end_bytes ++ rest) end f)
    ∙ line_end width false 0 0 end (page_end_bytes ++ rest) (next_page_end rest false))

-- pages before and after
joined-append : (f : Page → List ℕ) (xs ys : List Page) → joined (map f (xs ++ ys)) ≡ joined (map f xs) ++ joined (map f ys)
unfolding joined
joined-append f [] ys = refl
joined-append f (x ∷ xs) ys = ap (λ (l : List ℕ). f x ++ l) (joined-append f xs ys) ∙ sym (append_assoc (f x) (joined (map f xs)) (joined (map f ys)))

-- what holds of all holds of one of them
all_in : {A : Type 0} (P : A → Type 0) (xs : List A) (y : A) (ys : List A) → All P (xs ++ (y ∷ ys)) → P y
all_in P [] y ys (more h hs) = h
all_in P (x ∷ xs) y ys (more h hs) = all_in P xs y ys hs

-- the bytes of a page in a job
page_in : (before : List Page) (p : Page) (after : List Page)
    → let front = head_bytes ++ (joined (map page_bytes before) ++ page_head_bytes p.head) in
    job_bytes (before ++ (p ∷ after)) ≡ front ++ (rows_bytes p ++ (page_end_bytes ++ (joined (map page_bytes after) ++ document_end_bytes)))
unfolding job_bytes page_bytes joined
page_in before p after = rw (joined-append page_bytes before (p ∷ after)) (simp append_assoc)

pub written_job : WrittenJob
unfolding job_answer job_bytes rows_bytes
written_job =
    record {
      passes =
          λ ps ts l.
          rw (le-ltb longest (length (job_bytes ps)) l)
          (head_passed (joined (map page_bytes ps) ++ document_end_bytes) ∙ pages_passed ps ts 0 86 ∙ ap pages (omega arith));
      reads =
          λ before p after ts l.
          let t = all_in TakesPage before p after ts in
          let job = job_bytes (before ++ (p ∷ after)) in
          let width = p.head.width in
          let rows = rows_bytes p in
          let front = head_bytes ++ (joined (map page_bytes before) ++ page_head_bytes p.head) in
          let rest = joined (map page_bytes after) ++ document_end_bytes in
          let start = 86 + length (joined (map page_bytes before)) + 21 in
          let is = page_in before p after in
          let at : length front ≡ start = simp length-append (omega (arith, group_cases.head_length, head_length p.head)) in
          let h = (fields_is width p.head.height p.head.toner).holds (head_taken p.head t.head_written) in (
            rows_read job width p.rows t.rows_written front (page_end_bytes ++ rest) start (start + length rows) l is at refl,
            end_read job width (front ++ rows) rest (start + length rows) ((admitted_is width).said (h.some_width, h.most_width)) l
                (is ∙ sym (append_assoc front rows (page_end_bytes ++ rest))) (length-append front rows ∙ ap (λ (x : ℕ). x + length rows) at),
          );
    }
