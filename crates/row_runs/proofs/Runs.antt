-- Laws of runs. Assumes nothing.
use mathlib.Core.Path.{◌≡◌, refl, sym, ap, ◌∙◌}
use mathlib.Core.Bool.{Bool, true, false, cond, beq, true≢false}
use mathlib.Core.Logic.{◌⊎◌, inl, inr, ⊎_elim}
use mathlib.Core.List.{List}
use Prim.Native.Nat.{ℕ, zero, suc, ◌+◌, ◌-◌, ◌*◌, ◌/◌, ◌%◌, ◌<◌, ◌≤◌}
use native.Mathlib.Nat.{eq-or-lt_of_le}
use native.Mathlib.Omega.{arith}
use native.Mathlib.Decide.{dec_lt}
use lib.Dec.{eqb}
use lib.ListN.{get_or, take, drop, length-take}
use lib.Seq.{get_or-take, get_or-drop}
use borrow.Author.Tests.{eqb-true}
use Rattle.std.specs.List.{prefix_len}
use Rattle.std.proofs.lemmas.List.Sums.{prefix_len_passes, prefix_len-le-length}
use Rattle.row.specs.Dots.{dot_at, byte_of}
use Rattle.row_runs.specs.Runs.{first_not, run_end}
use Rattle.truth.proofs.Tests.{Is, beq_is, is_false, from_next}
use Rattle.row.proofs.Dots.{dot_byte_of}

-- ---- the search, dot by dot

-- a dot that is v is passed
pub first_on : (v : Bool) (d : ℕ → Bool) (none f width : ℕ) → f < width → d f ≡ v
    → first_not v d none f (width - f) ≡ first_not v d none (f + 1) (width - (f + 1))
unfolding first_not
first_on v d none f width h e =
    let k : width - f ≡ suc (width - (f + 1)) = omega arith in
    let s : suc f ≡ f + 1 = omega arith in
    rw (k, (beq_is (d f) v).said e, s) refl

-- a dot that is not v is the answer
pub first_here : (v : Bool) (d : ℕ → Bool) (none f width : ℕ) → f < width → (d f ≡ v → ⊥) → first_not v d none f (width - f) ≡ f
unfolding first_not
first_here v d none f width h n =
    let k : width - f ≡ suc (width - (f + 1)) = omega arith in
    rw (k, is_false (beq (d f) v) (beq_is (d f) v) n) refl

-- no dot is left
pub first_none : (v : Bool) (d : ℕ → Bool) (none f width : ℕ) → width ≤ f → first_not v d none f (width - f) ≡ none
unfolding first_not
first_none v d none f width h = let k : width - f ≡ 0 = omega arith in rw k refl

-- ---- what the search finds

-- r is the first of the n dots from f on that is not v
record First (v : Bool) (d : ℕ → Bool) (f n r : ℕ) : Type 0 where
  from : f ≤ r
  below : r < f + n
  differs : d r ≡ v → ⊥
  like : (g : ℕ) → f ≤ g → g < r → d g ≡ v

-- all the n dots from f on are v
All : Bool → (ℕ → Bool) → ℕ → ℕ → Type 0
All v d f n = (g : ℕ) → f ≤ g → g < f + n → d g ≡ v

found : (v : Bool) (d : ℕ → Bool) (none f n : ℕ) → First v d f n (first_not v d none f n) ⊎ ((first_not v d none f n ≡ none) × All v d f n)
unfolding first_not All
found v d none f zero = inr (refl, (λ g h l. absurd (omega arith)))
found v d none f (suc n) = go (beq (d f) v) (beq_is (d f) v) (found v d none (suc f) n)
  where
    later : ℕ
    later = first_not v d none (suc f) n

    go : (t : Bool) → Is t (d f ≡ v) → First v d (suc f) n later ⊎ ((later ≡ none) × All v d (suc f) n)
        → First v d f (suc n) (cond t later f) ⊎ ((cond t later f ≡ none) × All v d f (suc n))
    go false t rest = inl (record { from = omega arith; below = omega arith; differs = λ e. true≢false (sym (t.said e)); like = λ g h l. absurd (omega arith) })
    go true t (inl r) =
        inl (record { from = omega (arith, r.from); below = omega (arith, r.below); differs = r.differs; like = from_next (λ g. d g ≡ v) f later (t.holds refl) r.like })
    go true t (inr r) = inr (r.0, from_next (λ g. d g ≡ v) f (f + suc n) (t.holds refl) (λ g h l. r.1 g h (omega arith)))

-- ---- the search in parts

-- dots that are all v are passed
pub first_pass : (v : Bool) (d : ℕ → Bool) (none f k width : ℕ) → f + k ≤ width → ((g : ℕ) → f ≤ g → g < f + k → d g ≡ v)
    → first_not v d none f (width - f) ≡ first_not v d none (f + k) (width - (f + k))
first_pass v d none f zero width h like = let e : f + 0 ≡ f = omega arith in rw e refl
first_pass v d none f (suc k) width h like =
    let e : f + 1 + k ≡ f + suc k = omega arith in
    first_on v d none f width (omega arith) (like f (omega arith) (omega arith))
    ∙ first_pass v d none (f + 1) k width (omega arith) (λ g a b. like g (omega arith) (omega arith))
    ∙ ap (λ (x : ℕ). first_not v d none x (width - x)) e

-- a dot that is found before `mid` is found
pub first-before : (v : Bool) (d : ℕ → Bool) (none from mid width : ℕ) → mid ≤ width → first_not v d mid from (mid - from) < mid
    → first_not v d none from (width - from) ≡ first_not v d mid from (mid - from)
unfolding All
first-before v d none from mid width h l = ⊎_elim here (λ r. absurd (omega (arith, r.0))) (found v d mid from (mid - from))
  where
    r : ℕ
    r = first_not v d mid from (mid - from)

    here : First v d from (mid - from) r → first_not v d none from (width - from) ≡ r
    here q =
        let k : from + (r - from) ≡ r = omega (arith, q.from) in
        first_pass v d none from (r - from) width (omega (arith, q.from)) (λ g a b. q.like g a (omega arith))
        ∙ ap (λ (x : ℕ). first_not v d none x (width - x)) k ∙ first_here v d none r width (omega arith) q.differs

-- where none is found before `mid`, the search goes on from there
pub first-after : (v : Bool) (d : ℕ → Bool) (none from mid width : ℕ) → from ≤ mid → mid ≤ width → mid ≤ first_not v d mid from (mid - from)
    → first_not v d none from (width - from) ≡ first_not v d none mid (width - mid)
unfolding All
first-after v d none from mid width a h l =
    ⊎_elim (λ r. absurd (omega (arith, r.below))) (λ r. pass r.1) (found v d mid from (mid - from))
  where
    pass : All v d from (mid - from) → first_not v d none from (width - from) ≡ first_not v d none mid (width - mid)
    pass like =
        let k : from + (mid - from) ≡ mid = omega arith in
        first_pass v d none from (mid - from) width (omega arith) (λ g p q. like g p q) ∙ ap (λ (x : ℕ). first_not v d none x (width - x)) k

-- a byte more is passed: no dot before it but v, and none in it
pub first_byte : (v : Bool) (row : List ℕ) (from i b : ℕ) → from ≤ i → b ≡ byte_of (λ _. v) → get_or row i 0 ≡ b
    → first_not v (dot_at row) (8 * i) (8 * from) (8 * i - 8 * from) ≡ 8 * i
    → first_not v (dot_at row) (8 * (i + 1)) (8 * from) (8 * (i + 1) - 8 * from) ≡ 8 * (i + 1)
unfolding dot_at
first_byte v row from i b a e here before =
    let end = 8 * (i + 1) in
    first-after v (dot_at row) end (8 * from) (8 * i) end (omega arith) (omega arith) (omega (arith, before))
    ∙ first_pass v (dot_at row) end (8 * i) 8 end (omega arith)
    (λ g p q. let k : g / 8 ≡ i = omega arith in rw (k, here, e) (dot_byte_of (λ _. v) (g % 8) (omega arith)))
    ∙ first_none v (dot_at row) end (8 * i + 8) end (omega arith)

-- no more bytes of a part of the row are at its front than it has
pub front_le : (row : List ℕ) (from end b : ℕ) → prefix_len (λ x. eqb x b) (take (end - from) (drop from row)) ≤ end - from
front_le row from end b =
    let part = take (end - from) (drop from row) in
    omega (arith, prefix_len-le-length (λ x. eqb x b) part, length-take (end - from) (drop from row))

-- those of them that are b are passed
pub first_bytes : (v : Bool) (row : List ℕ) (from end b n : ℕ) → b ≡ byte_of (λ _. v) → n ≤ prefix_len (λ x. eqb x b) (take (end - from) (drop from row))
    → first_not v (dot_at row) (8 * (from + n)) (8 * from) (8 * (from + n) - 8 * from) ≡ 8 * (from + n)
first_bytes v row from end b zero e l = first_none v (dot_at row) (8 * (from + 0)) (8 * from) (8 * (from + 0)) (omega arith)
first_bytes v row from end b (suc n) e l =
    let part = take (end - from) (drop from row) in
    let passes : get_or part n 0 ≡ b = eqb-true _ _ (prefix_len_passes (λ x. eqb x b) part n 0 l) in
    let within : n < end - from = omega (arith, l, front_le row from end b) in
    let here : get_or row (from + n) 0 ≡ b = sym (get_or-take (end - from) (drop from row) n 0 within ∙ get_or-drop from row n 0) ∙ passes in
    let s : from + n + 1 ≡ from + suc n = omega arith in
    ap (λ (m : ℕ). first_not v (dot_at row) (8 * m) (8 * from) (8 * m - 8 * from)) (sym s)
    ∙ first_byte v row from (from + n) b (omega arith) e here (first_bytes v row from end b n e (omega arith)) ∙ ap (λ (m : ℕ). 8 * m) s

-- ---- the end of a run

-- it is found before `mid`
pub run_end-before : (d : ℕ → Bool) (from mid width : ℕ) {v : Bool} {end : ℕ} → mid ≤ width → v ≡ d from → end ≡ first_not v d mid from (mid - from)
    → end < mid → end ≡ run_end d from width
unfolding run_end
run_end-before d from mid width {v} {end} h ev e l =
    let before : first_not v d mid from (mid - from) < mid = rw (← e) l in
    e ∙ sym (first-before v d width from mid width h before) ∙ ap (λ (x : Bool). first_not x d width from (width - from)) ev

-- none is found before `mid`, and none before `seam`
pub run_end-after : (d : ℕ → Bool) (from mid seam width : ℕ) {v : Bool} {none end : ℕ} → from ≤ mid → mid ≤ seam → seam ≤ width → v ≡ d from
    → none ≡ first_not v d mid from (mid - from) → mid ≤ none → first_not v d seam mid (seam - mid) ≡ seam → end ≡ first_not v d width seam (width - seam)
    → end ≡ run_end d from width
unfolding run_end
run_end-after d from mid seam width {v} {none} {end} a b h ev en l es e =
    let past : mid ≤ first_not v d mid from (mid - from) = rw (← en) l in
    e
    ∙ sym (first-after v d width from mid width a (omega arith) past ∙ first-after v d width mid seam width b h (omega (arith, es)))
    ∙ ap (λ (x : Bool). first_not x d width from (width - from)) ev

-- it is found in one search
pub run_end-all : (d : ℕ → Bool) (from width : ℕ) {v : Bool} {end : ℕ} → v ≡ d from → end ≡ first_not v d width from (width - from) → end ≡ run_end d from width
unfolding run_end
run_end-all d from width ev e = e ∙ ap (λ (x : Bool). first_not x d width from (width - from)) ev

pub run_end_le : (d : ℕ → Bool) (from width : ℕ) → run_end d from width ≤ width
unfolding run_end
run_end_le d from width = ⊎_elim (λ r. omega (arith, r.from, r.below)) (λ r. omega (arith, r.0)) (found (d from) d width from (width - from))

-- a run has at least one dot
pub run_end-past : (d : ℕ → Bool) (from width : ℕ) → from < width → from < run_end d from width
unfolding run_end
run_end-past d from width h = ⊎_elim (λ r. go r (eq-or-lt_of_le r.from)) (λ r. omega (arith, r.0)) (found (d from) d width from (width - from))
  where
    end : ℕ
    end = first_not (d from) d width from (width - from)

    go : First (d from) d from (width - from) end → (from ≡ end) ⊎ (from < end) → from < end
    go r (inl e) = absurd (r.differs (ap d (sym e)))
    go r (inr l) = l

-- its dots are alike
pub run_like : (d : ℕ → Bool) (from width g : ℕ) → from ≤ g → g < run_end d from width → d g ≡ d from
unfolding run_end All
run_like d from width g h l =
    ⊎_elim (λ r. r.like g h l) (λ r. r.1 g h (omega (arith, r.0))) (found (d from) d width from (width - from))

-- and the dot after it differs, or the width ends it
pub run_differs : (d : ℕ → Bool) (from width : ℕ) → run_end d from width < width → d (run_end d from width) ≡ d from → ⊥
unfolding run_end
run_differs d from width h e = ⊎_elim (λ r. r.differs e) (λ r. omega (arith, r.0)) (found (d from) d width from (width - from))

-- these say which number it is
pub run_end_is : (d : ℕ → Bool) (from width end : ℕ) → from < end → end ≤ width → ((g : ℕ) → from ≤ g → g < end → d g ≡ d from)
    → (end < width → d end ≡ d from → ⊥) → end ≡ run_end d from width
run_end_is d from width end past le like differs = go (dec_lt end (run_end d from width)) (dec_lt (run_end d from width) end)
  where
    go : Dec (end < run_end d from width) → Dec (run_end d from width < end) → end ≡ run_end d from width
    go (yes h) q = absurd (differs (omega (arith, run_end_le d from width)) (run_like d from width end (omega arith) h))
    go (no p) (yes h) =
        absurd (run_differs d from width (omega arith) (like (run_end d from width) (omega (arith, run_end-past d from width (omega arith))) h))
    go (no p) (no q) = omega arith

-- rules with the same dots below the width have the same runs there
pub run_end-same : (d e : ℕ → Bool) (from width : ℕ) → from < width → ((f : ℕ) → f < width → d f ≡ e f) → run_end d from width ≡ run_end e from width
run_end-same d e from width h same =
    run_end_is e from width (run_end d from width) (run_end-past d from width h) (run_end_le d from width)
    (λ g a l. sym (same g (omega (arith, run_end_le d from width))) ∙ run_like d from width g a l ∙ same from h)
    (λ l q. run_differs d from width l (same (run_end d from width) l ∙ q ∙ sym (same from h)))
