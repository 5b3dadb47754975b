-- Laws of the runs of a group that are left from a place on. Assumes nothing.
use mathlib.Core.Path.{◌≡◌, refl, sym, ap, ap₂, ◌∙◌}
use mathlib.Core.Bool.{Bool, true, false, cond, ◌&&◌, ◌||◌, and-false, and_assoc, and-or_distrib_left}
use mathlib.Core.List.{List, [], ◌∷◌}
use Prim.Native.Nat.{ℕ, zero, suc, ◌+◌, ◌-◌, ◌%◌, ◌<◌, ◌≤◌}
use native.Mathlib.Omega.{arith}
use borrow.Author.Tests.{le-leb, lt-leb, ne_eqb, leb-true}
use lib.Dec.{leb, ltb, eqb}
use lib.ListN.{length, drop, length-drop}
use Rattle.truth.proofs.Tests.{is_same, and_is, leb_is, eqb_is}
use Rattle.row.proofs.Dots.{Bytes}
use Rattle.film_words.specs.Words.{at}
use Rattle.film_words.specs.Groups.{Run, last_run, lines_in, runs_in}
use Rattle.film_words.proofs.Groups.{drop_two}
use Rattle.film_commands.specs.Band.{Colour}
use Rattle.film_commands.specs.Commands.{runs}
use Rattle.film_imaging.specs.Masks.{within, in_runs, masked}
use Rattle.film_paint.specs.Rows.{window_of}
use Rattle.film_paint.specs.declared.Frame.{Frame}
use Rattle.film_masks.specs.Bands.{painted_frame}
use Rattle.film_masks.proofs.Bands.{band_off, Left, left_first, left_next, left_none, left_length}

-- ---- the runs of n lines, of which the first is line i

lines-done : (l : List ℕ) (i : ℕ) → lines_in l i 0 ≡ []
unfolding lines_in
lines-done [] i = refl
lines-done (f ∷ []) i = refl
lines-done (f ∷ (w ∷ l)) i = refl

lines_short : (l : List ℕ) (i n : ℕ) → length l < 2 → lines_in l i n ≡ []
unfolding lines_in
lines_short [] i n h = refl
lines_short (f ∷ []) i n h = refl
lines_short (f ∷ (w ∷ l)) i n h = absurd (omega arith)

-- no run stands on a line before the first
lines-before : (l : List ℕ) (i n j f : ℕ) → j < i → in_runs (lines_in l i n) j f ≡ false
unfolding lines_in in_runs
lines-before [] i n j f h = refl
lines-before (a ∷ []) i n j f h = refl
lines-before (a ∷ (w ∷ l)) i zero j f h = refl
lines-before (a ∷ (w ∷ l)) i (suc n) j f h =
    ap (λ (b : Bool). (b && within a (w % 32768) f) || in_runs (lines_in l (cond (last_run w) (suc i) i) (cond (last_run w) n (suc n))) j f)
    (ne_eqb i j (λ e. omega arith))
    ∙ lines-before l (cond (last_run w) (suc i) i) (cond (last_run w) n (suc n)) j f (later (last_run w))
  where
    later : (t : Bool) → j < cond t (suc i) i
    later true = omega arith
    later false = h

module _ (s_min : ℕ) (ws : List ℕ) where
  -- the dots of the runs from place q on, of n lines of which the first is line s of the film
  unfoldable pub runs_from : (q s n : ℕ) → ℕ → ℕ → Bool
  runs_from q s n t f = leb s_min t && in_runs (lines_in (drop q ws) (s - s_min) n) (t - s_min) f

  -- at the beginning they are the whole mask
  runs-first : (t f : ℕ) → runs_from 1 s_min (at ws 0) t f ≡ masked (runs s_min ws) t f
  unfolding runs_from masked lines_in runs_in
  runs-first t f = ap (λ (r : List Run). leb s_min t && in_runs r (t - s_min) f) (go ws)
    where
      go : (ws : List ℕ) → lines_in (drop 1 ws) (s_min - s_min) (at ws 0) ≡ runs_in ws
      go [] = refl
      go (n ∷ ws) = ap (λ (i : ℕ). lines_in ws i n) (omega arith)

  -- the run at place q, and the runs after it
  run_then : (q s s' n n' t f : ℕ) → s_min ≤ s → 2 ≤ length ws - q → s' - s_min ≡ cond (last_run (at ws (q + 1))) (suc (s - s_min)) (s - s_min)
      → n' ≡ cond (last_run (at ws (q + 1))) n (suc n)
      → runs_from q s (suc n) t f ≡ ((eqb t s && within (at ws q) (at ws (q + 1) % 32768) f) || runs_from (q + 2) s' n' t f)
  unfolding runs_from lines_in in_runs
  run_then q s s' n n' t f h l es en =
      let a = within (at ws q) (at ws (q + 1) % 32768) f in
      let same : (leb s_min t && eqb (s - s_min) (t - s_min)) ≡ eqb t s =
      is_same (leb s_min t && eqb (s - s_min) (t - s_min)) (eqb t s)
      (and_is (leb s_min t) (eqb (s - s_min) (t - s_min)) (leb_is s_min t) (eqb_is (s - s_min) (t - s_min))) (eqb_is t s)
      (λ p. omega (arith, p.0, p.1)) (λ p. (omega arith, omega arith)) in
      ap (λ (r : List ℕ). leb s_min t && in_runs (lines_in r (s - s_min) (suc n)) (t - s_min) f) (drop_two ws q l)
      ∙ ap₂ (λ (i m : ℕ). leb s_min t && ((eqb (s - s_min) (t - s_min) && a) || in_runs (lines_in (drop (q + 2) ws) i m) (t - s_min) f)) (sym es) (sym en)
      ∙ and-or_distrib_left (leb s_min t) (eqb (s - s_min) (t - s_min) && a) (in_runs (lines_in (drop (q + 2) ws) (s' - s_min) n') (t - s_min) f)
      ∙ ap (λ (b : Bool). b || (leb s_min t && in_runs (lines_in (drop (q + 2) ws) (s' - s_min) n') (t - s_min) f))
      (sym (and_assoc (leb s_min t) (eqb (s - s_min) (t - s_min)) a) ∙ ap (λ (b : Bool). b && a) same)

  -- a run that is not its line's last
  runs-next : (q s n t f : ℕ) → s_min ≤ s → 0 < n → 2 ≤ length ws - q → at ws (q + 1) < 32768
      → runs_from q s n t f ≡ ((eqb t s && within (at ws q) (at ws (q + 1) % 32768) f) || runs_from (q + 2) s n t f)
  runs-next q s zero t f h z l w = absurd (omega arith)
  runs-next q s (suc n) t f h z l w = run_then q s s n (suc n) t f h l (rw (lt-leb 32768 (at ws (q + 1)) w) refl) (rw (lt-leb 32768 (at ws (q + 1)) w) refl)

  -- the last run of a line
  runs_last : (q s n t f : ℕ) → s_min ≤ s → 0 < n → 2 ≤ length ws - q → 32768 ≤ at ws (q + 1)
      → runs_from q s n t f ≡ ((eqb t s && within (at ws q) (at ws (q + 1) % 32768) f) || runs_from (q + 2) (s + 1) (n - 1) t f)
  runs_last q s zero t f h z l w = absurd (omega arith)
  runs_last q s (suc n) t f h z l w =
      run_then q s (s + 1) n (suc n - 1) t f h l (rw (le-leb 32768 (at ws (q + 1)) w) (omega arith)) (rw (le-leb 32768 (at ws (q + 1)) w) (omega arith))

  no_runs : (q s n t f : ℕ) → lines_in (drop q ws) (s - s_min) n ≡ [] → runs_from q s n t f ≡ false
  unfolding runs_from in_runs
  no_runs q s n t f e = ap (λ (r : List Run). leb s_min t && in_runs r (t - s_min) f) e ∙ and-false (leb s_min t)

  -- no line is left
  runs_done : (q s n t f : ℕ) → n ≤ 0 → runs_from q s n t f ≡ false
  runs_done q s zero t f h = no_runs q s 0 t f (lines-done (drop q ws) (s - s_min))
  runs_done q s (suc n) t f h = absurd (omega arith)

  -- no whole run is left
  runs_short : (q s n t f : ℕ) → length ws - q < 2 → runs_from q s n t f ≡ false
  runs_short q s n t f h = no_runs q s n t f (lines_short (drop q ws) (s - s_min) n (omega (arith, length-drop q ws)))

  -- lines before the next one have no run any more
  runs-before : (q s n t f : ℕ) → t < s → runs_from q s n t f ≡ false
  unfolding runs_from
  runs-before q s n t f h = go (leb s_min t) refl
    where
      go : (b : Bool) → leb s_min t ≡ b → (b && in_runs (lines_in (drop q ws) (s - s_min) n) (t - s_min) f) ≡ false
      go true e = lines-before (drop q ws) (s - s_min) n (t - s_min) f (omega (arith, leb-true s_min t e))
      go false e = refl

-- ---- the walk over the runs: it stands at place q with n lines to come, the first of them line s

-- the runs from there on are left to paint
pub record Walked (v : Frame) (C : Colour) (s_min : ℕ) (ws buf₀ buf : List ℕ) (q s n : ℕ) : Type 0 where
  pub since : s_min ≤ s
  pub left : Left (window_of v) v.top v.rows C (runs_from s_min ws q s n) buf (painted_frame v C (masked (runs s_min ws)) buf₀)

module _ {v : Frame} {C : Colour} {s_min : ℕ} {ws buf₀ : List ℕ} where
  -- at the beginning
  pub walked-first : {n : ℕ} → n ≡ at ws 0 → Bytes buf₀ → Walked v C s_min ws buf₀ buf₀ 1 s_min n
  walked-first e bytes =
      record {
        since = omega arith;
        left = left_first (masked (runs s_min ws)) bytes (λ t f a b. ap (λ (x : ℕ). runs_from s_min ws 1 s_min x t f) e ∙ runs-first s_min ws t f);
      }

  module _ {buf : List ℕ} {q s n : ℕ} (k : Walked v C s_min ws buf₀ buf q s n) where
    -- the run at place q, where the band has not line s
    pub run_above : (from to : ℕ) → s < v.top → buf ≡ painted_frame v C (λ t g. eqb t s && (leb from g && ltb g to)) buf
    run_above from to h = band_off (window_of v) v.top v.rows C s (λ g. leb from g && ltb g to) buf k.left.bytes (λ a b. omega arith)

    -- the run at place q has been painted
    module _ {buf' : List ℕ} {w : ℕ} (z : 0 < n) (l : q + 2 ≤ length ws) (ew : w ≡ at ws (q + 1))
        (e : buf' ≡ painted_frame v C (λ t g. eqb t s && (leb (at ws q) g && ltb g (at ws q + w % 32768))) buf) where
      walked_on : (s' n' : ℕ) → s_min ≤ s'
          → ((t g : ℕ) → runs_from s_min ws q s n t g ≡ ((eqb t s && within (at ws q) (at ws (q + 1) % 32768) g) || runs_from s_min ws (q + 2) s' n' t g))
          → Walked v C s_min ws buf₀ buf' (q + 2) s' n'
      unfolding within
      walked_on s' n' h r =
          record {
            since = h;
            left =
                left_next (λ t g. eqb t s && (leb (at ws q) g && ltb g (at ws q + w % 32768))) k.left e
                (λ t g a b. rw ew (r t g));
          }

      -- the last of its line
      pub walked_last : 32768 ≤ w → Walked v C s_min ws buf₀ buf' (q + 2) (s + 1) (n - 1)
      walked_last h =
          walked_on (s + 1) (n - 1) (omega (arith, k.since)) (λ t g. runs_last s_min ws q s n t g k.since z (omega arith) (omega arith))

      -- another
      pub walked_next : w < 32768 → Walked v C s_min ws buf₀ buf' (q + 2) s n
      walked_next h = walked_on s n k.since (λ t g. runs-next s_min ws q s n t g k.since z (omega arith) (omega arith))

    -- no line is left
    pub walked-done : n ≤ 0 → buf ≡ painted_frame v C (masked (runs s_min ws)) buf₀
    walked-done h = left_none k.left (λ t f a b. runs_done s_min ws q s n t f h)

    -- no whole run is left
    pub walked_short : length ws < q + 2 → buf ≡ painted_frame v C (masked (runs s_min ws)) buf₀
    walked_short h = left_none k.left (λ t f a b. runs_short s_min ws q s n t f (omega arith))

    -- the band ends before line s
    pub walked_below : v.top + v.rows ≤ s → buf ≡ painted_frame v C (masked (runs s_min ws)) buf₀
    walked_below h = left_none k.left (λ t f a b. runs-before s_min ws q s n t f (omega arith))

    pub walked-length : length buf ≡ length buf₀
    walked-length = left_length (masked (runs s_min ws)) buf₀ k.left
