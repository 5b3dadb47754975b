-- Laws of a mask that is painted line by line, and of the lines of rectangles, trapezoids and sample arrays. Assumes nothing.
use mathlib.Core.Path.{◌≡◌, refl, sym, ap, ap₂, ◌∙◌, fun_ext}
use mathlib.Core.Bool.{Bool, true, false, ◌&&◌, ◌||◌, and-false, or-false}
use mathlib.Core.List.{List, ◌++◌}
use Prim.Native.Nat.{ℕ, ◌+◌, ◌-◌, ◌*◌, ◌<◌, ◌≤◌, max, min}
use native.Mathlib.Omega.{arith}
use native.Mathlib.Decide.{dec_lt}
use borrow.Author.Tests.{le-leb, lt-leb, le-ltb, eq-eqb, ne_eqb, ltb-false}
use denote.Ref.{MutBor}
use lib.Dec.{leb, ltb, eqb}
use lib.IntN.{ℤ, pos}
use lib.Signed.{le_z, lt_z}
use lib.ListN.{length, take, drop}
use Rattle.std.specs.Prelude.{⊤}
use Rattle.truth.proofs.Tests.{is_false}
use Rattle.row.proofs.Dots.{Bytes}
use Rattle.film_words.specs.Words.{at}
use Rattle.film_words.specs.Arrays.{samples_in}
use Rattle.film_commands.specs.Band.{Colour}
use Rattle.film_commands.specs.Commands.{rectangle, trapezoid, samples}
use Rattle.film_herald.specs.Herald.{Window, row_length}
use Rattle.film_imaging.specs.Masks.{Film, within, sample, masked}
use Rattle.film_imaging.proofs.Rectangle.{within_is, rectangle_off}
use Rattle.film_imaging.proofs.Trapezoid.{trapezoid_off}
use Rattle.film_edges.specs.Edges.{edge_at}
use Rattle.film_edges.proofs.Stretch.{trapezoid_line}
use Rattle.film_paint.specs.Rows.{window_of, painted_row}
use Rattle.film_paint.specs.declared.Frame.{Frame}
use Rattle.film_masks.specs.Bands.{painted_frame}
use Rattle.film_masks.specs.Lines.{InksLines}
use Rattle.film_masks.proofs.Bands.{row_fits, band_one, Left, left_first, left_next, left_none, left_length}

-- ---- a mask's lines from s on

abbrev lines_from : Film → ℕ → Film
lines_from M s t f = leb s t && M t f

-- line s, and the lines after it
line_then : (M : Film) (s t f : ℕ) → lines_from M s t f ≡ ((eqb t s && M s f) || lines_from M (s + 1) t f)
line_then M s t f = go (dec_lt t s) (dec_lt s t)
  where
    go : Dec (t < s) → Dec (s < t) → lines_from M s t f ≡ ((eqb t s && M s f) || lines_from M (s + 1) t f)
    go (yes l) d = rw (lt-leb s t l, ne_eqb t s (λ e. omega arith), lt-leb (s + 1) t (omega arith)) refl
    go (no n) (yes l) = rw (le-leb s t (omega arith), ne_eqb t s (λ e. omega arith), le-leb (s + 1) t (omega arith)) refl
    go (no n) (no m) =
        let e : t ≡ s = omega arith in
        rw (e, le-leb s s (omega arith), eq-eqb s s refl, lt-leb (s + 1) s (omega arith)) (sym (or-false (M s f)))

-- ---- the walk over the lines of a mask, from line m up to, not including, e: it stands at line s, and the lines from there on are left to paint

pub record Lined (v : Frame) (C : Colour) (M : Film) (m e : ℕ) (buf₀ buf : List ℕ) (s : ℕ) : Type 0 where
  pub off : (t f : ℕ) → (m ≤ t → t < e → ⊥) → M t f ≡ false
  pub since : max m v.top ≤ s
  pub left : Left (window_of v) v.top v.rows C (lines_from M s) buf (painted_frame v C M buf₀)

module _ {v : Frame} {C : Colour} {M : Film} {m e : ℕ} {buf₀ : List ℕ} where
  -- at the beginning
  pub lined_first : {s : ℕ} → Bytes buf₀ → ((t f : ℕ) → (m ≤ t → t < e → ⊥) → M t f ≡ false) → s ≡ max m v.top → Lined v C M m e buf₀ buf₀ s
  lined_first {s} bytes off i =
      record { off = off; since = omega arith; left = left_first M bytes (λ t f a b. go t f a (dec_lt t s)) }
    where
      go : (t f : ℕ) → v.top ≤ t → Dec (t < s) → lines_from M s t f ≡ M t f
      go t f a (yes l) = rw (lt-leb s t l, off t f (λ p q. omega arith)) refl
      go t f a (no l) = rw (le-leb s t (omega arith)) refl

  module _ {buf : List ℕ} {s : ℕ} (w : Lined v C M m e buf₀ buf s) where
    pub lined_length : length buf ≡ length buf₀
    lined_length = left_length M buf₀ w.left

    -- the row of line s lies within the buffer
    pub lined_fits : s < v.top + v.rows → v.rows * row_length v.width ≤ length buf₀
        → (s - v.top) * row_length v.width + row_length v.width ≤ length buf₀
    lined_fits h l = row_fits (s - v.top) v.rows (row_length v.width) (length buf₀) (omega (arith, w.since)) l

    -- line s has been painted in the part of the buffer at its row
    pub lined_row : {row' : List ℕ} (at k : ℕ) → s < v.top + v.rows → v.rows * row_length v.width ≤ length buf₀
        → at ≡ (s - v.top) * row_length v.width → k ≡ row_length v.width → row' ≡ painted_row (window_of v) C s (M s) (take k (drop at buf))
        → Lined v C M m e buf₀ (take at buf ++ (row' ++ drop k (drop at buf))) (s + 1)
    lined_row {row'} at k h l ea ek p =
        record {
          off = w.off;
          since = omega (arith, w.since);
          left =
              left_next (λ t f. eqb t s && M s f) w.left
              (band_one (window_of v) v.top v.rows C s (s - v.top) at buf (M s) (omega (arith, w.since)) ea k row' (omega (arith, w.since))
              (omega (arith, lined_length)) w.left.bytes ek p)
              (λ t f a b. line_then M s t f);
        }

    -- line s has been painted in the buffer
    pub lined_next : {buf' : List ℕ} (L : ℕ → Bool) → ((f : ℕ) → M s f ≡ L f) → buf' ≡ painted_frame v C (λ t f. eqb t s && L f) buf
        → Lined v C M m e buf₀ buf' (s + 1)
    lined_next L same p =
        record {
          off = w.off;
          since = omega (arith, w.since);
          left =
              left_next (λ t f. eqb t s && L f) w.left p
              (λ t f a b. line_then M s t f ∙ ap (λ (x : Bool). (eqb t s && x) || lines_from M (s + 1) t f) (same f));
        }

    -- the mask or the band ends before line s
    pub lined_done : min e (v.top + v.rows) ≤ s → buf ≡ painted_frame v C M buf₀
    lined_done h = left_none w.left (λ t f a b. go t f b (dec_lt t s))
      where
        go : (t f : ℕ) → t < v.top + v.rows → Dec (t < s) → lines_from M s t f ≡ false
        go t f b (yes l) = rw (lt-leb s t l) refl
        go t f b (no l) = rw (w.off t f (λ p q. omega arith)) (and-false (leb s t))

    -- the band ends before it
    pub lined_below : v.top + v.rows ≤ s → buf ≡ painted_frame v C M buf₀
    lined_below h = lined_done (omega arith)

-- ---- rows, for each kind of mask

-- a mask has no dot off its lines
off_lines : (M : Film) (m n : ℕ) → ((t f : ℕ) → within m n t ≡ false → M t f ≡ false) → (t f : ℕ) → (m ≤ t → t < m + n → ⊥) → M t f ≡ false
off_lines M m n off t f h = off t f (is_false (within m n t) (within_is m n t) (λ p. h p.0 p.1))

-- of a sample array, whose first word counts its lines
pub samples_off : (s_min f_min : ℕ) (ws : List ℕ) (s f : ℕ) → within s_min (at ws 0) s ≡ false → masked (samples s_min f_min ws) s f ≡ false
unfolding masked sample samples_in within
samples_off s_min f_min ws s f h = go (leb s_min s) refl
  where
    go : (t : Bool) → leb s_min s ≡ t → masked (samples s_min f_min ws) s f ≡ false
    go false e = rw e refl
    go true e =
        let l : at ws 0 ≤ s - s_min = omega (arith, ltb-false s (s_min + at ws 0) (rw e at h)) in
        rw (e, le-ltb (s - s_min) (at ws 0) l) (and-false (leb f_min f))

-- a rectangle's dots on a line are those between its columns
pub rectangle_dots : (s_min s_size f_min f_size s : ℕ) → within s_min s_size s ≡ true
    → (f : ℕ) → masked (rectangle s_min s_size f_min f_size) s f ≡ (leb f_min f && ltb f (f_min + f_size))
unfolding masked within
rectangle_dots s_min s_size f_min f_size s h f = rw h refl

-- a trapezoid's are those between its two edges rounded up
pub trapezoid_dots : (s_min s_size f_min f_size f_min_last f_size_last s : ℕ) {from to : ℕ} → within s_min s_size s ≡ true
    → edge_at f_min f_min_last (s_size - 1) (s - s_min) ≡ pos from → edge_at (f_min + f_size) (f_min_last + f_size_last) (s_size - 1) (s - s_min) ≡ pos to
    → (f : ℕ) → masked (trapezoid s_min s_size f_min f_size f_min_last f_size_last) s f ≡ (leb from f && ltb f to)
trapezoid_dots s_min s_size f_min f_size f_min_last f_size_last s h b t f =
    trapezoid_line s_min s_size f_min f_size f_min_last f_size_last s f h ∙ ap₂ (λ (x y : ℤ). le_z x (pos f) && lt_z (pos f) y) b t

-- an array's are its samples, from s_min and f_min on
pub samples_dots : (s_min f_min : ℕ) (ws : List ℕ) (s : ℕ) → s_min ≤ s
    → (f : ℕ) → masked (samples s_min f_min ws) s f ≡ (leb f_min f && sample (samples_in ws) (s - s_min) (f - f_min))
unfolding masked
samples_dots s_min f_min ws s h f = rw (le-leb s_min s h) refl

-- an array has no dot left of f_min
pub samples_before : (s_min f_min : ℕ) (ws : List ℕ) (s f : ℕ) → f < f_min → masked (samples s_min f_min ws) s f ≡ false
unfolding masked
samples_before s_min f_min ws s f h = rw (lt-leb f_min f h, and-false (leb s_min s)) refl

-- line s of a mask is painted by its dots L there
row_same : (w : Window) (C : Colour) (M : Film) (s : ℕ) (L : ℕ → Bool) (row row' : List ℕ) → ((f : ℕ) → M s f ≡ L f)
    → row' ≡ painted_row w C s L row → row' ≡ painted_row w C s (M s) row
row_same w C M s L row row' same e = e ∙ ap (λ (L : ℕ → Bool). painted_row w C s L row) (fun_ext (λ f. sym (same f)))

-- a trapezoid's dots are those between its two edges rounded up
pub trapezoid_row : (v : Frame) (C : Colour) (s_min s_size f_min f_size f_min_last f_size_last s from to : ℕ) (row row' : List ℕ) → s_min ≤ s → s < s_min + s_size
    → edge_at f_min f_min_last (s_size - 1) (s - s_min) ≡ pos from → edge_at (f_min + f_size) (f_min_last + f_size_last) (s_size - 1) (s - s_min) ≡ pos to
    → row' ≡ painted_row (window_of v) C s (λ f. leb from f && ltb f to) row
    → row' ≡ painted_row (window_of v) C s (masked (trapezoid s_min s_size f_min f_size f_min_last f_size_last) s) row
trapezoid_row v C s_min s_size f_min f_size f_min_last f_size_last s from to row row' a b x y =
    row_same (window_of v) C (masked (trapezoid s_min s_size f_min f_size f_min_last f_size_last)) s (λ f. leb from f && ltb f to) row row'
    (trapezoid_dots s_min s_size f_min f_size f_min_last f_size_last s ((within_is s_min s_size s).said (a, b)) x y)

module _ {v : Frame} {C : Colour} {inks : MutBor (List ℕ) → ℕ → ⊤ → MutBor (List ℕ) → Type 0} where
  -- a rectangle's dots are those between its columns
  pub rectangle_lines : (s_min s_size f_min f_size : ℕ)
      → ((row row' : MutBor (List ℕ)) (s : ℕ) → inks row s tt row' → row'.now ≡ painted_row (window_of v) C s (λ f. leb f_min f && ltb f (f_min + f_size)) row.now)
      → InksLines v C (masked (rectangle s_min s_size f_min f_size)) s_min (s_min + s_size) inks
  unfolding masked within
  rectangle_lines s_min s_size f_min f_size rows =
      let M = masked (rectangle s_min s_size f_min f_size) in
      record {
        off = off_lines M s_min s_size (rectangle_off s_min s_size f_min f_size);
        on = λ row row' s a b e.
            row_same (window_of v) C M s (λ f. leb f_min f && ltb f (f_min + f_size)) row.now row'.now
            (rectangle_dots s_min s_size f_min f_size s ((within_is s_min s_size s).said (a, b))) (rows row row' s e);
      }

  -- a trapezoid's are those of its lines
  pub trapezoid_lines : (s_min s_size f_min f_size f_min_last f_size_last : ℕ)
      → ((row row' : MutBor (List ℕ)) (s : ℕ) → s_min ≤ s → s < s_min + s_size → inks row s tt row'
      → row'.now ≡ painted_row (window_of v) C s (masked (trapezoid s_min s_size f_min f_size f_min_last f_size_last) s) row.now)
      → InksLines v C (masked (trapezoid s_min s_size f_min f_size f_min_last f_size_last)) s_min (s_min + s_size) inks
  trapezoid_lines s_min s_size f_min f_size f_min_last f_size_last rows =
      let M = masked (trapezoid s_min s_size f_min f_size f_min_last f_size_last) in
      record { off = off_lines M s_min s_size (trapezoid_off s_min s_size f_min f_size f_min_last f_size_last); on = rows }

  -- an array's are its samples, from s_min and f_min on; its first word counts its lines
  pub samples_lines : (s_min f_min n : ℕ) (ws : List ℕ) → n ≡ at ws 0
      → ((row row' : MutBor (List ℕ)) (s : ℕ) → inks row s tt row'
      → row'.now ≡ painted_row (window_of v) C s (λ f. leb f_min f && sample (samples_in ws) (s - s_min) (f - f_min)) row.now)
      → InksLines v C (masked (samples s_min f_min ws)) s_min (s_min + n) inks
  unfolding masked
  samples_lines s_min f_min n ws e rows =
      let M = masked (samples s_min f_min ws) in
      record {
        off = off_lines M s_min n (λ s f h. samples_off s_min f_min ws s f (rw e at h));
        on = λ row row' s a b i.
            row_same (window_of v) C M s (λ f. leb f_min f && sample (samples_in ws) (s - s_min) (f - f_min)) row.now row'.now
            (samples_dots s_min f_min ws s a) (rows row row' s i);
      }
