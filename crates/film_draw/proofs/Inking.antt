-- Laws of a band buffer: showing a film in its rows, and inked by the strokes of a band. Assumes nothing.
use mathlib.Core.Path.{◌≡◌, refl, sym, ap, ap₂, ◌∙◌, fun_ext}
use mathlib.Core.Bool.{Bool, true, false, cond, ◌&&◌, and-false}
use mathlib.Core.List.{List, [], ◌∷◌, ◌++◌}
use Prim.Native.Nat.{ℕ, zero, suc, ◌+◌, ◌*◌, ◌/◌, ◌%◌, ◌<◌, ◌≤◌}
use native.Mathlib.Nat.{add-zero, add_comm, zero-mul, suc-mul, mul_left_comm, div-eq_of_lt, mod-eq_of_lt, add-div_left, add-mod_left, div-lt_iff_lt-mul, le-div_iff_mul-le}
use native.Mathlib.Omega.{arith}
use borrow.Author.Tests.{lt-ltb, le-ltb}
use lib.Dec.{ltb, leb-zero}
use lib.ListN.{length, take, drop, length-append, length-drop}
use lib.Seq.{length-take-le}
use Rattle.std.proofs.Common.{Option, Some, None, Result, Ok, Err}
use Rattle.std.specs.Result.{result_unwrap_or}
use Rattle.row.specs.Dots.{dot_at, row_of}
use Rattle.row.specs.Counts.{joined}
use Rattle.row.proofs.Dots.{Bytes, length-row_of, row_of-same, row_of_add, row_of_front, rewritten}
use Rattle.film_commands.specs.Band.{Colour, Stroke, stroke, strokes}
use Rattle.film_commands.specs.Code.{mask_of, colour_of}
use Rattle.film_cursor.specs.Cursors.{reading, Ahead, ahead_of, moved_to, step_as, Stepped}
use Rattle.film_commands.specs.declared.Mask as code-mask
use Rattle.film_commands.specs.declared.Colour.TheVariants as colour
use Rattle.film_cursor.specs.declared.Cursor.{Cursor}
use Rattle.film_cursor.specs.declared.Step.{Step}
use Rattle.film_cursor.specs.declared.Step.TheVariants as step
use Rattle.film_cursor.proofs.Cursors.{met, ahead-at-start}
use Rattle.film_herald.specs.Herald.{Window, row_length}
use Rattle.film_imaging.specs.Masks.{Film, masked}
use Rattle.film_imaging.specs.Colours.{painted}
use Rattle.film_imaging.specs.Pictures.{covers, carry_out, film_of, row_bytes, window_row, numbered, rows_of}
use Rattle.film_paint.specs.Rows.{window_of}
use Rattle.film_paint.specs.declared.Frame.{Frame}
use Rattle.film_paint.proofs.Painting.{painted_off}
use Rattle.film_masks.specs.Bands.{painted_dot, painted_band, painted_frame}
use Rattle.film_masks.proofs.Bands.{band_is}
use Rattle.film_drawing.proofs.Rows.{length_rows}
use Rattle.film_draw.specs.Functions.{Fits, inked_with}
use Rattle.refusal.specs.declared.Refusal.{Refusal}

-- ---- rows that show a film

-- the dots of a window's rows of which the first is line `first`; a row has n dots, its spare ones among them
film_dot : Window → (first : ℕ) → Film → ℕ → Bool
film_dot w first I g =
    let n = 8 * row_length w.f_size in
    ltb (g % n) w.f_size && I (first + g / n) (w.f_min + g % n)

-- the rows one after another
film_rows : (w : Window) → 0 < w.f_size → (I : Film) (first rows : ℕ)
    → row_of (rows * row_length w.f_size) (film_dot w first I) ≡ joined (numbered first rows (λ s. window_row w (I s)))
unfolding film_dot row_of joined numbered row_bytes
film_rows w z I first zero = ap (λ (k : ℕ). row_of k (film_dot w first I)) (zero-mul (row_length w.f_size))
film_rows w z I first (suc rows) =
    let m = row_length w.f_size in
    let n = 8 * m in
    let p : 0 < n = omega arith in
    ap (λ (k : ℕ). row_of k (film_dot w first I)) (suc-mul rows m ∙ add_comm (rows * m) m)
    ∙ row_of_add m (rows * m) (film_dot w first I)
    ∙ ap₂ ◌++◌
    (row_of-same m (film_dot w first I) (λ f. ltb f w.f_size && I first (w.f_min + f))
    (λ f l. ap₂ (λ (x y : ℕ). ltb x w.f_size && I y (w.f_min + x)) (mod-eq_of_lt l) (ap (λ (k : ℕ). first + k) (div-eq_of_lt l) ∙ add-zero first)))
    (row_of-same (rows * m) (λ f. film_dot w first I (n + f)) (film_dot w (suc first) I)
    (λ f l.
    let q : first + (n + f) / n ≡ suc first + f / n = omega (arith, add-div_left f p) in
    ap₂ (λ (x y : ℕ). ltb x w.f_size && I y (w.f_min + x)) (add-mod_left n f) q)
    ∙ film_rows w z I (suc first) rows)

-- one dot painted: a, it is in a row; b, it is in the window
dot_painted : (C : Colour) (s f : ℕ) (a b M I x : Bool) → painted C s f (a && b && M) (cond a (b && I) x) ≡ cond a (b && painted C s f M I) x
dot_painted C s f true true M I x = refl
dot_painted C s f true false M I x = painted_off C s f false
dot_painted C s f false b M I x = painted_off C s f x

-- the dots of a buffer whose rows show the film I, and whose other bytes are those of `held`
shown_dot : Window → (first rows : ℕ) → Film → (held : List ℕ) → ℕ → Bool
shown_dot w first rows I held g = cond (ltb (g / (8 * row_length w.f_size)) rows) (film_dot w first I g) (dot_at held g)

-- that buffer
shows : Window → (first rows : ℕ) → Film → (held : List ℕ) → List ℕ
shows w first rows I held = row_of (length held) (shown_dot w first rows I held)

-- n bytes that are all 0
abbrev blank : ℕ → List ℕ
blank n = row_of n (λ f. false)

module _ (w : Window) (first rows : ℕ) (held : List ℕ) (fits : rows * row_length w.f_size ≤ length held) where
  -- a mask is painted on it
  shows_painted : (C : Colour) (M I : Film)
      → painted_band w first rows C M (shows w first rows I held) ≡ shows w first rows (λ s f. painted C s f (M s f) (I s f)) held
  unfolding shows shown_dot film_dot painted_dot
  shows_painted C M I =
      let n = 8 * row_length w.f_size in
      let d = shown_dot w first rows I held in
      let c : ℕ → Bool → Bool = λ g x.
      painted C (first + g / n) (w.f_min + g % n) (ltb (g / n) rows && ltb (g % n) w.f_size && M (first + g / n) (w.f_min + g % n)) x in
      band_is w first rows C M (row_of (length held) d) (rw (length-row_of (length held) d) fits)
      ∙ rewritten (length held) c d (row_of (length held) d) _ refl refl
      ∙ row_of-same (length held) (λ g. c g (d g)) (shown_dot w first rows (λ s f. painted C s f (M s f) (I s f)) held)
      (λ g l.
      let s = first + g / n in
      let f = w.f_min + g % n in
      dot_painted C s f (ltb (g / n) rows) (ltb (g % n) w.f_size) (M s f) (I s f) (dot_at held g))

  module _ (some : 0 < w.f_size) (bytes : Bytes held) where
    -- the rows, and the bytes after them
    shows_front : (I : Film)
        → shows w first rows I held ≡ row_of (rows * row_length w.f_size) (film_dot w first I) ++ drop (rows * row_length w.f_size) held
    unfolding shows shown_dot
    shows_front I =
        let n = 8 * row_length w.f_size in
        let p : 0 < n = omega arith in
        let m : rows * n ≡ 8 * (rows * row_length w.f_size) = mul_left_comm rows 8 (row_length w.f_size) in
        let d = shown_dot w first rows I held in
        row_of_front (rows * row_length w.f_size) d held bytes fits
        (λ g l. ap (λ (t : Bool). cond t (film_dot w first I g) (dot_at held g)) (le-ltb (g / n) rows ((le-div_iff_mul-le p).1 (rw m l))))
        ∙ ap (λ (r : List ℕ). r ++ drop (rows * row_length w.f_size) held)
        (row_of-same (rows * row_length w.f_size) d (film_dot w first I)
        (λ g l. ap (λ (t : Bool). cond t (film_dot w first I g) (dot_at held g)) (lt-ltb (g / n) rows ((div-lt_iff_lt-mul p).1 (rw m l)))))

    -- cleared it shows a film without dots
    shows_none : blank (rows * row_length w.f_size) ++ drop (rows * row_length w.f_size) held ≡ shows w first rows (λ s f. false) held
    unfolding film_dot
    shows_none =
        sym
        (shows_front (λ s f. false)
        ∙ ap (λ (r : List ℕ). r ++ drop (rows * row_length w.f_size) held)
        (row_of-same (rows * row_length w.f_size) (film_dot w first (λ s f. false)) (λ f. false)
        (λ g l. and-false (ltb (g % (8 * row_length w.f_size)) w.f_size))))

    -- the film's rows, and the bytes after them
    shows_rows : (I : Film)
        → shows w first rows I held ≡ joined (numbered first rows (λ s. window_row w (I s))) ++ drop (rows * row_length w.f_size) held
    shows_rows I = shows_front I ∙ ap (λ (r : List ℕ). r ++ drop (rows * row_length w.f_size) held) (film_rows w some I first rows)

-- ---- strokes carried out on a buffer

-- one after another, on a buffer as it is
unfoldable pub ink_out : Frame → List Stroke → List ℕ → List ℕ
ink_out frame [] buf = buf
ink_out frame (k ∷ ks) buf = ink_out frame ks (painted_frame frame k.colour (covers k) buf)

module _ (frame : Frame) (held : List ℕ) (fits : Fits held frame) where
  -- on one that shows a film
  ink_shows : (ks : List Stroke) (I : Film)
      → ink_out frame ks (shows (window_of frame) frame.top frame.rows I held)
      ≡ shows (window_of frame) frame.top frame.rows (carry_out ks I) held
  unfolding ink_out carry_out
  ink_shows [] I = refl
  ink_shows (k ∷ ks) I =
      ap (ink_out frame ks) (shows_painted (window_of frame) frame.top frame.rows held fits.1 k.colour (covers k) I)
      ∙ ink_shows ks (λ s f. painted k.colour s f (covers k s f) (I s f))

  -- on one whose first n bytes, those of the rows, came back cleared
  pub ink_cleared : (ks : List Stroke) (n : ℕ) (row : List ℕ) → Bytes held → n ≡ frame.rows * row_length frame.width
      → row ≡ row_of (length (take n held)) (λ f. false) → ink_out frame ks (row ++ drop n held) ≡ inked_with frame ks held
  unfolding film_of rows_of
  ink_cleared ks n row bytes size clears =
      let w = window_of frame in
      ap (ink_out frame ks)
      (ap (λ (r : List ℕ). r ++ drop n held) (clears ∙ ap blank (length-take-le n held (omega (arith, fits.1))))
      ∙ ap (λ (k : ℕ). blank k ++ drop k held) size
      ∙ shows_none w frame.top frame.rows held fits.1 fits.0 bytes)
      ∙ ink_shows ks (λ s f. false)
      ∙ shows_rows w frame.top frame.rows held fits.1 fits.0 bytes (carry_out ks (λ s f. false))

  -- it keeps its length
  pub inked-length : (ks : List Stroke) (buf : List ℕ) → buf ≡ inked_with frame ks held → length buf ≡ length held
  inked-length ks buf e =
      let n = frame.rows * row_length frame.width in
      let rows = joined (rows_of (window_of frame) frame.top frame.rows ks) in
      ap length e ∙ length-append rows (drop n held)
      ∙ omega (arith, fits.1, length_rows (window_of frame) frame.top frame.rows ks, length-drop n held)

-- ---- the band from place b up to e of a sheet

-- its strokes
abbrev pub band_strokes : (sheet load : List ℕ) (b e : ℕ) → List Stroke
band_strokes sheet load b e = strokes b (reading sheet load b e).items

-- the strokes ahead of the cursor, carried out on the buffer as it is, give what all of them give on the buffer `cleared`
pub record Inked (frame : Frame) (sheet load : List ℕ) (b e : ℕ) (cleared buf : List ℕ) (c : Cursor) : Type 0 where
  pub is : ink_out frame (ahead_of sheet load e c).strokes buf ≡ ink_out frame (band_strokes sheet load b e) cleared

-- at the band's first command
pub inked-first : (frame : Frame) (sheet load : List ℕ) (b e : ℕ) (cleared : List ℕ) (c : Cursor)
    → (c.at ≡ b) × (c.least ≡ 0) × (c.colour ≡ colour.Solid true) → Inked frame sheet load b e cleared cleared c
inked-first frame sheet load b e cleared c s = record { is = ap (λ (a : Ahead). ink_out frame a.strokes cleared) (ahead-at-start sheet load b e c s) }

module _ {frame : Frame} {sheet load : List ℕ} {b e : ℕ} {cleared buf : List ℕ} {c : Cursor}
    (i : Inked frame sheet load b e cleared buf c) {r : Result (Option Step) Refusal} (x : Stepped sheet load e c r) where
  -- by the cursor's step
  onto : (s : Result (Option Step) Refusal) → r ≡ s → ink_out frame (step_as sheet load e c s).strokes buf ≡ ink_out frame (band_strokes sheet load b e) cleared
  onto s q = ap (λ (a : Ahead). ink_out frame a.strokes buf) (sym (met s x q).0) ∙ i.is

  -- a mask was painted
  pub inked_paint : {buf' : List ℕ} (m : code-mask.Mask) (p : ℕ) → r ≡ Ok (Some (step.Paint m p))
      → buf' ≡ painted_frame frame (colour_of c.colour) (masked (mask_of m)) buf → Inked frame sheet load b e cleared buf' (moved_to p c)
  unfolding ink_out
  inked_paint m p q paints =
      let M = masked (mask_of m) in
      let every : M ≡ covers (stroke c.at c.least (colour_of c.colour) (mask_of m)) =
      fun_ext (λ s. fun_ext (λ f. sym (ap (λ (t : Bool). t && M s f) (leb-zero s)))) in
      record {
        is =
            ap (ink_out frame (ahead_of sheet load e (moved_to p c)).strokes) (paints ∙ ap (λ (N : Film). painted_frame frame (colour_of c.colour) N buf) every)
            ∙ onto (Ok (Some (step.Paint m p))) q;
      }

  -- another command is passed
  pub inked_other : (d : Cursor) → r ≡ Ok (Some (step.Other d)) → Inked frame sheet load b e cleared buf d
  inked_other d q = record { is = onto (Ok (Some (step.Other d))) q }

  -- no command is left, or one is refused
  pub inked_end : result_unwrap_or r None ≡ None → buf ≡ ink_out frame (band_strokes sheet load b e) cleared
  unfolding ink_out
  inked_end q = go r refl q
    where
      go : (s : Result (Option Step) Refusal) → r ≡ s → result_unwrap_or s None ≡ None → buf ≡ ink_out frame (band_strokes sheet load b e) cleared
      go (Ok None) h q = onto (Ok None) h
      go (Ok (Some s)) h q = absurd (cc)
      go (Err v) h q = onto (Err v) h

  -- a command is refused
  pub inked-refused : (v : Refusal) → r ≡ Err v → buf ≡ ink_out frame (band_strokes sheet load b e) cleared
  unfolding ink_out
  inked-refused v q = onto (Err v) q

-- a step that is no refusal
pub stepped : (r : Result (Option Step) Refusal) (s : Step) → result_unwrap_or r None ≡ Some s → r ≡ Ok (Some s)
stepped (Ok o) s q = ap Ok q
stepped (Err v) s q = absurd (cc)
