-- Laws of the draw of one band: its frame, its answer and buffer, and the draw's promise. Assumes nothing.
use mathlib.Core.Path.{◌≡◌, refl, sym, ap, ap₂, subst, ◌∙◌}
use mathlib.Core.List.{List, ◌++◌}
use Prim.Native.Nat.{ℕ, ◌*◌, ◌-◌, ◌%◌, ◌<◌, ◌≤◌, min}
use native.Mathlib.Nat.{mul-mod_left}
use native.Mathlib.Omega.{arith}
use borrow.Author.Tests.{lt-ltb, le-ltb}
use lib.ListN.{length, take, drop}
use lib.Seq.{take-append_seam, length-take-le}
use Rattle.std.proofs.Common.{Result, Ok, Err}
use Rattle.refusal.specs.Answers.{Answer, given, refused, and_then, Verdict, fine}
use Rattle.refusal.specs.Tables.{Line, first}
use Rattle.refusal.specs.Code.{refused_as}
use Rattle.refusal.specs.declared.Refusal.{Refusal}
use Rattle.refusal.specs.declared.Fault.TheVariants.{NoBand, ShortBuffer}
use Rattle.refusal.proofs.Tables.{first_yes, first_no, first_last, first-append}
use Rattle.row.specs.Counts.{ones_of, joined}
use Rattle.film_words.specs.Words.{words}
use Rattle.film_words.specs.Load.{load_words}
use Rattle.film_commands.specs.Band.{Stroke}
use Rattle.film_herald.specs.Herald.{Herald, herald_of, page_count, band_count, band_start, band_rows, row_length, whole_film, band_bytes}
use Rattle.film_herald.specs.Refusals.{herald_table, herald_test}
use Rattle.film_herald.proofs.Refusals.{herald_fine}
use Rattle.film_herald.proofs.Herald.{begins, few_bytes}
use Rattle.film_layout.specs.Layout.{Layout, layout_of, Page, reach_page, reach}
use Rattle.film_imaging.specs.Pictures.{rows_of}
use Rattle.film_paint.specs.Rows.{window_of}
use Rattle.film_paint.specs.declared.Frame.{Frame}
use Rattle.film_drawing.specs.Draw.{DrawAnswer, draw_table, drawn_rows, draw_rows, draw_answer, buffer_after}
use Rattle.film_drawing.specs.Promise.{done, due, DrawPromised}
use Rattle.film_drawing.specs.declared.Drawn.{Drawn}
use Rattle.film_drawing.proofs.Rows.{length_rows}
use Rattle.film_draw.specs.Functions.{Fits, FrameOf, inked_with, drawn_by, Answered}

-- ---- a band's frame

-- the lines as the code works them out: n of the page and m of a whole band, r of band b
module _ (sheet : List ℕ) (b n m : ℕ) (z : 0 < (herald_of (words sheet)).band_s_size) (l : b < band_count (herald_of (words sheet)))
    (en : n ≡ (herald_of (words sheet)).image_s_size) (em : m ≡ (herald_of (words sheet)).band_s_size) where
  -- its first line is on the page
  pub first_line : m * b < n
  first_line = rw (en, em) (begins (herald_of (words sheet)) b z l)

  pub start_is : m * b ≡ band_start (herald_of (words sheet)) b
  start_is = ap (λ (x : ℕ). x * b) em

  pub rows_are : (r : ℕ) → r ≡ min m (n - m * b) → r ≡ band_rows (herald_of (words sheet)) b
  rows_are r e = e ∙ ap₂ (λ (x y : ℕ). min x (y - x * b)) em en

-- the bytes of its rows, of w bytes each
pub size_is : {sheet : List ℕ} {b : ℕ} {frame : Frame} (w : ℕ) → FrameOf sheet b frame → w ≡ row_length frame.width
    → frame.rows * w ≡ band_bytes (herald_of (words sheet)) (whole_film (herald_of (words sheet))) b
size_is w f e = ap₂ ◌*◌ f.rows_is (e ∙ ap (λ (x : ℕ). row_length x) f.width_is)

-- where the herald is fine they lie in a buffer that is not too short, and are few
pub frame_fits : {sheet : List ℕ} {b : ℕ} {frame : Frame} (load held : List ℕ) → FrameOf sheet b frame → herald_test sheet load ≡ fine
    → band_bytes (herald_of (words sheet)) (whole_film (herald_of (words sheet))) b ≤ length held
    → Fits held frame × (frame.rows * row_length frame.width ≤ 65536)
frame_fits {sheet} {b} {frame} load held f t h =
    let s = size_is (row_length frame.width) f refl in
    ((omega (arith, f.width_is, (herald_fine sheet load t).dots_low), omega arith), omega (arith, few_bytes sheet load b t))

-- the rows in the buffer as it came back, n bytes: few, and whole rows of w bytes
pub whole_rows : (frame : Frame) (n w : ℕ) (buf buf' : List ℕ) → n ≡ frame.rows * row_length frame.width → w ≡ row_length frame.width
    → length buf' ≡ length buf → Fits buf frame → frame.rows * row_length frame.width ≤ 65536
    → (length (take n buf') ≤ 65536) × (0 < w) × (length (take n buf') % w ≡ 0)
whole_rows frame n w buf buf' en ew l h m =
    let len : length (take n buf') ≡ frame.rows * w = length-take-le n buf' (omega (arith, h.1)) ∙ en ∙ ap (λ (x : ℕ). frame.rows * x) (sym ew) in
    (omega (arith, len, ap (λ (x : ℕ). frame.rows * x) ew), omega (arith, h.0), ap (λ (x : ℕ). x % w) len ∙ mul-mod_left frame.rows w)

-- ---- answers

-- a refusal is handed on, and the buffer stays
pub handed_on : {A : Type 0} {t : Answer A} (k : A → DrawAnswer) (x : Refusal) (held : List ℕ) → refused_as x ≡ t
    → Answered (and_then t k) held (Err x) held
unfolding buffer_after
handed_on {A} k x held e =
    record { answer_is = ap (λ (y : Answer A). due (and_then y k)) e; left_is = ap (λ (y : Answer A). buffer_after (and_then y k) held) e }

-- what was given is gone on with
pub gone_on : {A : Type 0} {t : Answer A} (k : A → DrawAnswer) (a : A) {held : List ℕ} {r : Result Drawn Refusal} {left : List ℕ} → given a ≡ t
    → Answered (k a) held r left → Answered (and_then t k) held r left
gone_on {A} k a {held} {r} {left} e g = subst (λ (y : Answer A). Answered (and_then y k) held r left) e g

-- the strokes are carried out, and the ones of the rows counted, n bytes
pub rows_drawn : (frame : Frame) (ks : List Stroke) (held buf : List ℕ) (n dots : ℕ) → buf ≡ inked_with frame ks held
    → n ≡ frame.rows * row_length frame.width → dots ≡ ones_of (take n buf)
    → Answered (drawn_rows frame.rows (joined (rows_of (window_of frame) frame.top frame.rows ks))) held (Ok (record { rows = frame.rows; dots = dots })) buf
unfolding buffer_after
rows_drawn frame ks held buf n dots o e d =
    let bytes = joined (rows_of (window_of frame) frame.top frame.rows ks) in
    let size : frame.rows * row_length frame.width ≡ length bytes = sym (length_rows (window_of frame) frame.top frame.rows ks) in
    let rows : take n buf ≡ bytes =
    ap₂ (λ (k : ℕ) (r : List ℕ). take k r) (e ∙ size) o ∙ take-append_seam bytes (drop (frame.rows * row_length frame.width) held) in
    record { answer_is = ap (done frame.rows) (d ∙ ap ones_of rows); left_is = o ∙ ap (λ (k : ℕ). bytes ++ drop k held) size }

-- ---- the draw's promise

-- one after another
then_then : {A B C : Type 0} (t : Answer A) (k : A → Answer B) (l : B → Answer C) → and_then (and_then t k) l ≡ and_then t (λ a. and_then (k a) l)
then_then (given a) k l = refl
then_then (refused n p) k l = refl

module _ (sheet load : List ℕ) (page b : ℕ) (held : List ℕ) where
  abbrev h : Herald
  h = herald_of (words sheet)

  -- the draw's own table
  abbrev own : List Line
  own = draw_table h (page_count (words sheet)) page b (length held)

  -- on a page that was reached
  abbrev on_page : Page → DrawAnswer
  on_page q = and_then (reach b q.bands) (λ x. draw_rows q.window (band_start h b) (band_rows h b) (load_words load) x)

  -- the walk
  abbrev walked : DrawAnswer
  walked = and_then (reach_page page (layout_of (words sheet))) on_page

  -- the answer: the herald's table, the draw's own, and the walk
  answer : draw_answer sheet load page b (length held) ≡ and_then (herald_test sheet load) (λ u. and_then (first own) (λ v. walked))
  unfolding draw_answer herald_test
  answer =
      ap (λ (v : Verdict). and_then v (λ u. walked)) (first-append (herald_table sheet load) own)
      ∙ then_then (first (herald_table sheet load)) (λ u. first own) (λ u. walked)

  promised : {r : Result Drawn Refusal} {left : List ℕ} → Answered (and_then (herald_test sheet load) (λ u. and_then (first own) (λ v. walked))) held r left
      → DrawPromised sheet load page b held r left
  promised g =
      record {
        answer_is = g.answer_is ∙ sym (ap due answer);
        left_is = g.left_is ∙ sym (ap (λ (a : DrawAnswer). buffer_after a held) answer);
      }

  -- the herald is refused
  pub promised_herald : (x : Refusal) → refused_as x ≡ herald_test sheet load → DrawPromised sheet load page b held (Err x) held
  promised_herald x e = promised (handed_on (λ u. and_then (first own) (λ v. walked)) x held e)

  module _ (f : herald_test sheet load ≡ fine) where
    -- the draw's own table refuses
    own_refused : (x : Refusal) → first own ≡ refused_as x → DrawPromised sheet load page b held (Err x) held
    own_refused x e = promised (gone_on (λ u. and_then (first own) (λ v. walked)) tt (sym f) (handed_on (λ v. walked) x held (sym e)))

    -- no such page
    pub promised_no_page : page_count (words sheet) ≤ page → DrawPromised sheet load page b held (Err (record { fault = NoBand; place = 0 })) held
    unfolding draw_table
    promised_no_page l = own_refused _ (first_yes _ _ (rw (le-ltb page (page_count (words sheet)) l) refl))

    module _ (p : page < page_count (words sheet)) where
      -- no such band
      pub promised_no_band : band_count h ≤ b → DrawPromised sheet load page b held (Err (record { fault = NoBand; place = 0 })) held
      unfolding draw_table
      promised_no_band l = own_refused _ (first_yes _ _ (rw (lt-ltb page (page_count (words sheet)) p, le-ltb b (band_count h) l) refl))

      module _ (q : b < band_count h) where
        -- the first line of the draw's own table holds not
        there : first own ≡ first (drop 1 own)
        unfolding draw_table
        there = first_no _ _ (rw (lt-ltb page (page_count (words sheet)) p, lt-ltb b (band_count h) q) refl)

        -- the buffer is too short
        pub promised_short : length held < band_bytes h (whole_film h) b → DrawPromised sheet load page b held (Err (record { fault = ShortBuffer; place = 0 })) held
        unfolding draw_table
        promised_short l = own_refused _ (there ∙ first_yes _ _ (lt-ltb (length held) (band_bytes h (whole_film h) b) l))

        module _ (room : band_bytes h (whole_film h) b ≤ length held) where
          -- nothing is refused before the walk
          to_walk : {r : Result Drawn Refusal} {left : List ℕ} → Answered walked held r left → DrawPromised sheet load page b held r left
          unfolding draw_table
          to_walk g =
              promised
              (gone_on (λ u. and_then (first own) (λ v. walked)) tt (sym f)
              (gone_on (λ v. walked) tt (sym (there ∙ first_last _ (le-ltb (length held) (band_bytes h (whole_film h) b) room))) g))

          -- a count before the page is wrong or missing
          pub promised_stop : (x : Refusal) → refused_as x ≡ reach_page page (layout_of (words sheet)) → DrawPromised sheet load page b held (Err x) held
          promised_stop x e = to_walk (handed_on on_page x held e)

          -- the page is reached
          pub promised_page : (bands : Layout) {frame : Frame} {r : Result Drawn Refusal} {left : List ℕ} → FrameOf sheet b frame
              → given (record { window = whole_film h; bands = bands }) ≡ reach_page page (layout_of (words sheet))
              → Answered (and_then (reach b bands) (drawn_by frame load)) held r left
              → DrawPromised sheet load page b held r left
          promised_page bands o e g =
              to_walk (gone_on on_page (record { window = whole_film h; bands = bands }) e (rw (o.top_is, o.rows_is, o.left_is, o.width_is) at g))
