-- Laws of a line painted dot by dot into its row, whose first dot is dot `left` of the film: M is the mask by the row's dots, and d are those dots
-- before. Assumes nothing.
use mathlib.Core.Path.{◌≡◌, refl, sym, ap, ◌∙◌}
use mathlib.Core.Bool.{Bool, true, false, cond, ◌&&◌, and-true, and-false}
use mathlib.Core.List.{List}
use Prim.Native.Nat.{ℕ, ◌+◌, ◌-◌, ◌*◌, ◌<◌, ◌≤◌, min}
use native.Mathlib.Omega.{arith}
use native.Mathlib.Decide.{ℕ_discrete, dec_le, dec_lt}
use borrow.Author.Tests.{eq-eqb, ne_eqb, lt-ltb, le-ltb, le-leb, lt-leb}
use lib.Dec.{eqb, leb, ltb}
use lib.ListN.{length}
use Rattle.row.specs.Dots.{dot_at, row_of}
use Rattle.row.specs.Stretches.{with_dot, filled}
use Rattle.row.proofs.Dots.{Bytes, row_is, row_of-same, dot_row_of, length_is}
use Rattle.truth.proofs.Tests.{Is, leb_is, ltb_is, and_is, is_same}
use Rattle.film_words.specs.Words.{words, at}
use Rattle.film_words.specs.Arrays.{samples_in}
use Rattle.film_commands.specs.Band.{Colour, tiled}
use Rattle.film_commands.specs.Code.{colour_of}
use Rattle.film_commands.specs.declared.Tile as code-tile
use Rattle.film_commands.specs.declared.Colour as code
use Rattle.film_commands.specs.declared.Colour.TheVariants.{Solid, Tile}
use Rattle.film_herald.specs.Herald.{Window}
use Rattle.film_imaging.specs.Masks.{sample}
use Rattle.film_imaging.specs.Colours.{painted}
use Rattle.film_paint.specs.Rows.{painted_line}
use Rattle.film_paint.proofs.Samples.{past_dots}
use Rattle.film_paint.proofs.Painting.{painted_off, solid-painted, tile-painted}

-- a mask without dots leaves the row
pub line_empty : (w : Window) (C : Colour) (s : ℕ) (M : ℕ → Bool) (row : List ℕ) → Bytes row → ((f : ℕ) → M f ≡ false)
    → row ≡ row_of (length row) (painted_line w C s M (dot_at row))
unfolding painted_line
line_empty w C s M row bytes none =
    row_is (length row) (painted_line w C s M (dot_at row)) row bytes refl
    (λ j l. sym (rw (none (w.f_min + j), and-false) (painted_off C s (w.f_min + j) (dot_at row j))))

-- a mask with the same dots of the row
mask_same : (left : ℕ) (C : Colour) (s n : ℕ) (M N d : ℕ → Bool) (row : List ℕ) → ((j : ℕ) → j < 8 * n → M j ≡ N j)
    → row ≡ row_of n (λ j. painted C s (left + j) (M j) (d j)) → row ≡ row_of n (λ j. painted C s (left + j) (N j) (d j))
mask_same left C s n M N d row h e =
    e ∙ row_of-same n (λ j. painted C s (left + j) (M j) (d j)) (λ j. painted C s (left + j) (N j) (d j))
    (λ j l. ap (λ (x : Bool). painted C s (left + j) x (d j)) (h j l))

-- ---- dot by dot

-- the dots before dot k of the row are painted, and the others are as they were
unfoldable pub painted_to : (k left : ℕ) → Colour → (s : ℕ) → (M d : ℕ → Bool) → ℕ → Bool
painted_to k left C s M d j = painted C s (left + j) (ltb j k && M j) (d j)

-- those of the mask M from dot `from` up to, not including, `to`
abbrev pub part : (from to left : ℕ) → (M : ℕ → Bool) → ℕ → Bool
part from to left M j = leb from j && ltb j to && M (left + j)

module _ (from to left : ℕ) (C : Colour) (s : ℕ) (M : ℕ → Bool) where
  -- none is painted yet
  pub part_none : (row : List ℕ) → Bytes row → row ≡ row_of (length row) (painted_to from left C s (part from to left M) (dot_at row))
  unfolding painted_to
  part_none row bytes =
      row_is (length row) (painted_to from left C s (part from to left M) (dot_at row)) row bytes refl
      (λ j l. sym (ap (λ (x : Bool). painted C s (left + j) x (dot_at row j)) (go j (dec_lt j from)) ∙ painted_off C s (left + j) (dot_at row j)))
    where
      go : (j : ℕ) → Dec (j < from) → (ltb j from && part from to left M j) ≡ false
      go j (yes h) = rw (lt-ltb j from h, lt-leb from j h)
      go j (no h) = rw (le-ltb j from (omega arith))

  module _ (n k : ℕ) (d : ℕ → Bool) (row : List ℕ) (e : row ≡ row_of n (painted_to k left C s (part from to left M) d)) where
    -- those before k are painted, and then dot k, which the mask has
    pub part_more : (row' : List ℕ) → row' ≡ row_of (length row) (with_dot k (painted C s (left + k) true (dot_at row k)) (dot_at row))
        → from ≤ k → k < to → M (left + k) ≡ true → row' ≡ row_of n (painted_to (k + 1) left C s (part from to left M) d)
    unfolding painted_to with_dot
    part_more row' e' a b h =
        e' ∙ ap (λ (b : ℕ). row_of b (with_dot k (painted C s (left + k) true (dot_at row k)) (dot_at row))) (length_is n (painted_to k left C s (part from to left M) d) row e)
        ∙ row_of-same n (with_dot k (painted C s (left + k) true (dot_at row k)) (dot_at row)) (painted_to (k + 1) left C s (part from to left M) d)
        (λ j l. go j (ap (λ (r : List ℕ). dot_at r j) e ∙ dot_row_of n (painted_to k left C s (part from to left M) d) j l) (ℕ_discrete j k))
      where
        go : (j : ℕ) → dot_at row j ≡ painted C s (left + j) (ltb j k && part from to left M j) (d j) → Dec (j ≡ k)
            → cond (eqb j k) (painted C s (left + k) true (dot_at row k)) (dot_at row j)
            ≡ painted C s (left + j) (ltb j (k + 1) && part from to left M j) (d j)
        go j o (yes q) =
            let old : dot_at row k ≡ d k = ap (dot_at row) (sym q) ∙ o ∙ rw (q, le-ltb k k (omega arith)) (painted_off C s (left + k) (d k)) in
            rw (eq-eqb j k q, old, q, lt-ltb k (k + 1) (omega arith), le-leb from k a, lt-ltb k to b, h)
        go j o (no q) =
            rw (ne_eqb j k q)
            (o ∙ ap (λ (x : Bool). painted C s (left + j) (x && part from to left M j) (d j))
            (is_same (ltb j k) (ltb j (k + 1)) (ltb_is j k) (ltb_is j (k + 1)) (λ a. omega arith) (λ a. omega arith)))

    -- dot k stays, which the mask has not
    pub part_kept : M (left + k) ≡ false → row ≡ row_of n (painted_to (k + 1) left C s (part from to left M) d)
    unfolding painted_to
    part_kept h = mask_same left C s n (λ j. ltb j k && part from to left M j) (λ j. ltb j (k + 1) && part from to left M j) d row (λ j l. go j (ℕ_discrete j k)) e
      where
        go : (j : ℕ) → Dec (j ≡ k) → (ltb j k && part from to left M j) ≡ (ltb j (k + 1) && part from to left M j)
        go j (yes q) = rw (q, h) (simp and-false)
        go j (no q) =
            ap (λ (x : Bool). x && part from to left M j)
            (is_same (ltb j k) (ltb j (k + 1)) (ltb_is j k) (ltb_is j (k + 1)) (λ a. omega arith) (λ a. omega arith))

    -- all are painted: k is at the end, or past the row's
    pub part_done : min to (8 * n) ≤ k → row ≡ row_of n (λ j. painted C s (left + j) (part from to left M j) (d j))
    unfolding painted_to
    part_done h = mask_same left C s n (λ j. ltb j k && part from to left M j) (part from to left M) d row (λ j l. go j l (dec_lt j k)) e
      where
        go : (j : ℕ) → j < 8 * n → Dec (j < k) → (ltb j k && part from to left M j) ≡ part from to left M j
        go j l (yes p) = rw (lt-ltb j k p)
        go j l (no p) = rw (le-ltb j k (omega arith), le-ltb j to (omega arith)) (simp and-false)

-- ---- dot by dot, for any mask that has no dot elsewhere

-- every dot of the mask is one of those from `from` up to, not including, `end`
abbrev pub Between : (from end : ℕ) → (ℕ → Bool) → Type 0
Between from end M = (j : ℕ) → (from ≤ j → j < end → ⊥) → M j ≡ false

module _ (left : ℕ) (C : Colour) (s : ℕ) (M : ℕ → Bool) where
  -- none is painted yet
  pub line_none : (from end : ℕ) (row : List ℕ) → Between from end M → Bytes row → row ≡ row_of (length row) (painted_to from left C s M (dot_at row))
  unfolding painted_to
  line_none from end row within bytes =
      row_is (length row) (painted_to from left C s M (dot_at row)) row bytes refl
      (λ j l. sym (ap (λ (x : Bool). painted C s (left + j) x (dot_at row j)) (go j (dec_lt j from)) ∙ painted_off C s (left + j) (dot_at row j)))
    where
      go : (j : ℕ) → Dec (j < from) → (ltb j from && M j) ≡ false
      go j (yes h) = rw (lt-ltb j from h) (within j (λ p q. omega arith))
      go j (no h) = rw (le-ltb j from (omega arith))

  -- those before k are painted, and then dot k; m is the mask there
  pub line_more : (n k : ℕ) (m : Bool) (d : ℕ → Bool) (row row' : List ℕ) → row ≡ row_of n (painted_to k left C s M d)
      → row' ≡ row_of (length row) (with_dot k (painted C s (left + k) m (dot_at row k)) (dot_at row)) → m ≡ M k
      → row' ≡ row_of n (painted_to (k + 1) left C s M d)
  unfolding painted_to with_dot
  line_more n k m d row row' e e' h =
      e' ∙ ap (λ (b : ℕ). row_of b (with_dot k (painted C s (left + k) m (dot_at row k)) (dot_at row))) (length_is n (painted_to k left C s M d) row e)
      ∙ row_of-same n (with_dot k (painted C s (left + k) m (dot_at row k)) (dot_at row)) (painted_to (k + 1) left C s M d)
      (λ j l. go j (ap (λ (r : List ℕ). dot_at r j) e ∙ dot_row_of n (painted_to k left C s M d) j l) (ℕ_discrete j k))
    where
      go : (j : ℕ) → dot_at row j ≡ painted C s (left + j) (ltb j k && M j) (d j) → Dec (j ≡ k)
          → cond (eqb j k) (painted C s (left + k) m (dot_at row k)) (dot_at row j) ≡ painted C s (left + j) (ltb j (k + 1) && M j) (d j)
      go j o (yes q) =
          let old : dot_at row k ≡ d k = ap (dot_at row) (sym q) ∙ o ∙ rw (q, le-ltb k k (omega arith)) (painted_off C s (left + k) (d k)) in
          rw (eq-eqb j k q, old, q, lt-ltb k (k + 1) (omega arith), h)
      go j o (no q) =
          rw (ne_eqb j k q)
          (o ∙ ap (λ (x : Bool). painted C s (left + j) (x && M j) (d j))
          (is_same (ltb j k) (ltb j (k + 1)) (ltb_is j k) (ltb_is j (k + 1)) (λ a. omega arith) (λ a. omega arith)))

  -- all are painted: k is at the end, or past the row's
  pub line_done : (n from end k : ℕ) (d : ℕ → Bool) (row : List ℕ) → Between from end M → min end (8 * n) ≤ k
      → row ≡ row_of n (painted_to k left C s M d) → row ≡ row_of n (λ j. painted C s (left + j) (M j) (d j))
  unfolding painted_to
  line_done n from end k d row within h = mask_same left C s n (λ j. ltb j k && M j) M d row (λ j l. go j l (dec_lt j k))
    where
      go : (j : ℕ) → j < 8 * n → Dec (j < k) → (ltb j k && M j) ≡ M j
      go j l (yes p) = rw (lt-ltb j k p)
      go j l (no p) = rw (le-ltb j k (omega arith)) (sym (within j (λ a b. omega arith)))

-- ---- the mask of a stretch

abbrev pub stretch : (from to : ℕ) → ℕ → Bool
stretch from to g = leb from g && ltb g to

pub stretch_is : (from to g : ℕ) → Is (stretch from to g) ((from ≤ g) × (g < to))
stretch_is from to g = and_is (leb from g) (ltb g to) (leb_is from g) (ltb_is g to)

-- a stretch of the film, clipped to the window, is one of the row
pub line_clipped : (n : ℕ) (w : Window) (from to first end : ℕ) (C : Colour) (s : ℕ) (d : ℕ → Bool) (row : List ℕ) → first ≡ from - w.f_min
    → end ≡ min (to - w.f_min) w.f_size → row ≡ row_of n (λ j. painted C s (w.f_min + j) (stretch first end j) (d j))
    → row ≡ row_of n (painted_line w C s (stretch from to) d)
unfolding painted_line
line_clipped n w from to first end C s d row a b =
    mask_same w.f_min C s n (stretch first end) (λ j. ltb j w.f_size && stretch from to (w.f_min + j)) d row
    (λ j l.
    is_same (stretch first end j) (ltb j w.f_size && stretch from to (w.f_min + j)) (stretch_is first end j)
    (and_is (ltb j w.f_size) (stretch from to (w.f_min + j)) (ltb_is j w.f_size) (stretch_is from to (w.f_min + j)))
    (λ p. omega arith) (λ p. omega arith))

-- filled with a solid colour, it is painted
pub line_filled : (n left from to : ℕ) (C : code.Colour) (s : ℕ) (v : Bool) (d : ℕ → Bool) (row : List ℕ) → C ≡ Solid v
    → row ≡ row_of n (filled from to v d) → row ≡ row_of n (λ j. painted (colour_of C) s (left + j) (stretch from to j) (d j))
unfolding filled
line_filled n left from to C s v d row h e =
    e ∙ row_of-same n (filled from to v d) (λ j. painted (colour_of C) s (left + j) (stretch from to j) (d j))
    (λ j l. solid-painted C s (left + j) v (stretch from to j) (d j) h)

-- painted with a tile, it is painted
pub line_tiled : (n left from to : ℕ) (C : code.Colour) (s : ℕ) (t : code-tile.Tile) (d : ℕ → Bool) (row : List ℕ)
    → C ≡ Tile t → row ≡ row_of n (λ j. painted (tiled t.transparent 0 (words t.words.now)) s (left + j) (stretch from to j) (d j))
    → row ≡ row_of n (λ j. painted (colour_of C) s (left + j) (stretch from to j) (d j))
line_tiled n left from to C s t d row h e =
    e ∙ row_of-same n (λ j. painted (tiled t.transparent 0 (words t.words.now)) s (left + j) (stretch from to j) (d j))
    (λ j. painted (colour_of C) s (left + j) (stretch from to j) (d j))
    (λ j l. tile-painted C s (left + j) t (stretch from to j) (d j) h)

-- painted dot by dot with a mask that has every dot
pub line_dotted : (n left from to : ℕ) (C : Colour) (s : ℕ) (d : ℕ → Bool) (row : List ℕ)
    → row ≡ row_of n (λ j. painted C s (left + j) (part from to left (λ f. true) j) (d j))
    → row ≡ row_of n (λ j. painted C s (left + j) (stretch from to j) (d j))
line_dotted n left from to C s d row e =
    mask_same left C s n (part from to left (λ f. true)) (stretch from to) d row (λ j l. and-true (stretch from to j)) e

-- ---- the mask of line i of a sample array, from dot `from` of the film on

-- n are the dots of a line; those from `first` up to `end` are the row's
pub line_sampled : (m : ℕ) (w : Window) (from : ℕ) (ws : List ℕ) (i n first end : ℕ) (C : Colour) (s : ℕ) (d : ℕ → Bool) (row : List ℕ) → n ≡ at ws 1
    → first ≡ from - w.f_min → end ≡ min (from + n - w.f_min) w.f_size
    → row ≡ row_of m (λ j. painted C s (w.f_min + j) (part first end w.f_min (λ f. sample (samples_in ws) i (f - from)) j) (d j))
    → row ≡ row_of m (painted_line w C s (λ f. leb from f && sample (samples_in ws) i (f - from)) d)
unfolding painted_line
line_sampled m w from ws i n first end C s d row e a b =
    mask_same w.f_min C s m (part first end w.f_min (λ f. sample (samples_in ws) i (f - from)))
    (λ j. ltb j w.f_size && (leb from (w.f_min + j) && sample (samples_in ws) i (w.f_min + j - from))) d row
    (λ j l. go j (dec_le from (w.f_min + j)) (dec_lt j w.f_size) (dec_lt j end))
  where
    go : (j : ℕ) → Dec (from ≤ w.f_min + j) → Dec (j < w.f_size) → Dec (j < end)
        → part first end w.f_min (λ f. sample (samples_in ws) i (f - from)) j
        ≡ (ltb j w.f_size && (leb from (w.f_min + j) && sample (samples_in ws) i (w.f_min + j - from)))
    go j (no p) q r = rw (lt-leb from (w.f_min + j) (omega arith), lt-leb first j (omega arith)) (simp and-false)
    go j (yes p) (no q) r = rw (le-ltb j w.f_size (omega arith), le-ltb j end (omega arith)) (simp and-false)
    go j (yes p) (yes q) (yes r) = rw (lt-ltb j w.f_size q, le-leb from (w.f_min + j) p, le-leb first j (omega arith), lt-ltb j end r) refl
    go j (yes p) (yes q) (no r) = rw (← past_dots ws 0 i (w.f_min + j - from) n e (omega arith)) (simp and-false)
