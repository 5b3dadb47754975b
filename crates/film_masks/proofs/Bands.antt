-- Laws of a band buffer after a mask was painted, and of what is left to paint. Assumes nothing.
use mathlib.Core.Path.{◌≡◌, refl, sym, ap, ap₂, ◌∙◌, fun_ext}
use mathlib.Core.Bool.{Bool, true, false, cond, ◌&&◌, ◌||◌, and-false, and-or_distrib_left}
use mathlib.Core.List.{List, ◌++◌}
use Prim.Native.Nat.{ℕ, ◌+◌, ◌-◌, ◌*◌, ◌/◌, ◌%◌, ◌<◌, ◌≤◌}
use native.Mathlib.Nat.{div-add-mod', mul-add-div_right, mul-add-mod_self_right, div-eq_of_lt, mod-eq_of_lt, mul_left_comm, add-zero, suc-mul, mul-le-mul, mul-le-mul_right, le_of_suc-le-suc}
use native.Mathlib.Omega.{arith}
use borrow.Author.Tests.{eq-eqb, ne_eqb, lt-ltb, le-leb, lt-leb, eqb-true, ltb-true}
use lib.Dec.{leb, ltb, eqb}
use lib.ListN.{length, take, drop, length-drop}
use lib.Seq.{length-take-le}
use Rattle.row.specs.Dots.{dot_at, row_of}
use Rattle.row.proofs.Dots.{Bytes, bytes_take, bytes_drop, dot_drop, dot_take, length-row_of, bytes-row_of, row_is, row_of_dots, row_of-same, row_of_add, rewritten}
use Rattle.film_commands.specs.Band.{Colour}
use Rattle.film_herald.specs.Herald.{Window, row_length}
use Rattle.film_imaging.specs.Masks.{Film}
use Rattle.film_imaging.specs.Colours.{painted}
use Rattle.film_paint.specs.Rows.{painted_line, painted_row}
use Rattle.film_paint.proofs.Painting.{painted_off, painted_twice}
use Rattle.film_masks.specs.Bands.{painted_dot, painted_band}

-- ---- tests joined

and_same : (a b x y : Bool) → (a ≡ true → b ≡ true → x ≡ y) → (a && b && x) ≡ (a && b && y)
and_same true true x y h = h refl refl
and_same true false x y h = refl
and_same false b x y h = refl

and_none : (a b c x : Bool) → (b ≡ true → c ≡ true → ⊥) → (a && b && (c && x)) ≡ false
and_none true true true x h = absurd (h refl refl)
and_none true true false x h = refl
and_none true false c x h = refl
and_none false b c x h = refl

-- row k of the buffer ends within it
pub row_fits : (k rows n size : ℕ) → k < rows → rows * n ≤ size → k * n + n ≤ size
row_fits k rows n size h l = omega (arith, suc-mul k n, mul-le-mul_right n h)

-- the bytes of a band's rows
pub rows_bytes_lem : (rows width : ℕ) → rows < 65536 → width < 65536 → rows * row_length width ≤ 65535 * 8192
rows_bytes_lem rows width h l = let n : row_length width ≤ 8192 = omega arith in mul-le-mul (le_of_suc-le-suc h) n

-- two masks are the same on the band's lines
abbrev pub Same : (first rows : ℕ) → Film → Film → Type 0
Same first rows M N = (s f : ℕ) → first ≤ s → s < first + rows → M s f ≡ N s f

module _ (w : Window) (first rows : ℕ) (C : Colour) where
  abbrev dots : Film → (ℕ → Bool) → ℕ → Bool
  dots = painted_dot w first rows C

  abbrev band : Film → List ℕ → List ℕ
  band = painted_band w first rows C

  -- the dot is painted where the mask is b, its row and place being those of dot g
  abbrev on : ℕ → Bool → Bool → Bool
  on g b x = let n = 8 * row_length w.f_size in painted C (first + g / n) (w.f_min + g % n) b x

  dot_same : (M N : Film) (d : ℕ → Bool) (g : ℕ) → Same first rows M N → dots M d g ≡ dots N d g
  unfolding painted_dot
  dot_same M N d g h =
      let n = 8 * row_length w.f_size in
      let s = first + g / n in
      let f = w.f_min + g % n in
      ap (λ (b : Bool). on g b (d g))
      (and_same (ltb (g / n) rows) (ltb (g % n) w.f_size) (M s f) (N s f) (λ a b. h s f (omega arith) (omega (arith, ltb-true (g / n) rows a))))

  -- masks that are the same on the band give the same buffer
  pub band_same : (M N : Film) (buf : List ℕ) → Same first rows M N → band M buf ≡ band N buf
  unfolding painted_band
  band_same M N buf h =
      ap (λ (d : ℕ → Bool). cond (leb (rows * row_length w.f_size) (length buf)) (row_of (length buf) d) buf)
      (fun_ext (λ g. dot_same M N (dot_at buf) g h))

  -- a mask without dots on the band leaves the buffer
  pub band_none : (M : Film) (buf : List ℕ) → Bytes buf → Same first rows M (λ s f. false) → band M buf ≡ buf
  unfolding painted_band painted_dot
  band_none M buf bytes h =
      band_same M (λ s f. false) buf h
      ∙ ap (λ (d : ℕ → Bool). cond (leb (rows * row_length w.f_size) (length buf)) (row_of (length buf) d) buf) (fun_ext off)
      ∙ ap (λ (r : List ℕ). cond (leb (rows * row_length w.f_size) (length buf)) r buf) (sym (row_of_dots buf bytes))
      ∙ both (leb (rows * row_length w.f_size) (length buf))
    where
      off : (g : ℕ) → dots (λ s f. false) (dot_at buf) g ≡ dot_at buf g
      off g =
          let n = 8 * row_length w.f_size in
          ap (λ (b : Bool). on g b (dot_at buf g)) (and-false (ltb (g / n) rows && ltb (g % n) w.f_size))
          ∙ painted_off C (first + g / n) (w.f_min + g % n) (dot_at buf g)

      both : (t : Bool) → cond t buf buf ≡ buf
      both true = refl
      both false = refl

  -- so does one whose dots are all right of the window
  pub band_right : (M : Film) (buf : List ℕ) → Bytes buf → ((s f : ℕ) → f < w.f_min + w.f_size → M s f ≡ false) → buf ≡ band M buf
  unfolding painted_band painted_dot
  band_right M buf bytes h =
      sym
      (ap (λ (d : ℕ → Bool). cond (leb (rows * row_length w.f_size) (length buf)) (row_of (length buf) d) buf) (fun_ext clipped)
      ∙ band_none (λ s f. false) buf bytes (λ s f a b. refl))
    where
      clipped : (g : ℕ) → dots M (dot_at buf) g ≡ dots (λ s f. false) (dot_at buf) g
      clipped g =
          let n = 8 * row_length w.f_size in
          let f = w.f_min + g % n in
          ap (λ (b : Bool). on g b (dot_at buf g))
          (and_same (ltb (g / n) rows) (ltb (g % n) w.f_size) (M (first + g / n) f) false
          (λ a b. h (first + g / n) f (omega (arith, ltb-true (g % n) w.f_size b))))

  -- a painted buffer keeps its length, and its bytes are bytes
  pub length_band : (M : Film) (buf : List ℕ) → length (band M buf) ≡ length buf
  unfolding painted_band
  length_band M buf = go (leb (rows * row_length w.f_size) (length buf))
    where
      go : (t : Bool) → length (cond t (row_of (length buf) (dots M (dot_at buf))) buf) ≡ length buf
      go true = length-row_of (length buf) (dots M (dot_at buf))
      go false = refl

  pub bytes_band : (M : Film) (buf : List ℕ) → Bytes buf → Bytes (band M buf)
  unfolding painted_band
  bytes_band M buf h = go (leb (rows * row_length w.f_size) (length buf))
    where
      go : (t : Bool) → Bytes (cond t (row_of (length buf) (dots M (dot_at buf))) buf)
      go true = bytes-row_of (length buf) (dots M (dot_at buf))
      go false = h

  -- one mask after another is the two together
  pub band_union : (M N : Film) (buf : List ℕ) → band (λ s f. M s f || N s f) buf ≡ band N (band M buf)
  unfolding painted_band painted_dot
  band_union M N buf = go (leb (rows * row_length w.f_size) (length buf)) refl
    where
      both : ℕ → Bool
      both = dots (λ s f. M s f || N s f) (dot_at buf)

      one : List ℕ
      one = row_of (length buf) (dots M (dot_at buf))

      twice : (g : ℕ) → dots N (dots M (dot_at buf)) g ≡ both g
      twice g =
          let n = 8 * row_length w.f_size in
          let s = first + g / n in
          let f = w.f_min + g % n in
          let a = ltb (g / n) rows && ltb (g % n) w.f_size in
          painted_twice C s f (a && M s f) (a && N s f) (dot_at buf g)
          ∙ sym (ap (λ (b : Bool). painted C s f b (dot_at buf g)) (and-or_distrib_left a (M s f) (N s f)))

      go : (t : Bool) → leb (rows * row_length w.f_size) (length buf) ≡ t → cond t (row_of (length buf) both) buf ≡ band N (cond t one buf)
      go false e = sym (ap (λ (t : Bool). cond t (row_of (length buf) (dots N (dot_at buf))) buf) e)
      go true e =
          sym
          (ap (λ (t : Bool). cond t (row_of (length one) (dots N (dot_at one))) one)
          (ap (leb (rows * row_length w.f_size)) (length-row_of (length buf) (dots M (dot_at buf))) ∙ e)
          ∙ rewritten (length buf)
          (λ g x.
          let n = 8 * row_length w.f_size in
          on g (ltb (g / n) rows && ltb (g % n) w.f_size && N (first + g / n) (w.f_min + g % n)) x)
          (dots M (dot_at buf)) one (row_of (length one) (dots N (dot_at one))) refl refl
          ∙ row_of-same (length buf) (dots N (dots M (dot_at buf))) both (λ g l. twice g))

  -- a buffer that is not shorter than the rows
  pub band_is : (M : Film) (buf : List ℕ) → rows * row_length w.f_size ≤ length buf → band M buf ≡ row_of (length buf) (dots M (dot_at buf))
  unfolding painted_band
  band_is M buf h = ap (λ (t : Bool). cond t (row_of (length buf) (dots M (dot_at buf))) buf) (le-leb (rows * row_length w.f_size) (length buf) h)

  -- one that is shorter
  pub band_short : (M : Film) (buf : List ℕ) → length buf < rows * row_length w.f_size → buf ≡ band M buf
  unfolding painted_band
  band_short M buf h =
      sym (ap (λ (t : Bool). cond t (row_of (length buf) (dots M (dot_at buf))) buf) (lt-leb (rows * row_length w.f_size) (length buf) h))

  -- ---- line s painted in its row

  -- a line that the band has not
  pub band_off : (s : ℕ) (L : ℕ → Bool) (buf : List ℕ) → Bytes buf → (first ≤ s → s < first + rows → ⊥) → buf ≡ band (λ t f. eqb t s && L f) buf
  band_off s L buf bytes out =
      sym (band_none (λ t f. eqb t s && L f) buf bytes (λ t f a b. ap (λ (x : Bool). x && L f) (ne_eqb t s (λ e. out (omega arith) (omega arith)))))

  module _ (s k at : ℕ) (buf : List ℕ) (L : ℕ → Bool) (es : s ≡ first + k) (ea : at ≡ k * row_length w.f_size) where
    abbrev of_line : Film
    of_line t f = eqb t s && L f

    -- the row's dots stand from 8 * at on
    row_at : k * (8 * row_length w.f_size) ≡ 8 * at
    row_at = mul_left_comm k 8 (row_length w.f_size) ∙ ap (λ (x : ℕ). 8 * x) (sym ea)

    -- dots before and after the row stay
    off_row : (g : ℕ) → (8 * at ≤ g → g < 8 * at + 8 * row_length w.f_size → ⊥) → dots of_line (dot_at buf) g ≡ dot_at buf g
    unfolding painted_dot
    off_row g out =
        let n = 8 * row_length w.f_size in
        ap (λ (b : Bool). on g b (dot_at buf g))
        (and_none (ltb (g / n) rows) (ltb (g % n) w.f_size) (eqb (first + g / n) s) (L (w.f_min + g % n))
        (λ b e.
        let q : g / n ≡ k = omega (arith, eqb-true (first + g / n) s e) in
        let p : g / n * n ≡ 8 * at = ap (λ (x : ℕ). x * n) q ∙ row_at in
        out (omega (arith, div-add-mod' g n)) (omega (arith, div-add-mod' g n, ltb-true (g % n) w.f_size b))))
        ∙ painted_off C (first + g / n) (w.f_min + g % n) (dot_at buf g)

    -- dot j of the row
    on_row : (j : ℕ) → k < rows → j < 8 * row_length w.f_size
        → dots of_line (dot_at buf) (8 * at + j) ≡ painted C s (w.f_min + j) (ltb j w.f_size && L (w.f_min + j)) (dot_at buf (8 * at + j))
    unfolding painted_dot
    on_row j h l =
        let n = 8 * row_length w.f_size in
        let z : 0 < n = omega arith in
        let q : (8 * at + j) / n ≡ k =
        ap (λ (x : ℕ). (x + j) / n) (sym row_at) ∙ mul-add-div_right z k j ∙ ap (λ (x : ℕ). k + x) (div-eq_of_lt l) ∙ add-zero k in
        let r : (8 * at + j) % n ≡ j = ap (λ (x : ℕ). (x + j) % n) (sym row_at) ∙ mul-add-mod_self_right k n j ∙ mod-eq_of_lt l in
        ap₂
        (λ (x y : ℕ).
        painted C (first + x) (w.f_min + y) (ltb x rows && ltb y w.f_size && (eqb (first + x) s && L (w.f_min + y))) (dot_at buf (8 * at + j))) q r
        ∙ rw (lt-ltb k rows h, eq-eqb (first + k) s (sym es), es) refl

    -- the buffer whose part of m bytes at that row came back as row'
    pub band_one : (m : ℕ) (row' : List ℕ) → k < rows → rows * row_length w.f_size ≤ length buf → Bytes buf → m ≡ row_length w.f_size
        → row' ≡ painted_row w C s L (take m (drop at buf)) → take at buf ++ (row' ++ drop m (drop at buf)) ≡ band of_line buf
    unfolding painted_line
    band_one m row' h l bytes em e =
        let d = dots of_line (dot_at buf) in
        let r = length buf - at - m in
        let fits : at + m ≤ length buf = omega (arith, row_fits k rows (row_length w.f_size) (length buf) h l) in
        let len : length buf ≡ at + (m + r) = omega arith in
        let left : length (drop at buf) ≡ length buf - at = length-drop at buf in
        sym
        (band_is of_line buf l ∙ ap (λ (n : ℕ). row_of n d) len ∙ row_of_add at (m + r) d
        ∙ ap₂ ◌++◌
        (sym
        (row_is at d (take at buf) (bytes_take at buf bytes) (length-take-le at buf (omega arith))
        (λ g p. dot_take at buf g (omega arith) p ∙ sym (off_row g (λ a b. omega arith)))))
        (row_of_add m r (λ f. d (8 * at + f))
        ∙ ap₂ ◌++◌
        (sym
        (e ∙ ap (λ (n : ℕ). row_of n (painted_line w C s L (dot_at (take m (drop at buf))))) (length-take-le m (drop at buf) (omega arith))
        ∙ row_of-same m (painted_line w C s L (dot_at (take m (drop at buf)))) (λ f. d (8 * at + f))
        (λ j p.
        ap (painted C s (w.f_min + j) (ltb j w.f_size && L (w.f_min + j))) (dot_take m (drop at buf) j (omega arith) p ∙ dot_drop buf at j)
        ∙ sym (on_row j h (omega arith)))))
        (sym
        (row_is r (λ f. d (8 * at + (8 * m + f))) (drop m (drop at buf)) (bytes_drop m (drop at buf) (bytes_drop at buf bytes))
        (length-drop m (drop at buf) ∙ ap (λ (n : ℕ). n - m) left)
        (λ f p. dot_drop (drop at buf) m f ∙ dot_drop buf at (8 * m + f) ∙ sym (off_row (8 * at + (8 * m + f)) (λ a b. omega arith)))))))

  -- ---- what is left to paint: the mask M, painted on the buffer as it is, gives the buffer `whole`

  pub record Left (M : Film) (buf whole : List ℕ) : Type 0 where
    pub bytes : Bytes buf
    pub gives : band M buf ≡ whole

module _ {w : Window} {first rows : ℕ} {C : Colour} where
  -- at the beginning it is the whole mask W
  pub left_first : (W : Film) {M : Film} {buf : List ℕ} → Bytes buf → Same first rows M W → Left w first rows C M buf (painted_band w first rows C W buf)
  left_first W {M} {buf} bytes h = record { bytes = bytes; gives = band_same w first rows C M W buf h }

  -- the part N of it has been painted, and R is left
  pub left_next : {M R : Film} (N : Film) {buf buf' whole : List ℕ} → Left w first rows C M buf whole → buf' ≡ painted_band w first rows C N buf
      → Same first rows M (λ s f. N s f || R s f) → Left w first rows C R buf' whole
  left_next {M} {R} N {buf} l e h =
      record {
        bytes = rw e (bytes_band w first rows C N buf l.bytes);
        gives =
            ap (painted_band w first rows C R) e ∙ sym (band_union w first rows C N R buf)
            ∙ sym (band_same w first rows C M (λ s f. N s f || R s f) buf h) ∙ l.gives;
      }

  -- no dot of the band is left
  pub left_none : {M : Film} {buf whole : List ℕ} → Left w first rows C M buf whole → Same first rows M (λ s f. false) → buf ≡ whole
  left_none {M} {buf} l h = sym (band_none w first rows C M buf l.bytes h) ∙ l.gives

  pub left_length : {M : Film} (W : Film) {buf : List ℕ} (buf₀ : List ℕ) → Left w first rows C M buf (painted_band w first rows C W buf₀)
      → length buf ≡ length buf₀
  left_length {M} W {buf} buf₀ l = sym (length_band w first rows C M buf) ∙ ap length l.gives ∙ length_band w first rows C W buf₀
