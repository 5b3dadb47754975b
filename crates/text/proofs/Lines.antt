-- Laws of a line of labels and numbers, which is made from its end: what stands from a place on is the text so far; and of the line of a row,
-- which is put into the buffer byte by byte. Assumes nothing.
use mathlib.Core.Path.{◌≡◌, refl, sym, ap, ◌∙◌}
use mathlib.Core.List.{List, [], ◌∷◌, ◌++◌, append_assoc}
use Prim.Native.Nat.{ℕ, zero, suc, ◌+◌, ◌-◌, ◌*◌, ◌/◌, ◌%◌, ◌^◌, ◌<◌, ◌≤◌}
use native.Mathlib.Nat.{pow-suc}
use native.Mathlib.Omega.{arith}
use lib.ListN.{length, get_or, drop, set, length-append, length-set}
use lib.Seq.{drop-cons, drop-length, get_or-set_same, drop-set-lt, get_or_at}
use Rattle.text.specs.Numbers.{hex_digit, hex_of, decimal_in, decimal}
use Rattle.text.specs.Lines.{page_label, band_label, rows_label, dots_label, newline, band_line, row_line}
use Rattle.text.proofs.Numbers.{decimal_last, decimal_digit, hex_length, hex_high, hex_low}
use Rattle.buffers.proofs.Buffers.{Begun, begun_first, begun_at, begun_next}

-- a byte put at place i stands before what was there from the next place on
pub put_before : (line : List ℕ) (i v : ℕ) → i < length line → drop i (set line i v) ≡ v ∷ drop (suc i) line
put_before line i v h =
    let l : i < length (set line i v) = rw length-set h in
    drop-cons (set line i v) i 0 l ∙ ap (λ (x : ℕ). x ∷ drop (suc i) (set line i v)) (get_or-set_same line i v 0 h)
    ∙ ap (λ (t : List ℕ). v ∷ t) (drop-set-lt (suc i) line i v (omega arith))

-- ---- a number

-- the last digits of n stand before place `end`: what is left of it is `rest`, whose last digit comes to place `at`, and it has at most
-- left + 1 digits
pub record Numbered (line₀ : List ℕ) (end n : ℕ) (line : List ℕ) (at rest : ℕ) : Type 0 where
  pub left : ℕ
  pub place : at + 20 ≡ end + left
  pub most : left ≤ 19
  pub room : end ≤ length line₀
  pub size : length line ≡ length line₀
  pub fits : rest < 10 ^ suc left
  pub made : decimal n ++ drop end line₀ ≡ decimal_in left rest ++ drop (suc at) line

pub numbered-first : (line : List ℕ) (end n : ℕ) → 20 ≤ end → end ≤ length line → n < 18446744073709551616
    → Numbered line end n line (end - 1) n
unfolding decimal
numbered-first line end n h l f =
    let e : end ≡ suc (end - 1) = omega arith in
    record {
      left = 19;
      place = omega arith;
      most = omega arith;
      room = l;
      size = refl;
      fits = omega arith;
      made = ap (λ (j : ℕ). decimal_in 19 n ++ drop j line) e;
    }

-- a rest of two digits or more leaves room for one more
pub numbered_more : {line₀ line : List ℕ} {end n at rest : ℕ} (r : Numbered line₀ end n line at rest) → 10 ≤ rest → 0 < r.left
numbered_more {rest = rest} r h = go r.left r.fits
  where
    go : (k : ℕ) → rest < 10 ^ suc k → 0 < k
    go zero f = absurd (omega arith)
    go (suc k) f = omega arith

pub numbered_next : {line₀ line : List ℕ} {end n at rest : ℕ} → Numbered line₀ end n line at rest → 20 ≤ end → 10 ≤ rest
    → Numbered line₀ end n (set line at (48 + rest % 10)) (at - 1) (rest / 10)
numbered_next {line₀} {line} {end} {n} {at} {rest} r g h = go r.left r.place r.most r.fits r.made
  where
    go : (k : ℕ) → at + 20 ≡ end + k → k ≤ 19 → rest < 10 ^ suc k → decimal n ++ drop end line₀ ≡ decimal_in k rest ++ drop (suc at) line
        → Numbered line₀ end n (set line at (48 + rest % 10)) (at - 1) (rest / 10)
    go zero p m f e = absurd (omega arith)
    go (suc k) p m f e =
        let b : at < length line = omega (arith, r.room, r.size) in
        let q : at ≡ suc (at - 1) = omega arith in
        record {
          left = k;
          place = omega arith;
          most = omega arith;
          room = r.room;
          size = length-set line at (48 + rest % 10) ∙ r.size;
          fits = omega (arith, pow-suc 10 (suc k));
          made =
              e ∙ decimal_last k rest (drop (suc at) line) h
              ∙ ap (λ (t : List ℕ). decimal_in k (rest / 10) ++ t)
              (sym (put_before line at (48 + rest % 10) b) ∙ ap (λ (j : ℕ). drop j (set line at (48 + rest % 10))) q);
        }

pub numbered-done : {line₀ line : List ℕ} {end n at rest : ℕ} → Numbered line₀ end n line at rest → 20 ≤ end → rest < 10
    → drop at (set line at (48 + rest)) ≡ decimal n ++ drop end line₀
numbered-done {line₀} {line} {end} {n} {at} {rest} r g h =
    let b : at < length line = omega (arith, r.room, r.size, r.place, r.most) in
    put_before line at (48 + rest) b ∙ sym (r.made ∙ decimal_digit r.left rest (drop (suc at) line) h)

-- ---- a label, put byte by byte from its end

-- the label from its byte i on stands before place `end`
pub record Labelled (line₀ : List ℕ) (end : ℕ) (label : List ℕ) (start : ℕ) (line : List ℕ) (i : ℕ) : Type 0 where
  pub place : start + length label ≡ end
  pub within : i ≤ length label
  pub room : end ≤ length line₀
  pub size : length line ≡ length line₀
  pub made : drop (start + i) line ≡ drop i label ++ drop end line₀

pub labelled_first : (line : List ℕ) (end : ℕ) (label : List ℕ) → length label ≤ end → end ≤ length line
    → Labelled line end label (end - length label) line (length label)
labelled_first line end label h l =
    let e : end - length label + length label ≡ end = omega arith in
    record {
      place = e;
      within = omega arith;
      room = l;
      size = refl;
      made = ap (λ (j : ℕ). drop j line) e ∙ ap (λ (t : List ℕ). t ++ drop end line) (sym (drop-length label));
    }

pub labelled_next : {line₀ label line : List ℕ} {end start i : ℕ} → Labelled line₀ end label start line i → 0 < i
    → Labelled line₀ end label start (set line (start + (i - 1)) (get_or label (i - 1) 0)) (i - 1)
labelled_next {line₀} {label} {line} {end} {start} {i} r h =
    let w = r.within in
    let at = start + (i - 1) in
    let v = get_or label (i - 1) 0 in
    let b : start + (i - 1) < length line = omega (arith, r.room, r.size, r.place) in
    let c : i - 1 < length label = omega arith in
    let e : suc (start + (i - 1)) ≡ start + i = omega arith in
    let f : i ≡ suc (i - 1) = omega arith in
    record {
      place = r.place;
      within = omega arith;
      room = r.room;
      size = length-set line at v ∙ r.size;
      made =
          put_before line at v b
          ∙ ap (λ (t : List ℕ). v ∷ t) (ap (λ (j : ℕ). drop j line) e ∙ r.made ∙ ap (λ (j : ℕ). drop j label ++ drop end line₀) f)
          ∙ ap (λ (t : List ℕ). t ++ drop end line₀) (sym (drop-cons label (i - 1) 0 c));
    }

pub labelled_done : {line₀ label line : List ℕ} {end start i : ℕ} → Labelled line₀ end label start line i → i ≡ 0
    → drop start line ≡ label ++ drop end line₀
labelled_done {line₀} {label} {line} {end} {start} {i} r e =
    let f : start ≡ start + i = omega arith in
    ap (λ (j : ℕ). drop j line) f ∙ r.made ∙ ap (λ (j : ℕ). drop j label ++ drop end line₀) e

-- ---- the lines of labels and numbers

-- two labels, each with its number, before two
pub band_made : (page band rows dots : ℕ) {t u : List ℕ} → t ≡ rows_label ++ decimal rows ++ dots_label ++ decimal dots ++ newline
    → u ≡ page_label ++ decimal page ++ band_label ++ decimal band ++ t → u ≡ band_line page band rows dots
unfolding band_line
band_made page band rows dots e f = f ∙ ap (λ (x : List ℕ). page_label ++ decimal page ++ band_label ++ decimal band ++ x) e ∙ simp append_assoc

-- ---- the line of a row

pub row_length_lem : (row : List ℕ) → length (row_line row) ≡ 2 * length row + 1
unfolding row_line
row_length_lem row = length-append (hex_of row) newline ∙ ap (λ (n : ℕ). n + 1) (hex_length row)

-- half of a buffer that is too short, rounded up, is at most the row's length
pub row_short : (row out : List ℕ) → length out - length out / 2 ≤ length row → length out < length (row_line row)
row_short row out h = omega (arith, row_length_lem row)

-- the digits of the row's first i bytes are put into the buffer, which has room for the whole line
pub record Rowed (row out₀ : List ℕ) (i : ℕ) (out : List ℕ) : Type 0 where
  pub within : i ≤ length row
  pub room : 2 * length row < length out
  pub begun : Begun (row_line row) out₀ (2 * i) out

pub rowed_first : (row out : List ℕ) → length row < length out - length out / 2 → Rowed row out 0 out
rowed_first row out h =
    record { within = omega arith; room = omega arith; begun = begun_first (omega (arith, row_length_lem row)) }

-- the two digits of a byte
pub rowed_next : {row out₀ out : List ℕ} {i u v : ℕ} → Rowed row out₀ i out → i < length row
    → u ≡ hex_digit (get_or row i 0 / 16) → v ≡ hex_digit (get_or row i 0 % 16) → Rowed row out₀ (i + 1) (set (set out (2 * i) u) (2 * i + 1) v)
unfolding row_line
rowed_next {row} {out₀} {out} {i} {u} {v} r h e f =
    let l = row_length_lem row in
    let b = begun_next r.begun (omega arith) (e ∙ sym (hex_high row newline i h)) in
    let d : 2 * i + 1 + 1 ≡ 2 * (i + 1) = omega arith in
    record {
      within = omega arith;
      room = simp length-set r.room;
      begun = begun_at (begun_next b (omega arith) (f ∙ sym (hex_low row newline i h))) d;
    }

-- the newline
pub rowed_last : {row out₀ out : List ℕ} {i : ℕ} → Rowed row out₀ i out → i ≡ length row
    → Begun (row_line row) out₀ (2 * length row + 1) (set out (2 * length row) 10)
unfolding row_line
rowed_last {row} {out₀} {out} {i} r e =
    begun_next (begun_at r.begun (ap (λ (j : ℕ). 2 * j) e)) (omega (arith, row_length_lem row))
    (sym (get_or_at (hex_of row) 10 [] 0 (2 * length row) (hex_length row)))
