-- Laws of a band's dots, counted row by row. Assumes nothing.
use mathlib.Core.Path.{◌≡◌, refl, ap, ap₂, ◌∙◌, sym}
use mathlib.Core.List.{List}
use Prim.Native.Nat.{ℕ, ◌+◌, ◌-◌, ◌*◌, ◌^◌, ◌<◌, ◌≤◌, min}
use native.Mathlib.Nat.{zero-mul, suc-mul}
use native.Mathlib.Numerals.{add-one}
use native.Mathlib.Omega.{arith}
use lib.ListN.{length, take, drop, length-take}
use lib.Seq.{take-add}
use Rattle.row.specs.Counts.{ones_of}
use Rattle.row.proofs.Dots.{Bytes, bytes_take, bytes_drop}
use Rattle.row.proofs.Counts.{ones-append, ones-le, ones-whole}
use Rattle.film_masks.proofs.Bands.{row_fits}

-- the first i rows of w bytes end before byte `at`, and `dots` of their bits are 1
pub record Counted (buf : List ℕ) (w dots i at : ℕ) : Type 0 where
  pub place : at ≡ i * w
  pub sum : dots ≡ ones_of (take at buf)

pub counted_none : {buf : List ℕ} {w : ℕ} → Counted buf w 0 0 0
unfolding ones_of
counted_none {buf} {w} = record { place = sym (zero-mul w); sum = refl }

-- the row after them, of whose bits n are 1
pub counted_row : {buf : List ℕ} {w dots i at : ℕ} (m n : ℕ) → Counted buf w dots i at → Bytes buf → at + w ≤ 65536 → m ≡ w
    → n ≡ min (ones_of (take m (drop at buf))) (2 ^ 64 - 1) → (dots + n ≤ 8 * 65536) × Counted buf w (dots + n) (i + 1) (at + w)
counted_row {buf} {w} {dots} {i} {at} m n s bytes h e z =
    let row = take w (drop at buf) in
    let rows = take (at + w) buf in
    let len : length row ≤ w = omega (arith, length-take w (drop at buf)) in
    let whole : n ≡ ones_of row =
    z ∙ ap (λ (x : ℕ). min (ones_of (take x (drop at buf))) (2 ^ 64 - 1)) e
    ∙ ones-whole row (bytes_take w (drop at buf) (bytes_drop at buf bytes)) (omega arith) in
    let sum : dots + n ≡ ones_of rows = ap₂ ◌+◌ s.sum whole ∙ sym (ap ones_of (take-add at w buf) ∙ ones-append (take at buf) row) in (
      omega (arith, ones-le rows (bytes_take (at + w) buf bytes), length-take (at + w) buf),
      record { place = omega (arith, s.place, ap (λ (x : ℕ). x * w) (add-one i), suc-mul i w); sum = sum },
    )

module _ {buf : List ℕ} {w dots i at : ℕ} (s : Counted buf w dots i at) where
  -- that row ends within n bytes, which have all rows
  pub counted_fits : {rows n : ℕ} → i < rows → rows * w ≤ n → at + w ≤ n
  counted_fits {rows} {n} h l = omega (arith, s.place, row_fits i rows w n h l)

  pub counted_all : {rows : ℕ} → i ≡ rows → dots ≡ ones_of (take (rows * w) buf)
  counted_all e = s.sum ∙ ap (λ (k : ℕ). ones_of (take k buf)) (s.place ∙ ap (λ (k : ℕ). k * w) e)
