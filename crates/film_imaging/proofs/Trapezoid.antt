-- Laws of trapezoids: signed differences, the edges in natural numbers, and trapezoids of no row and of one. Assumes nothing.
use mathlib.Core.Path.{◌≡◌, refl, ap, ◌∙◌, subst}
use mathlib.Core.Bool.{true, false, ◌&&◌, and_assoc}
use Prim.Native.Nat.{ℕ, zero, suc, ◌+◌, ◌-◌, ◌*◌, ◌<◌, ◌≤◌}
use native.Mathlib.Nat.{mul-one, add-mul, mul-add, suc-mul}
use native.Mathlib.Omega.{arith}
use native.Mathlib.Decide.{dec_le}
use borrow.Author.Tests.{lt-ltb, le-ltb}
use lib.Dec.{leb, ltb}
use lib.IntN.{ℤ, pos, negsuc, ◌+ℤ◌, ◌-ℤ◌, ◌*ℤ◌}
use Rattle.film_commands.specs.Commands.{rectangle, trapezoid}
use Rattle.film_imaging.specs.Masks.{within, edge, masked}
use Rattle.film_imaging.proofs.Rectangle.{within_is, within_none}

-- ---- differences, by the order of the two

pub diff_le : (a b : ℕ) → b ≤ a → pos a -ℤ pos b ≡ pos (a - b)
diff_le a zero h = ap pos (omega arith)
diff_le a (suc b) h = rw (le-ltb a (suc b) h) refl

pub diff_lt : (a b : ℕ) → a < b → pos a -ℤ pos b ≡ negsuc (b - suc a)
diff_lt a zero h = absurd (omega arith)
diff_lt a (suc b) h = simp (lt-ltb a (suc b) h)

-- ---- edges in natural numbers

-- n times the place of an edge, where n is not 0
abbrev scaled : (a z n d : ℕ) → ℤ
scaled a z n d = pos (a * n) +ℤ (pos z -ℤ pos a) *ℤ pos d

-- the edge leans toward greater f, to z = a + g
scaled_up : (a g d e : ℕ) → scaled a (a + g) (d + e) d ≡ pos (a * e + (a + g) * d)
scaled_up a g d e =
    let m : a + g - a ≡ g = omega arith in
    ap (λ (x : ℤ). pos (a * (d + e)) +ℤ x *ℤ pos d) (diff_le (a + g) a (omega arith) ∙ ap pos m)
    ∙ ap pos (rw (mul-add, add-mul) (omega arith))

-- the edge leans toward lesser f, from a = z + g + 1
scaled_down : (z g d e : ℕ) → scaled (suc (z + g)) z (d + e) d ≡ pos (suc (z + g) * e + z * d)
scaled_down z g d e =
    let a = suc (z + g) in
    let k : a - suc z ≡ g = omega arith in
    let l : suc g * d ≤ a * (d + e) = simp (mul-add, suc-mul, add-mul) (omega arith) in
    let m : a * (d + e) - suc g * d ≡ a * e + z * d = simp (mul-add, suc-mul, add-mul) (omega arith) in
    ap (λ (x : ℤ). pos (a * (d + e)) +ℤ x *ℤ pos d) (diff_lt z a (omega arith) ∙ ap negsuc k)
    ∙ diff_le (a * (d + e)) (suc g * d) l ∙ ap pos m

scaled_nat : (a z n d : ℕ) → d ≤ n → scaled a z n d ≡ pos (a * (n - d) + z * d)
scaled_nat a z n d h = subst (λ (k : ℕ). scaled a z k d ≡ pos (a * (n - d) + z * d)) n_is (go (dec_le a z))
  where
    n_is : d + (n - d) ≡ n
    n_is = omega arith

    go : Dec (a ≤ z) → scaled a z (d + (n - d)) d ≡ pos (a * (n - d) + z * d)
    go (yes p) =
        let m : a + (z - a) ≡ z = omega arith in
        subst (λ (x : ℕ). scaled a x (d + (n - d)) d ≡ pos (a * (n - d) + x * d)) m (scaled_up a (z - a) d (n - d))
    go (no p) =
        let m : suc (z + (a - suc z)) ≡ a = omega arith in
        subst (λ (x : ℕ). scaled x z (d + (n - d)) d ≡ pos (x * (n - d) + z * d)) m (scaled_down z (a - suc z) d (n - d))

-- over n lines, and no more than these after the first, an edge is between its ends
pub edge_nat : (a z n d : ℕ) → 0 < n → d ≤ n → edge a z n d ≡ record { numerator = pos (a * (n - d) + z * d); denominator = n }
unfolding edge
edge_nat a z zero d some h = absurd (omega arith)
edge_nat a z (suc m) d some h = ap (λ (x : ℤ). record { numerator = x; denominator = suc m }) (scaled_nat a z (suc m) d h)

pub edge_denominator : (a z n d : ℕ) → 0 < (edge a z n d).denominator
unfolding edge
edge_denominator a z zero d = omega arith
edge_denominator a z (suc m) d = omega arith

-- ---- trapezoids

module _ (s_min s_size f_min f_size f_min_last f_size_last s f : ℕ) where
  -- a line that the trapezoid has not
  pub trapezoid_off : within s_min s_size s ≡ false → masked (trapezoid s_min s_size f_min f_size f_min_last f_size_last) s f ≡ false
  unfolding masked
  trapezoid_off h = rw h

  -- a line that it has, where it has two at least, in natural numbers
  pub trapezoid_nat : 1 < s_size → within s_min s_size s ≡ true
      → masked (trapezoid s_min s_size f_min f_size f_min_last f_size_last) s f
      ≡ (leb (f_min * (s_size - 1 - (s - s_min)) + f_min_last * (s - s_min)) (f * (s_size - 1))
      && ltb (f * (s_size - 1)) ((f_min + f_size) * (s_size - 1 - (s - s_min)) + (f_min_last + f_size_last) * (s - s_min)))
  unfolding masked
  trapezoid_nat some h =
      let p = (within_is s_min s_size s).holds h in
      let n : 0 < s_size - 1 = omega arith in
      let le : s - s_min ≤ s_size - 1 = omega arith in
      rw (h, edge_nat f_min f_min_last (s_size - 1) (s - s_min) n le, edge_nat (f_min + f_size) (f_min_last + f_size_last) (s_size - 1) (s - s_min) n le) refl

  pub trapezoid_empty : s_size ≡ 0 → masked (trapezoid s_min s_size f_min f_size f_min_last f_size_last) s f ≡ false
  trapezoid_empty h = trapezoid_off (rw h (within_none s_min s))

-- of one row: the rectangle of its first edge
pub trapezoid_one_row : (s_min f_min f_size f_min_last f_size_last s f : ℕ)
    → masked (trapezoid s_min 1 f_min f_size f_min_last f_size_last) s f ≡ masked (rectangle s_min 1 f_min f_size) s f
unfolding masked edge within
trapezoid_one_row s_min f_min f_size f_min_last f_size_last s f = rw (mul-one f) (and_assoc (within s_min 1 s) (leb f_min f) (ltb f (f_min + f_size)))
