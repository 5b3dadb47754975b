-- Laws of the quotient rounded up and of the place of an edge. Assumes nothing.
use mathlib.Core.Path.{◌≡◌, refl, sym, ap, ◌∙◌}
use Prim.Native.Nat.{ℕ, zero, suc, ◌+◌, ◌-◌, ◌*◌, ◌/◌, ◌%◌, ◌^◌, ◌≤◌, ◌<◌, zero-le}
use native.Mathlib.Nat.{div-le_self, div-add-mod', mod-lt, mul-le-mul, add-mul, add-mul-div_right, div-eq_of_lt, div-le_of_le-mul, div-one, add-zero, mul_comm, le_refl}
use native.Mathlib.Omega.{arith}
use native.Mathlib.Decide.{dec_le}
use lib.Dec.{T}
use lib.IntN.{ℤ, pos, negsuc, neg_ℤ, nat_abs, ◌+ℤ◌, ◌-ℤ◌, ◌*ℤ◌}
use lib.Signed.{mag, non_neg}
use mir.Syntax.{w64}
use mir.Val.{SFits, Fits, to_z, of_z}
use mir.Facts.{to_z_pos, to_z-of_z}
use Rattle.std.specs.Int.{int_div_euclid}
use Rattle.film_imaging.specs.Masks.{edge}
use Rattle.film_imaging.proofs.Trapezoid.{diff_le, diff_lt, edge_nat}
use Rattle.film_edges.specs.Edges.{ceil_z, edge_at}

-- ---- differences

diff_past : (a g : ℕ) → pos a -ℤ pos (a + g) ≡ neg_ℤ (pos g)
diff_past a zero = diff_le a (a + 0) (omega arith) ∙ ap pos (omega arith)
diff_past a (suc g) = diff_lt a (a + suc g) (omega arith) ∙ ap negsuc (omega arith)

-- ---- sizes

mag_neg : (m : ℕ) → mag (neg_ℤ (pos m)) ≤ m
mag_neg zero = zero-le
mag_neg (suc m) = omega arith

mag_minus : (x : ℤ) → mag (neg_ℤ x) ≤ suc (mag x)
mag_minus (pos v) = omega (arith, mag_neg v)
mag_minus (negsuc v) = omega arith

pub mag_diff : (a b k : ℕ) → a < k → b < k → mag (pos a -ℤ pos b) < k
mag_diff a b k l m = go (dec_le b a)
  where
    go : Dec (b ≤ a) → mag (pos a -ℤ pos b) < k
    go (yes h) = rw (diff_le a b h) (omega arith)
    go (no h) = rw (diff_lt a b (omega arith)) (omega arith)

pub mag_times : (x : ℤ) (d j k : ℕ) → mag x < j → d ≤ k → mag (x *ℤ pos d) ≤ j * k
mag_times (pos v) d j k h l = let m : v ≤ j = omega arith in mul-le-mul m l
mag_times (negsuc v) d j k h l = omega (arith, mag_neg (suc v * d), mul-le-mul h l)

pub mag_ceil : (x : ℤ) (n : ℕ) → mag (ceil_z x n) ≤ mag x + suc n
unfolding ceil_z
mag_ceil (pos v) n = omega (arith, div-le_self (v + (n - 1)) n)
mag_ceil (negsuc v) n = omega (arith, mag_neg (suc v / n), div-le_self (suc v) n)

pub mag_add : (a : ℕ) (x : ℤ) → mag (pos a +ℤ x) ≤ a + mag x
mag_add a (pos v) = le_refl (a + v)
mag_add a (negsuc v) = go (dec_le (suc v) a)
  where
    go : Dec (suc v ≤ a) → mag (pos a +ℤ negsuc v) ≤ a + v
    go (yes h) = rw (diff_le a (suc v) h) (omega arith)
    go (no h) = rw (diff_lt a (suc v) (omega arith)) (omega arith)

-- ---- the negated quotient of the negated number

negated : (x : ℤ) → pos 0 -ℤ x ≡ neg_ℤ x
negated (pos v) = let z : v ≡ 0 + v = omega arith in ap (λ (g : ℕ). pos 0 -ℤ pos g) z ∙ diff_past 0 v
negated (negsuc v) = ap pos (omega arith)

-- that quotient is rounded down, and so its negation up
ceil_negated : (x : ℤ) (n : ℕ) → 1 ≤ n → neg_ℤ (int_div_euclid (neg_ℤ x) (pos n)) ≡ ceil_z x n
unfolding ceil_z
ceil_negated (pos zero) n h =
    let small : n - 1 < n = omega arith in
    let none : 0 < n = omega arith in
    let t : 0 + (n - 1) ≡ n - 1 = omega arith in
    rw (div-eq_of_lt none) (ap pos (sym (rw t (div-eq_of_lt small))))
ceil_negated (pos (suc v)) n h =
    let t : suc v + (n - 1) ≡ v + 1 * n = omega arith in
    ap pos (sym (rw (t, add-mul-div_right v 1 h) (omega arith)))
ceil_negated (negsuc v) n h = refl

-- ---- as the code computes them: no step leaves an i64, so each is the number that it stands for

-- the bits of a small number read as that number
known : (m : ℕ) → m < 2 ^ 32 → to_z w64 m ≡ pos m
known m h = to_z_pos w64 (omega arith)

-- q is the quotient
pub ceil_computed : (x : ℤ) (n : ℕ) (q : ℤ) → SFits w64 x → mag x < 2 ^ 49 → 1 ≤ n → n < 2 ^ 16 → SFits w64 q
    → q ≡ int_div_euclid (to_z w64 (of_z w64 (pos 0 -ℤ to_z w64 (of_z w64 x)))) (to_z w64 n)
    → to_z w64 (of_z w64 (pos 0 -ℤ to_z w64 (of_z w64 q))) ≡ ceil_z x n
ceil_computed x n q x_fits small some few q_fits e =
    let minus_small : mag (neg_ℤ x) ≤ suc (mag x) = mag_minus x in
    let minus_fits : SFits w64 (neg_ℤ x) = record { sfits = omega (arith, minus_small) } in
    let q_is : neg_ℤ q ≡ ceil_z x n =
    ap neg_ℤ (e ∙ rw (known n (omega arith), to_z-of_z {w = w64} x_fits, negated x, to_z-of_z {w = w64} minus_fits) refl) ∙ ceil_negated x n some in
    let fits : SFits w64 (ceil_z x n) = record { sfits = omega (arith, mag_ceil x n) } in
    rw (to_z-of_z {w = w64} q_fits, negated q, q_is) (to_z-of_z {w = w64} fits)

-- ---- the place of an edge

-- whole dots may be added before or after rounding
ceil_add : (a n : ℕ) (x : ℤ) → 1 ≤ n → pos a +ℤ ceil_z x n ≡ ceil_z (pos (a * n) +ℤ x) n
unfolding ceil_z
ceil_add a n (pos m) h =
    let t : a * n + m + (n - 1) ≡ m + (n - 1) + a * n = omega arith in
    ap pos (rw (t, add-mul-div_right (m + (n - 1)) a h) (omega arith))
ceil_add a n (negsuc k) h = go (dec_le (suc k) (a * n))
  where
    go : Dec (suc k ≤ a * n) → pos a +ℤ neg_ℤ (pos (suc k / n)) ≡ ceil_z (pos (a * n) +ℤ negsuc k) n
    go (yes l) =
        let q = suc k / n in
        let r = suc k % n in
        let b : q ≤ a = div-le_of_le-mul n (rw (mul_comm n a) l) in
        let s : (a - q + q) * n ≡ (a - q) * n + q * n = add-mul (a - q) q n in
        let a_is : a - q + q ≡ a = omega arith in
        let t : a * n - suc k + (n - 1) ≡ n - 1 - r + (a - q) * n = omega (arith, rw a_is at s, div-add-mod' (suc k) n, mod-lt (suc k) h) in
        let small : n - 1 - r < n = omega arith in
        rw (diff_le (a * n) (suc k) l)
        (diff_le a q b ∙ ap pos (rw (t, add-mul-div_right (n - 1 - r) (a - q) h) (omega (arith, div-eq_of_lt small))))
    go (no l) =
        let w = suc k - a * n in
        let k_is : w + a * n ≡ suc k = omega arith in
        let q_is : suc k / n ≡ a + w / n = omega (arith, rw k_is at (add-mul-div_right w a h)) in
        let v : suc (suc k - suc (a * n)) ≡ w = omega arith in
        rw (diff_lt (a * n) (suc k) (omega arith), v)
        (ap (λ (x : ℕ). pos a -ℤ pos x) q_is ∙ diff_past a (w / n))

-- over no lines it is its first place
pub edge_none : (a z n d : ℕ) → n ≡ 0 → edge_at a z n d ≡ pos a
unfolding ceil_z edge_at edge
edge_none a z n d h = rw h (ap pos (div-one (a + 0) ∙ add-zero a))

-- over some lines only the move from the first line is rounded, once, and not line by line
pub edge-some : (a z n d : ℕ) → 1 ≤ n → edge_at a z n d ≡ pos a +ℤ ceil_z ((pos z -ℤ pos a) *ℤ pos d) n
unfolding edge_at edge
edge-some a z zero d h = absurd (omega arith)
edge-some a z (suc m) d h = sym (ceil_add a (suc m) ((pos z -ℤ pos a) *ℤ pos d) h)

-- as the code computes it
module _ (a z n d : ℕ) (a_fits : a < 2 ^ 32) (z_fits : z < 2 ^ 32) (n_fits : n < 2 ^ 16) (d_fits : d < 2 ^ 16) where
  -- what is divided
  abbrev pub scaled : ℤ
  scaled = (pos z -ℤ pos a) *ℤ pos d

  lean_fits : SFits w64 (pos z -ℤ pos a)
  lean_fits = record { sfits = omega (arith, mag_diff z a (2 ^ 32) z_fits a_fits) }

  scaled_small : mag scaled ≤ 2 ^ 48
  scaled_small = mag_times (pos z -ℤ pos a) d (2 ^ 32) (2 ^ 16) (mag_diff z a (2 ^ 32) z_fits a_fits) (omega arith)

  scaled_fits : SFits w64 scaled
  scaled_fits = record { sfits = omega (arith, scaled_small) }

  moved_small : mag (ceil_z scaled n) < 2 ^ 50
  moved_small = omega (arith, mag_ceil scaled n, scaled_small)

  moved_fits : SFits w64 (ceil_z scaled n)
  moved_fits = record { sfits = omega (arith, moved_small) }

  place_fits : SFits w64 (pos a +ℤ ceil_z scaled n)
  place_fits = record { sfits = omega (arith, mag_add a (ceil_z scaled n), moved_small) }

  divided : to_z w64 (of_z w64 (to_z w64 (of_z w64 (to_z w64 z -ℤ to_z w64 a)) *ℤ to_z w64 d)) ≡ scaled
  divided = rw (known z z_fits, known a a_fits, known d (omega arith), to_z-of_z {w = w64} lean_fits, to_z-of_z {w = w64} scaled_fits) refl

  pub product_fits : SFits w64 (to_z w64 (of_z w64 (to_z w64 z -ℤ to_z w64 a)) *ℤ to_z w64 d)
  product_fits = rw (known z z_fits, known a a_fits, known d (omega arith), to_z-of_z {w = w64} lean_fits) scaled_fits

  pub divided_small : mag (to_z w64 (of_z w64 (to_z w64 (of_z w64 (to_z w64 z -ℤ to_z w64 a)) *ℤ to_z w64 d))) < 2 ^ 49
  divided_small = rw divided (omega (arith, scaled_small))

  -- r is what the division gives
  module _ (r : ℤ) (e : r ≡ ceil_z (to_z w64 (of_z w64 (to_z w64 (of_z w64 (to_z w64 z -ℤ to_z w64 a)) *ℤ to_z w64 d))) n) where
    moved_is : r ≡ ceil_z scaled n
    moved_is = e ∙ ap (λ (x : ℤ). ceil_z x n) divided

    pub sum_fits : SFits w64 (to_z w64 a +ℤ to_z w64 (of_z w64 r))
    sum_fits = rw (known a a_fits, moved_is, to_z-of_z {w = w64} moved_fits) place_fits

    pub place_computed : 1 ≤ n → to_z w64 (of_z w64 (to_z w64 a +ℤ to_z w64 (of_z w64 r))) ≡ edge_at a z n d
    place_computed some =
        rw (known a a_fits, moved_is, to_z-of_z {w = w64} moved_fits) (to_z-of_z {w = w64} place_fits ∙ sym (edge-some a z n d some))

pub still_computed : (a z n d : ℕ) → a < 2 ^ 32 → n ≡ 0 → to_z w64 a ≡ edge_at a z n d
still_computed a z n d small h = known a small ∙ sym (edge_none a z n d h)

-- it is no negative number up to its last line
edge_positive : (a z n d : ℕ) → d ≤ n → T (non_neg (edge_at a z n d))
unfolding edge_at ceil_z
edge_positive a z zero d l = rw (edge_none a z 0 d refl) tt
edge_positive a z (suc m) d l = rw (edge_nat a z (suc m) d (omega arith) l) tt

from_positive : (x : ℤ) → T (non_neg x) → x ≡ pos (nat_abs x)
from_positive (pos m) p = refl
from_positive (negsuc m) p = absurd p

-- the place as the code takes it out of an i64
pub record Place (x y : ℤ) : Type 0 where
  pub cast : T (non_neg (to_z w64 (of_z w64 x))) × Fits w64 (nat_abs (to_z w64 (of_z w64 x)))
  pub is : y ≡ pos (nat_abs (to_z w64 (of_z w64 x)))

pub placed : (x : ℤ) (a z n d : ℕ) → mag x < 2 ^ 63 → x ≡ edge_at a z n d → d ≤ n → Place x (edge_at a z n d)
placed x a z n d small e l =
    let i : to_z w64 (of_z w64 x) ≡ x = to_z-of_z {w = w64} (record { sfits = small }) in
    let p : T (non_neg x) = rw e (edge_positive a z n d l) in
    let y : x ≡ pos (nat_abs x) = from_positive x p in
    let m : nat_abs x < 2 ^ 63 = rw y at small in
    record { cast = rw i (p, record { fits = omega arith }); is = rw i (sym e ∙ y) }
