-- A line of a trapezoid is one stretch, from its left edge rounded up to its right edge rounded up. Assumes nothing.
use mathlib.Core.Path.{◌≡◌, refl, sym, ap₂}
use mathlib.Core.Bool.{Bool, true, false, ◌&&◌}
use Prim.Native.Nat.{ℕ, zero, suc, ◌+◌, ◌-◌, ◌*◌, ◌/◌, ◌<◌, ◌≤◌, suc-le-suc}
use native.Mathlib.Nat.{suc-mul, le_of_suc-le-suc, div-lt_iff_lt-mul}
use native.Mathlib.Omega.{arith}
use native.Mathlib.Decide.{dec_le}
use borrow.Author.Tests.{le-leb, le-ltb}
use lib.Dec.{leb, ltb}
use lib.IntN.{ℤ, pos, negsuc, neg_ℤ}
use lib.Signed.{le_z, lt_z}
use Rattle.truth.proofs.Tests.{leb_is, ltb_is, is_same}
use Rattle.film_words.specs.Words.{ceil_div}
use Rattle.film_commands.specs.Commands.{trapezoid}
use Rattle.film_imaging.specs.Masks.{within, masked}
use Rattle.film_imaging.proofs.Trapezoid.{edge_denominator}
use Rattle.film_edges.specs.Edges.{ceil_z, edge_at}

-- ---- a quotient rounded up

module _ (x n f : ℕ) (some : 0 < n) where
  ceil_to : x ≤ f * n → ceil_div x n ≤ f
  ceil_to h = le_of_suc-le-suc ((div-lt_iff_lt-mul some).1 (rw suc-mul (omega arith)))

  ceil_from : ceil_div x n ≤ f → x ≤ f * n
  ceil_from h = let k = rw suc-mul at ((div-lt_iff_lt-mul some).0 (suc-le-suc h)) in omega arith

  ceil_leb : leb x (f * n) ≡ leb (ceil_div x n) f
  ceil_leb = is_same (leb x (f * n)) (leb (ceil_div x n) f) (leb_is x (f * n)) (leb_is (ceil_div x n) f) ceil_to ceil_from

  ceil_ltb : ltb (f * n) x ≡ ltb f (ceil_div x n)
  ceil_ltb =
      is_same (ltb (f * n) x) (ltb f (ceil_div x n)) (ltb_is (f * n) x) (ltb_is f (ceil_div x n))
      (λ l. up l (dec_le (ceil_div x n) f)) (λ l. down l (dec_le x (f * n)))
    where
      up : f * n < x → Dec (ceil_div x n ≤ f) → f < ceil_div x n
      up l (yes p) = let q = ceil_from p in absurd (omega arith)
      up l (no p) = omega arith

      down : f < ceil_div x n → Dec (x ≤ f * n) → f * n < x
      down l (yes p) = let q = ceil_to p in absurd (omega arith)
      down l (no p) = omega arith

-- a number that is not above zero is at most every dot
neg_le : (q f : ℕ) → le_z (neg_ℤ (pos q)) (pos f) ≡ true
neg_le zero f = le-leb 0 f (omega arith)
neg_le (suc q) f = refl

neg_lt : (q f : ℕ) → lt_z (pos f) (neg_ℤ (pos q)) ≡ false
neg_lt zero f = le-ltb f 0 (omega arith)
neg_lt (suc q) f = refl

ceil_le : (x : ℤ) (n f : ℕ) → 0 < n → le_z x (pos (f * n)) ≡ le_z (ceil_z x n) (pos f)
unfolding ceil_z
ceil_le (pos v) n f h = ceil_leb v n f h
ceil_le (negsuc v) n f h = sym (neg_le (suc v / n) f)

ceil_lt : (x : ℤ) (n f : ℕ) → 0 < n → lt_z (pos (f * n)) x ≡ lt_z (pos f) (ceil_z x n)
unfolding ceil_z
ceil_lt (pos v) n f h = ceil_ltb v n f h
ceil_lt (negsuc v) n f h = sym (neg_lt (suc v / n) f)

-- ---- a line of a trapezoid, whatever its s_size

module _ (s_min s_size f_min f_size f_min_last f_size_last s f : ℕ) where
  pub trapezoid_line : within s_min s_size s ≡ true
      → masked (trapezoid s_min s_size f_min f_size f_min_last f_size_last) s f
      ≡ (le_z (edge_at f_min f_min_last (s_size - 1) (s - s_min)) (pos f) && lt_z (pos f) (edge_at (f_min + f_size) (f_min_last + f_size_last) (s_size - 1) (s - s_min)))
  unfolding masked edge_at
  trapezoid_line h =
      rw h
      (ap₂ (λ (x y : Bool). x && y)
      (ceil_le _ _ f (edge_denominator f_min f_min_last (s_size - 1) (s - s_min)))
      (ceil_lt _ _ f (edge_denominator (f_min + f_size) (f_min_last + f_size_last) (s_size - 1) (s - s_min))))
