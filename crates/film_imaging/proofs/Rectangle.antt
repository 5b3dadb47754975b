-- Laws of ranges and of rectangles. Assumes nothing.
use mathlib.Core.Path.{◌≡◌, refl, ap, ◌∙◌}
use mathlib.Core.Bool.{Bool, true, false, ◌&&◌}
use Prim.Native.Nat.{ℕ, ◌+◌, ◌<◌, ◌≤◌}
use native.Mathlib.Omega.{arith}
use lib.Dec.{leb, ltb}
use Rattle.truth.proofs.Tests.{Is, leb_is, ltb_is, and_is, is_false}
use Rattle.film_commands.specs.Commands.{rectangle}
use Rattle.film_imaging.specs.Masks.{within, masked}

-- ---- ranges

pub within_is : (min size x : ℕ) → Is (within min size x) ((min ≤ x) × (x < min + size))
unfolding within
within_is min size x = and_is (leb min x) (ltb x (min + size)) (leb_is min x) (ltb_is x (min + size))

pub within_none : (min x : ℕ) → within min 0 x ≡ false
within_none min x = is_false (within min 0 x) (within_is min 0 x) (λ p. omega arith)

-- ---- rectangles

module _ (s_min s_size f_min f_size s f : ℕ) where
  -- a line that the rectangle has not
  pub rectangle_off : within s_min s_size s ≡ false → masked (rectangle s_min s_size f_min f_size) s f ≡ false
  unfolding masked
  rectangle_off h = ap (λ (t : Bool). t && within f_min f_size f) h

pub rectangle_empty_lines : (s_min f_min f_size s f : ℕ) → masked (rectangle s_min 0 f_min f_size) s f ≡ false
rectangle_empty_lines s_min f_min f_size s f = rectangle_off s_min 0 f_min f_size s f (within_none s_min s)

pub rectangle_empty_dots : (s_min s_size f_min s f : ℕ) → masked (rectangle s_min s_size f_min 0) s f ≡ false
unfolding masked
rectangle_empty_dots s_min s_size f_min s f = ap (λ (t : Bool). within s_min s_size s && t) (within_none f_min f) ∙ none (within s_min s_size s)
  where
    none : (t : Bool) → (t && false) ≡ false
    none true = refl
    none false = refl
