-- Laws of answers. Assumes nothing.
use mathlib.Core.Path.{◌≡◌}
use Prim.Native.Nat.{ℕ}
use native.Mathlib.Omega.{arith}
use Rattle.refusal.specs.Answers.{given, refused}

-- a refusal gives nothing
pub not_given : {A B : Type 0} (n p : ℕ) (a : A) → refused n p ≡ given a → B
not_given n p a e = let z : ◌≡◌ {A = ℕ} 0 1 = cc in absurd (omega arith)
