-- When a call is refused with 36. Assumes nothing.
use mathlib.Core.Path.{◌≡◌}
use mathlib.Core.Bool.{false}
use Prim.Native.Nat.{ℕ, ◌≤◌}
use borrow.Author.Tests.{le-ltb}
use Rattle.strip.specs.Step.{unusable}

module _ (a b n h : ℕ) where
  -- nothing of the four is beyond what a call may have
  pub usable : 5760 ≤ a → 5760 ≤ b → n ≤ 9 → h ≤ 648 → unusable a b n h ≡ false
  unfolding unusable
  usable p q r s = rw (le-ltb a 5760 p, le-ltb b 5760 q, le-ltb 9 n r, le-ltb 648 h s)
