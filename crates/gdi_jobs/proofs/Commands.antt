-- Laws of a command, by its bytes. Assumes nothing.
use mathlib.Core.Path.{◌≡◌, refl}
use mathlib.Core.List.{List, [], ◌∷◌}
use Prim.Native.Nat.{ℕ, ◌+◌, ◌*◌, ◌%◌, ◌<◌, ◌≤◌}
use borrow.Author.Tests.{le-leb, lt-leb}
use Rattle.gdi_jobs.specs.Commands.{run, taken, broken, black_bit, command}

module _ (left c : ℕ) where
  pub command_one : (rest : List ℕ) → c < 128 → command left c rest ≡ taken (run (black_bit c) (c % 64)) 1
  unfolding command
  command_one rest h = rw (lt-leb 128 c h) refl

  pub command_past_block : (rest : List ℕ) → 128 ≤ c → left ≤ 1 → command left c rest ≡ broken 24 0
  unfolding command
  command_past_block rest h l = rw (le-leb 128 c h, le-leb left 1 l) refl

  pub command-past_job : 128 ≤ c → 1 < left → command left c [] ≡ broken 24 1
  unfolding command
  command-past_job h l = rw (le-leb 128 c h, lt-leb left 1 l) refl

  pub command_two : (l2 : ℕ) (rest : List ℕ) → 128 ≤ c → 1 < left → command left c (l2 ∷ rest) ≡ taken (run (black_bit c) (c % 64 + 64 * l2)) 2
  unfolding command
  command_two l2 rest h l = rw (le-leb 128 c h, lt-leb left 1 l) refl
