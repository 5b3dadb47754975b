-- `strip_band::expanded` meets its contract. Assumes nothing.
use Prim.Native.Nat.{◌≤◌}
use mathlib.Core.Path.{◌≡◌}
use lib.ListN.{length, drop}
use Rattle.strip.specs.declared.Run.TheVariants.{First}
use Rattle.strip.specs.Coding.{expand_from}
use Rattle.strip_band.specs.Puts.{expansion_from}
use Rattle.strip_band.proofs.expanded.Given as goal

abbrev pub invariant-loop-b : goal.invariant-loop-b
invariant-loop-b l = (l.filled.at ≤ 640) × (length l.out ≡ 640) × (expansion_from l.out l.filled.at (drop l.b-index l.body) l.filled.run ≡ expand_from l.body First)
