-- `strip_rows::table_of` meets its contract. Assumes nothing.
use Rattle.std.proofs.Common.{◌≡◌, ℕ, ◌<◌, ◌≤◌, length, get_or}
use Rattle.strip_rows.specs.Table.{entry_of}
use Rattle.strip_rows.proofs.Laws.{zeros}
use Rattle.strip_rows.proofs.table_of.Given as goal

-- the entries so far are made, the others as they were at the start
abbrev pub invariant-loop-k : goal.invariant-loop-k
invariant-loop-k l = (length l.table ≡ 256) × ((k : ℕ) → k < l.k → get_or l.table k 0 ≡ entry_of l.palette k) × ((k : ℕ) → l.k ≤ k → get_or l.table k 0 ≡ get_or zeros k 0)
