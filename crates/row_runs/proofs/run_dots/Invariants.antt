-- `row_runs::run_dots` meets its contract. The loop's invariant: the search from dot f on finds what the search from `from` on finds. Assumes nothing.
use Rattle.std.proofs.Common.{◌≡◌, ◌-◌}
use Rattle.row.specs.Dots.{dot_at}
use Rattle.row_runs.specs.Runs.{first_not}
use Rattle.row_runs.proofs.run_dots.Given as goal

abbrev pub invariant-loop-f : goal.invariant-loop-f
invariant-loop-f l = first_not l.v (dot_at l.row) l.to l.from (l.to - l.from) ≡ first_not l.v (dot_at l.row) l.to l.f (l.to - l.f)
