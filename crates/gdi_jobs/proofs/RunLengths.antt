-- No run of a row is too long for a command. Assumes nothing.
use native.Mathlib.Omega.{arith}
use Rattle.row.specs.Dots.{dot_at}
use Rattle.gdi_jobs.specs.Rows.{runs}
use Rattle.gdi_jobs.specs.RunLengths.{most_dots, NoRunTooLong}
use Rattle.gdi_jobs.proofs.Groups.{admitted_is}
use Rattle.gdi_jobs.proofs.Rows.{runs-sum, runs_most}

-- the dots of all runs are those of the width
pub no_run_too_long : NoRunTooLong
unfolding NoRunTooLong runs
no_run_too_long width row e = runs_most (runs width row) most_dots (omega (arith, runs-sum (dot_at row) 0 width, (admitted_is width).holds e))
