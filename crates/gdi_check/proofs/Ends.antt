-- A law of a job over the limit. Assumes nothing.
use mathlib.Core.Path.{◌≡◌, sym}
use mathlib.Core.List.{List}
use Prim.Native.Nat.{ℕ, ◌<◌}
use borrow.Author.Tests.{lt-ltb}
use lib.ListN.{length}
use Rattle.gdi_jobs.specs.Jobs.{refused, job_answer, too_long}

pub long_refused : (job : List ℕ) → 16777216 < length job → refused 1 0 ≡ job_answer job
long_refused job h = sym (too_long job (lt-ltb _ _ h))
