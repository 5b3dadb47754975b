-- What the private functions go by.
use Rattle.std.specs.Prelude.{ℕ, ◌<◌, ◌≤◌}
use Rattle.gdi_jobs.specs.Jobs.{State, between, in_page}

-- at place `at` a state's numbers are in their bounds: there are no more pages than bytes, no more lines than the page has, and a line that is not
-- whole is narrower than the page
abbrev pub Bounded : State → (at : ℕ) → Type 0
Bounded (between pages) at = pages ≤ at
Bounded (in_page pages width height lines sum left) at = (pages ≤ at) × (width ≤ 16383) × (height ≤ 65535) × (lines ≤ height) × (sum < width)
