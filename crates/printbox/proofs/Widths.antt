-- A width past the widest has no linefill. Assumes nothing.
use Rattle.std.proofs.Common.{◌≡◌, ◌<◌, ℕ, arith}
use Rattle.gdi_write.specs.Paper as paper
use Rattle.gdi_write.proofs.Writers.{admitted_no, fill_refused}

pub too_wide : (width : ℕ) → 16383 < width → paper.refused 27 0 ≡ paper.fill_answer width
too_wide width h = fill_refused width (admitted_no width (λ w. omega arith))
