-- Laws of what the row writer asks of a row. Assumes nothing.
use mathlib.Core.Path.{◌≡◌}
use mathlib.Core.Bool.{true, ◌&&◌}
use mathlib.Core.List.{List}
use Prim.Native.Nat.{ℕ, ◌≤◌}
use lib.Dec.{eqb}
use lib.ListN.{length}
use Rattle.row_runs.specs.Spare.{spare_clear}
use Rattle.truth.proofs.Tests.{Is, eqb_is, and_is}
use Rattle.gdi_jobs.specs.Groups.{admitted}
use Rattle.gdi_jobs.specs.Lines.{line_bytes}
use Rattle.gdi_jobs.specs.Writers.{fits_width}
use Rattle.gdi_jobs.proofs.Groups.{admitted_is}

-- a row that is written where the output has room
pub record Writable (width : ℕ) (row : List ℕ) : Type 0 where
  pub wide : (1 ≤ width) × (width ≤ 16383)
  pub long : length row ≡ line_bytes width
  pub clear : spare_clear row width ≡ true

pub writable_is : (width : ℕ) (row : List ℕ) → Is (admitted width && fits_width row width) (Writable width row)
unfolding fits_width
writable_is width row =
    let two = and_is (eqb (length row) (line_bytes width)) (spare_clear row width) (eqb_is (length row) (line_bytes width)) (record { holds = λ e. e; said = λ e. e }) in
    let all = and_is (admitted width) (fits_width row width) (admitted_is width) two in
    record {
      holds = λ e. let h = all.holds e in record { wide = h.0; long = h.1.0; clear = h.1.1 };
      said = λ w. all.said (w.wide, (w.long, w.clear));
    }
