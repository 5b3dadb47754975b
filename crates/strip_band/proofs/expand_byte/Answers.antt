-- `strip_band::expand_byte` meets its contract. Assumes nothing.
use Rattle.std.proofs.Common.{arith, rules, ◌+◌, ◌-◌}
use lib.ListN.{replicate}
use Rattle.std.proofs.lemmas.Slice.{put_mid-paste}
use lib.ListN.{length-replicate}
use Rattle.strip_band.proofs.Laws.{put_first, copied_over, copied_fits, literal_over, literal_fits}
use Rattle.strip_band.proofs.expand_byte.Goals as goal

pub returns-then-end-gt-BAND_BYTES : goal.returns-then-end-gt-BAND_BYTES
returns-then-end-gt-BAND_BYTES c =
    let a = c.args in
    copied_over a.filled a.b a.out.now (omega arith) (omega arith) c.in-Copied.n c.in-Copied.is (omega arith)

pub returns-then-at-eq-BAND_BYTES : goal.returns-then-at-eq-BAND_BYTES
returns-then-at-eq-BAND_BYTES c =
    let a = c.args in
    literal_over a.filled a.b a.out.now (omega arith) (omega arith) c.in-Literal.n c.in-Literal.is (omega arith)

pub returns-in-First : goal.returns-in-First
returns-in-First c =
    let a = c.args in
    put_first a.filled a.b a.out.now (omega arith) (omega arith) c.run_of.result c.in-First.is c.run_of.ensures

pub returns-else-end-gt-BAND_BYTES : goal.returns-else-end-gt-BAND_BYTES
returns-else-end-gt-BAND_BYTES c =
    let a = c.args in
    let n = c.in-Copied.n in
    copied_fits a.filled a.b a.out.now (omega arith) (omega arith) n _ c.in-Copied.is (omega arith)
    (put_mid-paste a.filled.at (a.filled.at + n - a.filled.at) a.out.now c.fill.new.self (replicate n a.b) n (search rules) (omega arith) (omega (arith, length-replicate n a.b)))

pub returns-else-at-eq-BAND_BYTES : goal.returns-else-at-eq-BAND_BYTES
returns-else-at-eq-BAND_BYTES c =
    let a = c.args in
    literal_fits a.filled a.b a.out.now (omega arith) (omega arith) c.in-Literal.n c.left_of.result c.in-Literal.is (λ h. omega arith) c.left_of.ensures
