-- `film_edges::edge_at` meets its contract: no step leaves an i64, so each is the number that it stands for; over no lines the edge stays.
-- Assumes nothing.
use Rattle.std.proofs.Common.{arith}
use Rattle.film_edges.proofs.Edges.{product_fits, divided_small, sum_fits, place_computed, still_computed}
use Rattle.film_edges.proofs.edge_at.Goals as goal

pub returns-then-n-eq0 : goal.returns-then-n-eq0
returns-then-n-eq0 c = let e = c.args in still_computed e.a e.z e.n e.d c.ranges.a.fits (omega arith)

pub overflow_mul-lean : goal.overflow_mul-lean
overflow_mul-lean c = let e = c.args in product_fits e.a e.z e.n e.d c.ranges.a.fits c.ranges.z.fits c.ranges.n.fits c.ranges.d.fits

pub ceil_signed-requires : goal.ceil_signed-requires
ceil_signed-requires c =
    let e = c.args in
    (divided_small e.a e.z e.n e.d c.ranges.a.fits c.ranges.z.fits c.ranges.n.fits c.ranges.d.fits, omega arith)

pub overflow_add-result : goal.overflow_add-result
overflow_add-result c =
    let e = c.args in
    sum_fits e.a e.z e.n e.d c.ranges.a.fits c.ranges.z.fits c.ranges.n.fits c.ranges.d.fits _ c.ceil_signed.ensures

pub returns : goal.returns
returns c =
    let e = c.args in
    place_computed e.a e.z e.n e.d c.ranges.a.fits c.ranges.z.fits c.ranges.n.fits c.ranges.d.fits _ c.ceil_signed.ensures (omega arith)
