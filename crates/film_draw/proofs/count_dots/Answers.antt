-- `film_draw::count_dots` meets its contract. Assumes nothing.
use mathlib.Core.Path.{refl, ◌∙◌}
use Prim.Native.Nat.{◌+◌, ◌*◌, ◌≤◌}
use native.Mathlib.Omega.{arith}
use Rattle.std.proofs.Common.{rules}
use Rattle.row.specs.Counts.{ones_of}
use Rattle.row.proofs.Counts.{ones-le}
use Rattle.film_draw.proofs.Chunks.{Chunked, chunk_counted, chunks_counted}
use Rattle.film_draw.proofs.count_dots.Goals as goal

pub loop-row-init : goal.loop-row-init
loop-row-init c =
    rw (c.into_iter-row-iterator.ensures.into_iter_gives, c.chunks_exact-row-items.ensures.size, c.chunks_exact-row-items.ensures.rest)
    (refl, record { sum = omega arith; cut = c.requires.2 })

-- the row is counted
counted : (c : goal.After-ones-dots) → (c.loop-row.dots + c.ones-dots.result ≤ 8 * 65536)
    × Chunked (ones_of c.args.rows.now) c.args.row_bytes (c.loop-row.dots + c.ones-dots.result) c.next.new.self.rest.now
counted c =
    let rows = c.args.rows.now in
    let cut = c.in-Some.ensures.steps.1 in
    chunk_counted c.in-Some.row.now c.loop-row.invariant.1 (omega (arith, ones-le rows (λ i. search rules), c.requires.0)) cut.0
    (cut.1 ∙ c.loop-row.invariant.0) c.ones-dots.ensures

pub overflow_add-dots : goal.overflow_add-dots
overflow_add-dots c = omega (arith, (counted c).0)

pub loop-row-preserved : goal.loop-row-preserved
loop-row-preserved c = (c.in-Some.ensures.steps.0 ∙ c.loop-row.invariant.0, (counted c).1)

pub returns : goal.returns
returns c = let over = c.in-None.ensures.steps.1 in chunks_counted c.loop-row.invariant.1 (omega (arith, over.0, c.loop-row.invariant.0))
