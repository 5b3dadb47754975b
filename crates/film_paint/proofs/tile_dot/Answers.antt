-- `film_paint::tile_dot` meets its contract: the start of the tile's row is that of the definition, and each test leaves one of its cases.
-- Assumes nothing.
use mathlib.Core.Path.{◌∙◌}
use native.Mathlib.Omega.{arith}
use Rattle.film_words.specs.Words.{words}
use Rattle.film_paint.proofs.Samples.{below_lines, past_dots, start_is, no_tile, above_tile, before-tile, tile_is}
use Rattle.film_paint.proofs.tile_dot.Goals as goal
use Rattle.film_paint.proofs.tile_dot.Goals.{then-s_size-eq0-via-then-s_size-eq0, then-s_size-eq0-via-else-s_size-eq0+then-f_size-eq0, then-s_size-eq0-via-else-s_size-eq0+else-f_size-eq0+then-s-s_min}

pub returns-then-s_size-eq0 : goal.returns-then-s_size-eq0
returns-then-s_size-eq0 c =
    let ws = words c.args.tile.now in
    elim c.then-s_size-eq0.branch [
      | then-s_size-eq0-via-then-s_size-eq0 w ↦ no_tile ws _ _ (λ i j. below_lines ws 3 i j _ c.word-s_size.ensures (omega arith))
      | then-s_size-eq0-via-else-s_size-eq0+then-f_size-eq0 w ↦ no_tile ws _ _ (λ i j. past_dots ws 3 i j _ c.word-f_size.ensures (omega arith))
      | then-s_size-eq0-via-else-s_size-eq0+else-f_size-eq0+then-s-s_min w ↦ above_tile ws _ _ _ c.word-s_min.ensures w.if-s-s_min.true
    ]

pub returns-then-f-start : goal.returns-then-f-start
returns-then-f-start c =
    before-tile _ _ _ _ (start_is _ _ _ _ _ _ c.word-2.ensures c.word-s_min.ensures c.word.ensures c.word-s_size.ensures) c.if-f-start.true

pub returns : goal.returns
returns c =
    c.sample_dot.ensures
    ∙ tile_is _ _ _ _ (start_is _ _ _ _ _ _ c.word-2.ensures c.word-s_min.ensures c.word.ensures c.word-s_size.ensures) _ _ _ c.word-s_min.ensures
    c.word-s_size.ensures c.word-f_size.ensures c.if-s-s_min.false c.if-f-start.false
