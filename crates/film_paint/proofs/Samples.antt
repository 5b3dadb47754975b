-- Laws of the dots of a sample array and of a tile, by the words in which they stand. Assumes nothing.
use mathlib.Core.Path.{◌≡◌, sym, ap, ◌∙◌}
use mathlib.Core.Bool.{false, ◌&&◌, and-false}
use mathlib.Core.List.{List}
use Prim.Native.Nat.{ℕ, ◌+◌, ◌-◌, ◌*◌, ◌/◌, ◌%◌, ◌^◌, ◌<◌, ◌≤◌}
use native.Mathlib.Nat.{add-zero, mul-le-mul, le_trans, le_of_suc-le-suc, div-le_self}
use native.Mathlib.Omega.{arith}
use borrow.Author.Tests.{lt-ltb, le-ltb, le-leb, lt-leb}
use lib.Bits.{bit_and, and_mask}
use lib.Dec.{eqb, leb, ltb}
use lib.ListN.{drop}
use mir.Syntax.{w64}
use mir.Val.{Fits}
use Rattle.film_words.specs.Words.{at}
use Rattle.film_words.specs.Arrays.{samples_in, tile_in, line_words}
use Rattle.film_words.proofs.Words.{at_drop}
use Rattle.film_imaging.specs.Masks.{sample, word_bit}
use Rattle.film_imaging.specs.Colours.{tile_start, tile_dot}

-- ---- the array at place p

first-at : (p : ℕ) (ws : List ℕ) → at (drop p ws) 0 ≡ at ws p
first-at p ws = at_drop p ws 0 ∙ ap (at ws) (add-zero p)

module _ (ws : List ℕ) (p i j : ℕ) where
  sample-at : sample (samples_in (drop p ws)) i j
      ≡ (ltb i (at ws p) && ltb j (at ws (p + 1)) && word_bit (at ws (p + (2 + (i * line_words (at ws (p + 1)) + j / 16)))) (j % 16))
  unfolding sample samples_in
  sample-at = simp (first-at, at_drop)

  -- a dot below its last line
  pub below_lines : (n : ℕ) → n ≡ at ws p → n ≤ i → false ≡ sample (samples_in (drop p ws)) i j
  below_lines n e h = sym (sample-at ∙ rw (← e, le-ltb i n h))

  -- a dot past the end of its lines
  pub past_dots : (n : ℕ) → n ≡ at ws (p + 1) → n ≤ j → false ≡ sample (samples_in (drop p ws)) i j
  past_dots n e h = sym (sample-at ∙ rw (← e, le-ltb j n h, and-false))

  -- a dot of it, as the code takes it out of its word
  pub sample_is : (m n w : ℕ) → m ≡ at ws p → i < m → n ≡ at ws (p + 1) → j < n → w ≡ at ws (p + 2 + i * line_words n + j / 16)
      → eqb (bit_and (w / 2 ^ (15 - j % 16)) 1) 1 ≡ sample (samples_in (drop p ws)) i j
  sample_is m n w em im en jn ew =
      let place : p + 2 + i * line_words n + j / 16 ≡ p + (2 + (i * line_words n + j / 16)) = omega arith in
      ap (λ (x : ℕ). eqb x 1) (and_mask (w / 2 ^ (15 - j % 16)) 1)
      ∙ sym (sample-at ∙ rw (← em, ← en, ← (ew ∙ ap (at ws) place), lt-ltb i m im, lt-ltb j n jn))

-- ---- the tile at the beginning of the words

-- the steps to the start of its rows fit
pub quotient_fits : (d n : ℕ) → d < 4294967296 → Fits w64 (d / n)
quotient_fits d n h = record { fits = omega (arith, div-le_self d n) }

moved_small : (d n phase : ℕ) → d < 4294967296 → phase < 65536 → d / n * phase ≤ 4294967295 * 65535
moved_small d n phase h l = mul-le-mul (le_trans (div-le_self d n) (le_of_suc-le-suc h)) (le_of_suc-le-suc l)

pub moved-fits : (d n phase : ℕ) → d < 4294967296 → phase < 65536 → Fits w64 (d / n * phase)
moved-fits d n phase h l = record { fits = omega (arith, moved_small d n phase h l) }

pub start_fits : (f_min d n phase : ℕ) → f_min < 65536 → d < 4294967296 → phase < 65536 → Fits w64 (f_min + d / n * phase)
start_fits f_min d n phase f h l = record { fits = omega (arith, moved_small d n phase h l) }

module _ (ws : List ℕ) (s f : ℕ) where
  tile-at : tile_dot (tile_in ws) s f
      ≡ (leb (at ws 1) s && leb (tile_start (tile_in ws) s) f
      && sample (samples_in (drop 3 ws)) ((s - at ws 1) % at ws 3) ((f - tile_start (tile_in ws) s) % at ws 4))
  unfolding tile_dot tile_in samples_in
  tile-at = simp (first-at, at_drop)

  -- where its array has no dot, it has none
  pub no_tile : ((i j : ℕ) → false ≡ sample (samples_in (drop 3 ws)) i j) → false ≡ tile_dot (tile_in ws) s f
  no_tile z = rw (tile-at, ← z, and-false)

  -- above its first line
  pub above_tile : (s_min : ℕ) → s_min ≡ at ws 1 → s < s_min → false ≡ tile_dot (tile_in ws) s f
  above_tile s_min e h = rw (tile-at, ← e, lt-leb s_min s h)

  module _ (start : ℕ) (st : start ≡ tile_start (tile_in ws) s) where
    -- before the start of its row
    pub before-tile : f < start → false ≡ tile_dot (tile_in ws) s f
    before-tile h = rw (tile-at, ← st, lt-leb start f h, and-false)

    -- a dot of it
    pub tile_is : (s_min s_size f_size : ℕ) → s_min ≡ at ws 1 → s_size ≡ at ws 3 → f_size ≡ at ws 4 → s_min ≤ s → start ≤ f
        → sample (samples_in (drop 3 ws)) ((s - s_min) % s_size) ((f - start) % f_size) ≡ tile_dot (tile_in ws) s f
    tile_is s_min s_size f_size es en ed h l = rw (tile-at, ← es, ← en, ← ed, ← st, le-leb s_min s h, le-leb start f l)

pub start_is : (ws : List ℕ) (s phase s_min f_min s_size : ℕ) → phase ≡ at ws 0 → s_min ≡ at ws 1 → f_min ≡ at ws 2 → s_size ≡ at ws 3
    → f_min + (s - s_min) / s_size * phase ≡ tile_start (tile_in ws) s
unfolding tile_start tile_in samples_in
start_is ws s phase s_min f_min s_size ep es ef en = rw (ep, es, ef, en, first-at)
