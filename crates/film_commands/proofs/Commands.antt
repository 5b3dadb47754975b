-- Laws of the commands: how each ends, by its words, and by the places of what it names in the sheet or the load. Assumes nothing.
use mathlib.Core.Path.{◌≡◌, refl, sym, ap, ap₂, ◌∙◌, subst}
use mathlib.Core.Bool.{Bool, true, false, cond, ◌||◌}
use mathlib.Core.List.{List, []}
use mathlib.Core.Option.{Option, none, some}
use Prim.Native.Nat.{ℕ, zero, suc, ◌+◌, ◌-◌, ◌/◌, ◌<◌, ◌≤◌}
use native.Mathlib.Decide.{dec_le}
use native.Mathlib.Omega.{arith}
use borrow.Author.Tests.{lt-ltb, le-ltb, eq-eqb, ne_eqb}
use lib.Dec.{ltb, eqb}
use lib.ListN.{length, take, drop, length-drop, drop_of_length-le}
use lib.Seq.{drop-drop}
use Rattle.refusal.specs.Answers.{given, refused, and_then, Verdict, fine}
use Rattle.refusal.specs.Tables.{first}
use Rattle.film_words.specs.Words.{words, at, long_at}
use Rattle.film_words.specs.Parts.{part_of}
use Rattle.film_words.specs.Load.{load_words}
use Rattle.film_words.specs.Arrays.{array_extent, array_cases}
use Rattle.film_words.specs.Padding.{padding_set}
use Rattle.film_words.specs.Groups.{group_extent, group_cases}
use Rattle.film_words.proofs.Words.{length-words, at_drop}
use Rattle.film_words.proofs.Arrays.{array_fits}
use Rattle.film_words.proofs.Padding.{padding_alone}
use Rattle.film_words.proofs.Groups.{group-fits}
use Rattle.film_words.proofs.Parts.{part_length, part_first, part_taken, part_within}
use Rattle.film_words.proofs.Load.{load_from}
use Rattle.film_commands.specs.Refusals.{argument_words, past, taken_words, array_alone, empty_tile, command_table}
use Rattle.film_commands.specs.Commands.{Whole, Taken, taken, nowhere, in_band, in_load, priority, ink, clear, set_tile, paint, rectangle, trapezoid, runs, samples, decoded, command, command_in}

-- ---- the words after the code word

-- too few
pub too_few : (load : List ℕ) (least code : ℕ) (args : List ℕ) → (eqb code 0 || ltb 10 code) ≡ false → length args < argument_words code
    → command load least code args ≡ refused 6 0
unfolding command command_table first
too_few load least code args k h = rw (k, lt-ltb (length args) (argument_words code) h) refl

-- ---- commands that name nothing in a file

module _ (load ws : List ℕ) (least : ℕ) where
  -- the high word of a priority is too high
  pub priority_high : {high : ℕ} → 2 ≤ length ws → high ≡ at ws 1 → 255 < high → command load least 1 ws ≡ refused 8 2
  unfolding command command_table first
  priority_high {high} l w h = rw (le-ltb (length ws) 2 l, lt-ltb 255 (at ws 1) (omega arith)) refl

  -- a priority falls
  pub priority_falls : {high value : ℕ} → 2 ≤ length ws → high ≡ at ws 1 → high ≤ 255 → value ≡ long_at ws 0 → value < least
      → command load least 1 ws ≡ refused 8 1
  unfolding command command_table first
  priority_falls {high} {value} l w h v f =
      rw (le-ltb (length ws) 2 l, le-ltb 255 (at ws 1) (omega arith), lt-ltb (long_at ws 0) least (omega arith)) refl

  -- it does not
  pub priority_read : {high value : ℕ} → 2 ≤ length ws → high ≡ at ws 1 → high ≤ 255 → value ≡ long_at ws 0 → least ≤ value
      → command load least 1 ws ≡ taken (priority value) nowhere 2
  unfolding command command_table first decoded
  priority_read {high} {value} l w h v f =
      rw (le-ltb (length ws) 2 l, le-ltb 255 (at ws 1) (omega arith), le-ltb (long_at ws 0) least (omega arith))
      (ap (λ (x : ℕ). taken (priority x) nowhere 2) (sym v))

  -- ink and clear have no arguments
  pub ink_read : command load least 2 ws ≡ taken ink nowhere 0
  unfolding command command_table first decoded
  ink_read = rw (le-ltb (length ws) 0 (omega arith)) refl

  pub clear_read : command load least 3 ws ≡ taken clear nowhere 0
  unfolding command command_table first decoded
  clear_read = rw (le-ltb (length ws) 0 (omega arith)) refl

  -- a rectangle
  pub rectangle_read : {s_min s_size f_min f_size : ℕ} → s_min ≡ at ws 0 → s_size ≡ at ws 1 → f_min ≡ at ws 2 → f_size ≡ at ws 3 → 4 ≤ length ws
      → command load least 5 ws ≡ taken (paint (rectangle s_min s_size f_min f_size)) nowhere 4
  unfolding command command_table first decoded
  rectangle_read a b c d l = rw (le-ltb (length ws) 4 l) (cc)

  -- a trapezoid
  pub trapezoid_read : {s_min s_size f_min f_size f_min_last f_size_last : ℕ} → s_min ≡ at ws 0 → s_size ≡ at ws 1 → f_min ≡ at ws 2 → f_size ≡ at ws 3
      → f_min_last ≡ at ws 4 → f_size_last ≡ at ws 5 → 6 ≤ length ws
      → command load least 6 ws ≡ taken (paint (trapezoid s_min s_size f_min f_size f_min_last f_size_last)) nowhere 6
  unfolding command command_table first decoded
  trapezoid_read a b c d e f l = rw (le-ltb (length ws) 6 l) (cc)

-- ---- commands that name an array or a group

-- of a measure of what stands at the beginning of some words: nothing stands where there is no word, and it takes no more than there are
record Measure (Extent : List ℕ → Option ℕ) : Type 0 where
  empty : Extent [] ≡ none
  fits : (l : List ℕ) (n : ℕ) → Extent l ≡ some n → n ≤ length l

groups : Measure group_extent
groups = record { empty = group_cases.no_size; fits = group-fits }

arrays : Measure array_extent
arrays = record { empty = array_cases.no_sizes; fits = λ l n e. (array_fits l n e).1 }

-- what is answered after k argument words for what has extent o: 6 where the words are too few, the number where it runs past the end, else by
-- the verdict v on it
abbrev measured : (k number : ℕ) (ws : List ℕ) → Option ℕ → Verdict → Whole → Taken
measured k number ws o v w = and_then (cond (ltb (length ws) k) (refused 6 0) (cond (past o) (refused number 0) v)) (λ u. given w)

-- the verdict on an array, by whether a bit is set in its padding
abbrev padded : Bool → Verdict
padded t = cond t (refused 15 0) fine

padded_is : (t : Bool) (w : Whole) → and_then (padded t) (λ u. given w) ≡ cond t (refused 15 0) (given w)
padded_is true w = refl
padded_is false w = refl

-- an array that is there, by itself and with the words after it
alone_is : (l : List ℕ) (n : ℕ) (t : Bool) → array_extent l ≡ some n → padding_set l ≡ t → padding_set (array_alone l) ≡ t
alone_is l n t e d = ap (λ (o : Option ℕ). padding_set (take (taken_words o) l)) e ∙ padding_alone l n e ∙ d

module _ {Extent : List ℕ → Option ℕ} (measure : Measure Extent) where
  -- where something stands after k words, there are k words
  reached : (k : ℕ) (ws : List ℕ) (n : ℕ) → Extent (drop k ws) ≡ some n → k ≤ length ws
  reached k ws n e = go (dec_le k (length ws))
    where
      go : Dec (k ≤ length ws) → k ≤ length ws
      go (yes h) = h
      go (no h) =
          let o : none ≡ some n = sym measure.empty ∙ ap Extent (sym (drop_of_length-le ws {i = k} (omega arith))) ∙ e in
          let z : ◌≡◌ {A = ℕ} 0 1 = cc in
          absurd (omega arith)

  -- at place q of a file it takes no more words than the file has
  room : (file : List ℕ) (q n : ℕ) → Extent (drop q (words file)) ≡ some n → n ≤ length file / 2
  room file q n e = omega (arith, measure.fits (drop q (words file)) n e, length-drop q (words file), length-words file)

  -- after k words of the sheet it runs past the band's end
  sheet-past : (k : ℕ) (ws : List ℕ) (v : Verdict) (w : Whole) → Extent (drop k ws) ≡ none → measured k 6 ws (Extent (drop k ws)) v w ≡ refused 6 0
  sheet-past k ws v w e = rw e (go (ltb (length ws) k) (refused 6 0))
    where
      go : (b : Bool) (v : Verdict) → and_then (cond b v v) (λ u. given w) ≡ and_then v (λ u. given w)
      go true v = refl
      go false v = refl

  -- it is there
  sheet_there : (k : ℕ) (ws : List ℕ) (v : Verdict) (w : Whole) (n : ℕ) → Extent (drop k ws) ≡ some n
      → measured k 6 ws (Extent (drop k ws)) v w ≡ and_then v (λ u. given w)
  sheet_there k ws v w n e = rw (le-ltb (length ws) k (reached k ws n e), e) refl

  -- its words are those of a part of the sheet, where `args` is the part from place b up to e
  sheet_part : (sheet args : List ℕ) (b e k q n : ℕ) → args ≡ part_of sheet b e → e ≤ length (words sheet) → b + k ≡ q
      → Extent (drop k (words args)) ≡ some n → words (part_of sheet q (q + n)) ≡ take n (drop k (words args))
  sheet_part sheet args b e k q n a l s x =
      part_within sheet b e k q n l s (subst (λ (r : List ℕ). n ≤ length (drop k (words r))) a (measure.fits (drop k (words args)) n x))
      ∙ ap (λ (r : List ℕ). take n (drop k (words r))) (sym a)

  -- and that part ends at e, or before
  sheet_end : (sheet args : List ℕ) (b e k q n : ℕ) → args ≡ part_of sheet b e → b ≤ e → e ≤ length (words sheet) → b + k ≡ q
      → Extent (drop k (words args)) ≡ some n → q + n ≤ e
  sheet_end sheet args b e k q n a h l s x =
      let m : length (words args) ≡ e - b = ap (λ (r : List ℕ). length (words r)) a ∙ part_length sheet b e l in
      omega (arith, reached k (words args) n x, measure.fits (drop k (words args)) n x, length-drop k (words args))

  -- at address v of the load: it is there, or it runs past the load's end
  load_measured : (k : ℕ) (load ws : List ℕ) (v a : ℕ) (t : Verdict) (w : Whole) (o : Option ℕ) → k ≤ length ws → v ≡ a
      → Extent (drop (2 + v) (words load)) ≡ o
      → measured k 9 ws (Extent (drop a (load_words load))) t w ≡ cond (past o) (refused 9 0) (and_then t (λ u. given w))
  load_measured k load ws v a t w o l h e = rw (le-ltb (length ws) k l, sym (ap Extent (load_from load v a h)) ∙ e) (go (past o))
    where
      go : (b : Bool) → and_then (cond b (refused 9 0) t) (λ u. given w) ≡ cond b (refused 9 0) (and_then t (λ u. given w))
      go true = refl
      go false = refl

  -- its words are those of a part of the load
  load_part : (load : List ℕ) (v a n : ℕ) → v ≡ a → Extent (drop (2 + v) (words load)) ≡ some n
      → words (part_of load (2 + v) (2 + v + n)) ≡ take n (drop a (load_words load))
  load_part load v a n h e = part_taken load (2 + v) n (measure.fits (drop (2 + v) (words load)) n e) ∙ ap (take n) (load_from load v a h)

-- what stands at place q takes no more words than the file has
pub group-room : (file : List ℕ) (q n : ℕ) → group_extent (drop q (words file)) ≡ some n → n ≤ length file / 2
group-room = room groups

pub array_room : (file : List ℕ) (q n : ℕ) → array_extent (drop q (words file)) ≡ some n → n ≤ length file / 2
array_room = room arrays

-- ---- 7 and 9, in the sheet

module _ (load ws : List ℕ) (least : ℕ) where
  pub runs_past : group_extent (drop 1 ws) ≡ none → command load least 7 ws ≡ refused 6 0
  unfolding command command_table first
  runs_past x = sheet-past groups 1 ws _ _ x

  pub samples_past : array_extent (drop 2 ws) ≡ none → command load least 9 ws ≡ refused 6 0
  unfolding command command_table first
  samples_past x = sheet-past arrays 2 ws _ _ x

-- `args` are the words after the code word at place p, up to the band's end e
module _ (sheet args : List ℕ) (p e : ℕ) (h : p < e) (l : e ≤ length (words sheet)) (a : args ≡ part_of sheet (p + 1) e) where
  pub runs_there : (load : List ℕ) (least : ℕ) {s_min : ℕ} (n : ℕ) → s_min ≡ at (words args) 0 → group_extent (drop 1 (words args)) ≡ some n
      → command load least 7 (words args) ≡ taken (paint (runs s_min (words (part_of sheet (p + 2) (p + 2 + n))))) (in_band 2 n) (1 + n)
  unfolding command command_table first decoded
  runs_there load least n m x =
      let part = sheet_part groups sheet args (p + 1) e 1 (p + 2) n a l (omega arith) x in
      sheet_there groups 1 (words args) _ _ n x ∙ rw (m, part, x) refl

  -- the group ends in the band
  pub runs_end : (n : ℕ) → group_extent (drop 1 (words args)) ≡ some n → p + 2 + n ≤ e
  runs_end n x = sheet_end groups sheet args (p + 1) e 1 (p + 2) n a (omega arith) l (omega arith) x

  -- the array is refused or taken, by its padding
  pub samples_there : (load : List ℕ) (least : ℕ) {s_min f_min : ℕ} (n : ℕ) {t : Bool} → s_min ≡ at (words args) 0 → f_min ≡ at (words args) 1
      → array_extent (drop 2 (words args)) ≡ some n → padding_set (drop 2 (words args)) ≡ t
      → command load least 9 (words args)
      ≡ cond t (refused 15 0) (taken (paint (samples s_min f_min (words (part_of sheet (p + 3) (p + 3 + n))))) (in_band 3 n) (2 + n))
  unfolding command command_table first decoded
  samples_there load least n {t} m f x d =
      let part = sheet_part arrays sheet args (p + 1) e 2 (p + 3) n a l (omega arith) x in
      sheet_there arrays 2 (words args) _ _ n x ∙ rw (alone_is (drop 2 (words args)) n t x d, m, f, part, x) (padded_is t _)

  -- the array ends in the band
  pub samples_end : (n : ℕ) → array_extent (drop 2 (words args)) ≡ some n → p + 3 + n ≤ e
  samples_end n x = sheet_end arrays sheet args (p + 1) e 2 (p + 3) n a (omega arith) l (omega arith) x

-- ---- 8 and 10, in the load

module _ (load ws : List ℕ) (least v : ℕ) (h : v ≡ long_at ws 0) where
  pub load_runs_past : 3 ≤ length ws → group_extent (drop (2 + v) (words load)) ≡ none → command (load_words load) least 8 ws ≡ refused 9 0
  unfolding command command_table first
  load_runs_past l x = load_measured groups 3 load ws v (long_at ws 0) _ _ none l h x

  pub load_runs_there : {s_min : ℕ} (n : ℕ) → s_min ≡ at ws 2 → 3 ≤ length ws → group_extent (drop (2 + v) (words load)) ≡ some n
      → command (load_words load) least 8 ws ≡ taken (paint (runs s_min (words (part_of load (2 + v) (2 + v + n))))) (in_load v n) 3
  unfolding command command_table first decoded
  load_runs_there n m l x =
      let part = load_part groups load v (long_at ws 0) n h x in
      load_measured groups 3 load ws v (long_at ws 0) _ _ (some n) l h x ∙ rw (m, part, sym (ap group_extent (load_from load v _ h)) ∙ x, h) refl

  pub load_samples_past : 4 ≤ length ws → array_extent (drop (2 + v) (words load)) ≡ none → command (load_words load) least 10 ws ≡ refused 9 0
  unfolding command command_table first
  load_samples_past l x = load_measured arrays 4 load ws v (long_at ws 0) _ _ none l h x

  -- the array is refused or taken, by its padding
  pub load_samples_there : {s_min f_min : ℕ} (n : ℕ) {t : Bool} → s_min ≡ at ws 2 → f_min ≡ at ws 3 → 4 ≤ length ws
      → array_extent (drop (2 + v) (words load)) ≡ some n → padding_set (drop (2 + v) (words load)) ≡ t
      → command (load_words load) least 10 ws
      ≡ cond t (refused 15 0) (taken (paint (samples s_min f_min (words (part_of load (2 + v) (2 + v + n))))) (in_load v n) 4)
  unfolding command command_table first decoded
  load_samples_there n {t} m f l x d =
      let part = load_part arrays load v (long_at ws 0) n h x in
      let from = load_from load v (long_at ws 0) h in
      let x' = sym (ap array_extent from) ∙ x in
      load_measured arrays 4 load ws v (long_at ws 0) _ _ (some n) l h x
      ∙ rw (alone_is (drop (long_at ws 0) (load_words load)) n t x' (sym (ap padding_set from) ∙ d), m, f, part, x', h) (padded_is t _)

-- ---- 4, in the load

-- neither opaque nor transparent
pub tile_mode : (load ws : List ℕ) (least : ℕ) {mode : ℕ} → 3 ≤ length ws → mode ≡ at ws 0 → 1 < mode → command load least 4 ws ≡ refused 13 1
unfolding command command_table first
tile_mode load ws least l m h = rw (le-ltb (length ws) 3 l, lt-ltb 1 (at ws 0) (omega arith)) refl

-- the words from the tile's first on
abbrev tile_at : List ℕ → List ℕ → List ℕ
tile_at load ws = drop (long_at ws 1) (load_words load)

module _ (load ws : List ℕ) (least v mode : ℕ) (h : v ≡ long_at ws 1) (l : 3 ≤ length ws) (m : mode ≡ at ws 0) (o : mode ≤ 1) where
  tile_from_lem : (i : ℕ) → drop (2 + v + i) (words load) ≡ drop i (tile_at load ws)
  tile_from_lem i = sym (drop-drop i (2 + v) (words load)) ∙ ap (drop i) (load_from load v _ h)

  tile_word : (i : ℕ) → at (words load) (2 + v + i) ≡ at (tile_at load ws) i
  tile_word i = sym (at_drop (2 + v) (words load) i) ∙ ap (λ (r : List ℕ). at r i) (load_from load v _ h)

  -- after the tests on its words, the tile's array is measured
  tile-measured : (x : Option ℕ) → array_extent (drop (2 + v + 3) (words load)) ≡ x
      → command (load_words load) least 4 ws
      ≡ and_then
      (cond (past x) (refused 9 0)
      (cond (empty_tile (tile_at load ws)) (refused 9 0) (padded (padding_set (take (taken_words x) (drop 3 (tile_at load ws)))))))
      (λ u.
      taken (set_tile (eqb (at ws 0) 1) (long_at ws 1) (take (3 + taken_words x) (tile_at load ws))) (in_load (long_at ws 1) (3 + taken_words x)) 3)
  unfolding command command_table first decoded
  tile-measured x e = rw (le-ltb (length ws) 3 l, le-ltb 1 (at ws 0) (omega arith), ← tile_from_lem 3, e) refl

  -- it runs past the load's end
  pub tile-past : array_extent (drop (2 + v + 3) (words load)) ≡ none → command (load_words load) least 4 ws ≡ refused 9 0
  tile-past x = tile-measured none x

  -- it is there
  module _ (n : ℕ) (x : array_extent (drop (2 + v + 3) (words load)) ≡ some n) {lines : ℕ} (w : lines ≡ at (words load) (2 + v + 3)) where
    -- and has no lines
    pub tile_no_lines : lines ≡ 0 → command (load_words load) least 4 ws ≡ refused 9 0
    tile_no_lines z = tile-measured (some n) x ∙ rw (eq-eqb _ 0 (sym (tile_word 3) ∙ sym w ∙ z)) refl

    -- its lines have no dots
    pub tile_no_dots : {dots : ℕ} → (lines ≡ 0 → ⊥) → dots ≡ at (words load) (2 + v + 4) → dots ≡ 0 → command (load_words load) least 4 ws ≡ refused 9 0
    tile_no_dots s d z =
        tile-measured (some n) x ∙ rw (ne_eqb _ 0 (λ y. s (w ∙ tile_word 3 ∙ y)), eq-eqb _ 0 (sym (tile_word 4) ∙ sym d ∙ z)) refl

    -- its words are those of a part of the load
    tile_part_lem : words (part_of load (2 + v) (2 + v + (3 + n))) ≡ take (3 + n) (tile_at load ws)
    tile_part_lem =
        let f : (n ≡ _) × (n ≤ length (drop (2 + v + 3) (words load))) = array_fits (drop (2 + v + 3) (words load)) n x in
        let r : 3 + n ≤ length (drop (2 + v) (words load)) = omega (arith, length-drop (2 + v) (words load), length-drop (2 + v + 3) (words load)) in
        part_taken load (2 + v) (3 + n) r ∙ ap (take (3 + n)) (load_from load v _ h)

    -- it has both: it is refused or taken, by its padding
    pub tile_there : {dots : ℕ} {t : Bool} → (lines ≡ 0 → ⊥) → dots ≡ at (words load) (2 + v + 4) → (dots ≡ 0 → ⊥)
        → padding_set (drop (2 + v + 3) (words load)) ≡ t
        → command (load_words load) least 4 ws
        ≡ cond t (refused 15 0) (taken (set_tile (eqb mode 1) v (words (part_of load (2 + v) (2 + v + (3 + n))))) (in_load v (3 + n)) 3)
    tile_there {dots} {t} s d z q =
        let alone = ap (λ (r : List ℕ). padding_set (take n r)) (sym (tile_from_lem 3)) ∙ padding_alone (drop (2 + v + 3) (words load)) n x ∙ q in
        tile-measured (some n) x
        ∙ rw (ne_eqb _ 0 (λ y. s (w ∙ tile_word 3 ∙ y)), ne_eqb _ 0 (λ y. z (d ∙ tile_word 4 ∙ y)), alone, ← m, tile_part_lem, h) (padded_is t _)

-- ---- the command at place p of a band that ends before place e

-- no word is there
pub no_command : (load : List ℕ) (now : ℕ) (ws : List ℕ) → ws ≡ [] → command_in load now ws ≡ refused 6 0
unfolding command_in
no_command load now ws e = ap (command_in load now) e

-- by its code word and the part after it
pub command-at : (load : List ℕ) (now : ℕ) (sheet args : List ℕ) (p e code : ℕ) → p < e → e ≤ length (words sheet) → args ≡ part_of sheet (p + 1) e
    → code ≡ at (words sheet) p → command load now code (words args) ≡ command_in load now (words (part_of sheet p e))
unfolding command_in
command-at load now sheet args p e code h l a w =
    ap₂ (λ (x : ℕ) (r : List ℕ). command load now x (words r)) w a ∙ ap (command_in load now) (sym (part_first sheet p e h l))

pub command_here : (load : List ℕ) (least : ℕ) (sheet : List ℕ) (p e : ℕ) → p < e → e ≤ length sheet / 2
    → command_in load least (words (part_of sheet p e)) ≡ command load least (at (words sheet) p) (words (part_of sheet (p + 1) e))
command_here load least sheet p e h l = sym (command-at load least sheet (part_of sheet (p + 1) e) p e (at (words sheet) p) h (omega (arith, length-words sheet)) refl refl)

-- a code that is not any of 1 to 10 is 0 or over 10, as the table tests it
unknown : (code : ℕ) → (1 ≤ code → 10 < code) → (eqb code 0 || ltb 10 code) ≡ true
unknown zero h = refl
unknown (suc k) h = rw (ne_eqb (suc k) 0 (λ e. omega arith)) (lt-ltb 10 (suc k) (h (omega arith)))

-- and the command is refused
pub command_unknown : (load : List ℕ) (now code : ℕ) (args : List ℕ) → (1 ≤ code → 10 < code) → command load now code args ≡ refused 7 0
unfolding command command_table first
command_unknown load now code args h = rw (unknown code h) refl
