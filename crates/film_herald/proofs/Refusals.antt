-- Laws of the refusals before the walk: the table read line by line, and what a sheet and load are that pass. Assumes nothing.
use mathlib.Core.Path.{◌≡◌, refl, sym, ap₂, ◌∙◌}
use mathlib.Core.Bool.{Bool, true, false, ◌||◌}
use mathlib.Core.List.{List, [], ◌∷◌, ◌++◌}
use Prim.Native.Nat.{ℕ, ◌+◌, ◌*◌, ◌%◌, ◌<◌, ◌≤◌}
use native.Mathlib.Omega.{arith}
use borrow.Author.Tests.{ltb-false, eqb-false, eqb-true, not-false}
use lib.Dec.{ltb}
use lib.ListN.{length}
use Rattle.refusal.specs.Answers.{and_then, Verdict, fine}
use Rattle.refusal.specs.Tables.{Line, refuse, first}
use Rattle.refusal.proofs.Tables.{line_no, first-append}
use Rattle.film_words.specs.Words.{words}
use Rattle.film_words.proofs.Words.{length-words}
use Rattle.film_words.specs.Load.{load_count}
use Rattle.film_herald.specs.Herald.{herald_of, page_count, row_length}
use Rattle.film_herald.specs.Refusals.{outside, length_table, password_table, size_table, load_table, page_table, herald_table, herald_test}

-- for the lines' tests: how many words a file has
pub ruleset line_tests = (length-words)

-- ---- a table read line by line

-- v is what the lines a give
pub record Gives (a : List Line) (v : Verdict) : Type 0 where
  pub is : v ≡ first a

-- no line is read yet
pub none_yet : Gives [] fine
unfolding first
none_yet = record { is = refl }

-- one more line: a call gives w, and u is the line's test as the table has it
pub one_more : {a : List Line} {v w : Verdict} {t : Bool} (n p : ℕ) (u : Bool)
    → Gives a v → w ≡ and_then v (λ u. first (refuse n p t ∷ [])) → t ≡ u → Gives (a ++ (refuse n p u ∷ [])) w
one_more {a} {v} {w} {t} n p u h e q =
    let same = ap₂ (λ (x : Verdict) (y : Bool). and_then x (λ u. first (refuse n p y ∷ []))) h.is q in
    record { is = e ∙ same ∙ sym (first-append a (refuse n p u ∷ [])) }

-- ---- what passes

-- what is not outside
pub outside_false : (low high x : ℕ) → outside low high x ≡ false → (low ≤ x) × (x ≤ high)
outside_false low high x e = (ltb-false x low (left (ltb x low) (ltb high x) e), ltb-false high x (right (ltb x low) (ltb high x) e))
  where
    left : (s t : Bool) → (s || t) ≡ false → s ≡ false
    left true t e = e
    left false t e = refl

    right : (s t : Bool) → (s || t) ≡ false → t ≡ false
    right true true e = e
    right true false e = refl
    right false t e = e

-- what a sheet and load are that nothing is wrong with before the walk: each line of the table
pub record HeraldFine (sheet load : List ℕ) : Type 0 where
  pub sheet_even : length sheet % 2 ≡ 0
  pub load_even : length load % 2 ≡ 0
  pub sheet-length : length sheet ≤ 16777216
  pub load_length : length load ≤ 16777216
  pub sheet-words : 12 ≤ length (words sheet)
  pub lines_low : 1 ≤ (herald_of (words sheet)).image_s_size
  pub lines_high : (herald_of (words sheet)).image_s_size ≤ 32768
  pub dots_low : 1 ≤ (herald_of (words sheet)).image_f_size
  pub dots_high : (herald_of (words sheet)).image_f_size ≤ 32768
  pub band_low : 0 < (herald_of (words sheet)).band_s_size
  pub band_high : (herald_of (words sheet)).band_s_size ≤ (herald_of (words sheet)).image_s_size
  pub band_bytes_lem : (herald_of (words sheet)).band_s_size * row_length (herald_of (words sheet)).image_f_size ≤ 65536
  pub copies_low : 1 ≤ (herald_of (words sheet)).copies
  pub load_count_lem : 2 + load_count load ≡ length (words load)
  pub load_limit : load_count load ≤ (herald_of (words sheet)).max_load_words
  pub pages_low : 0 < page_count (words sheet)

-- it follows from the table
pub herald_fine : (sheet load : List ℕ) → herald_test sheet load ≡ fine → HeraldFine sheet load
unfolding herald_test herald_table length_table password_table size_table load_table page_table
herald_fine sheet load e =
    let no = line_no (herald_table sheet load) e in
    let ws = words sheet in
    let h = herald_of ws in
    let lines = outside_false 1 32768 h.image_s_size (no 7) in
    let dots = outside_false 1 32768 h.image_f_size (no 8) in
    let band = outside_false 1 h.image_s_size h.band_s_size (no 9) in
    let sheet-odd = eqb-false (length sheet % 2) 1 (no 0) in
    let load-odd = eqb-false (length load % 2) 1 (no 1) in
    let pages = eqb-false (page_count ws) 0 (no 15) in
    record {
      sheet_even = omega arith;
      load_even = omega arith;
      sheet-length = ltb-false 16777216 (length sheet) (no 2);
      load_length = ltb-false 16777216 (length load) (no 3);
      sheet-words = ltb-false (length ws) 12 (no 4);
      lines_low = lines.0;
      lines_high = lines.1;
      dots_low = dots.0;
      dots_high = dots.1;
      band_low = band.0;
      band_high = band.1;
      band_bytes_lem = ltb-false 65536 (h.band_s_size * row_length h.image_f_size) (no 11);
      copies_low = ltb-false h.copies 1 (no 10);
      load_count_lem = eqb-true (2 + load_count load) (length (words load)) (not-false _ (no 13));
      load_limit = ltb-false h.max_load_words (load_count load) (no 14);
      pages_low = omega arith;
    }
