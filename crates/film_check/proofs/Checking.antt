-- Laws of the check: the answer from the beginning is the answer from the walk on, and the table comes before it. Assumes nothing.
use mathlib.Core.Path.{◌≡◌, sym, ap, ◌∙◌}
use mathlib.Core.List.{List}
use Prim.Native.Nat.{ℕ, ◌<◌, ◌≤◌}
use lib.ListN.{length, drop_of_length-le}
use lib.Seq.{drop-cons}
use Rattle.std.proofs.Common.{Result, Ok, Err}
use Rattle.refusal.specs.Answers.{given, refused, and_then, Verdict, fine}
use Rattle.refusal.specs.Code.{refused_as}
use Rattle.refusal.specs.declared.Refusal.{Refusal}
use Rattle.film_words.specs.Words.{words}
use Rattle.film_words.specs.Parts.{part_of}
use Rattle.film_words.specs.Load.{load_words}
use Rattle.film_commands.specs.Band.{band_test}
use Rattle.film_herald.specs.Herald.{herald_of, page_count, band_count}
use Rattle.film_herald.specs.Refusals.{herald_test}
use Rattle.film_layout.specs.Layout.{span, Layout, ends, layout_of}
use Rattle.film_layout.specs.Walks.{to_come, node_as, Stepped}
use Rattle.film_layout.specs.declared.Walk.{Walk}
use Rattle.film_layout.specs.declared.Node as code
use Rattle.film_layout.specs.declared.Node.TheVariants as node
use Rattle.film_layout.proofs.Walks.{met}
use Rattle.film_check.specs.Check.{CheckAnswer, check_layout, check_answer}

-- what the check of a layout answers
abbrev pub says : (sheet load : List ℕ) → Layout → CheckAnswer
says sheet load = check_layout (load_words load) (page_count (words sheet))

-- of all pages
abbrev pub walked : (sheet load : List ℕ) → CheckAnswer
walked sheet load = says sheet load (layout_of (words sheet))

-- the answer is that of what is to come from walk w, where a page has m bands
pub record CheckedTo (sheet load : List ℕ) (m : ℕ) (w : Walk) : Type 0 where
  pub is : walked sheet load ≡ says sheet load (to_come sheet m w)

-- from the first page, where m is the number that the herald says
pub check_first : (sheet load : List ℕ) (m : ℕ) (w : Walk) → m ≡ band_count (herald_of (words sheet))
    → to_come sheet (band_count (herald_of (words sheet))) w ≡ layout_of (words sheet) → CheckedTo sheet load m w
check_first sheet load m w c e = record { is = sym (ap (λ (y : ℕ). says sheet load (to_come sheet y w)) c ∙ ap (says sheet load) e) }

-- one step from walk w
module _ {sheet load : List ℕ} {m : ℕ} {w : Walk} (i : CheckedTo sheet load m w) {r : Result code.Node Refusal} (x : Stepped sheet m w r) where
  -- at node s
  check_at : (s : Result code.Node Refusal) → r ≡ s → walked sheet load ≡ says sheet load (node_as sheet m s)
  check_at s e = i.is ∙ ap (says sheet load) (met s x e).0

  -- a page begins
  pub check_page : (v : Walk) → r ≡ Ok (node.Page v) → CheckedTo sheet load m v
  unfolding check_layout
  check_page v e = record { is = check_at (Ok (node.Page v)) e }

  -- a count is wrong or missing
  pub check_refused : (y : Refusal) → r ≡ Err y → refused_as y ≡ walked sheet load
  unfolding check_layout
  check_refused y e = sym (check_at (Err y) e)

  -- a band, of whose commands u is said
  module _ (from to : ℕ) (v : Walk) (e : r ≡ Ok (node.Band from to v)) (u : Verdict) (y : u ≡ band_test (load_words load) from (words (part_of sheet from to))) where
    -- where u is a
    check_after : (a : Verdict) → u ≡ a → walked sheet load ≡ and_then a (λ z. says sheet load (to_come sheet m v))
    unfolding check_layout
    check_after a f = check_at (Ok (node.Band from to v)) e ∙ ap (λ (b : Verdict). and_then b (λ z. says sheet load (to_come sheet m v))) (sym y ∙ f)

    -- nothing is wrong with them
    pub check_band : u ≡ fine → CheckedTo sheet load m v
    check_band f = record { is = check_after fine f }

    -- one of them is refused
    pub check_stops : (q : Refusal) → u ≡ refused_as q → refused_as q ≡ walked sheet load
    check_stops q f = sym (check_after (refused_as q) f)

  -- words come after the last page
  pub check_more : (p : ℕ) → r ≡ Ok (node.End p) → p < length (words sheet) → refused 10 p ≡ walked sheet load
  unfolding check_layout
  check_more p e l = sym (check_at (Ok (node.End p)) e ∙ ap (λ (ws : List ℕ). says sheet load (ends (given (span p ws)))) (drop-cons (words sheet) p 0 l))

  -- nothing comes after the last page
  pub check_done : (p n : ℕ) → r ≡ Ok (node.End p) → n ≡ page_count (words sheet) → length (words sheet) ≤ p → given n ≡ walked sheet load
  unfolding check_layout
  check_done p n e f l =
      ap given f
      ∙ sym (check_at (Ok (node.End p)) e ∙ ap (λ (ws : List ℕ). says sheet load (ends (given (span p ws)))) (drop_of_length-le (words sheet) {i = p} l))

-- the answer after the table's verdict v
pub answer_is : (sheet load : List ℕ) (v : Verdict) → v ≡ herald_test sheet load → and_then v (λ u. walked sheet load) ≡ check_answer sheet load
unfolding check_answer
answer_is sheet load v e = ap (λ (a : Verdict). and_then a (λ u. walked sheet load)) e
