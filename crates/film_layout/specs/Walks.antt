-- What the walk's answers stand for: the layout that is to come from a walk is one node, and then the layout that is to come from the next walk.
use Rattle.std.specs.Prelude.{◌≡◌, List, ℕ, ◌≤◌, ◌<◌, length, drop, Result, Ok, Err}
use Rattle.refusal.specs.Answers.{Answer, given}
use Rattle.refusal.specs.Code.{refused_as, answer_as}
use Rattle.refusal.specs.declared.Refusal.{Refusal}
use Rattle.film_words.specs.Words.{words}
use Rattle.film_words.specs.Parts.{part_of}
use Rattle.film_herald.specs.Herald.{herald_of, band_count, whole_film}
use Rattle.film_layout.specs.Layout.{Span, span, Layout, page_head, band, ends, bands_then, pages_from, Page}
use Rattle.film_layout.specs.declared.Walk.{Walk}
use Rattle.film_layout.specs.declared.Node as code
use Rattle.film_layout.specs.declared.Node.TheVariants as node

-- what is to come: the bands of the page, then the pages, of m bands each
unfoldable pub to_come : (sheet : List ℕ) (m : ℕ) → Walk → Layout
to_come sheet m w = bands_then w.bands w.at (drop w.at (words sheet)) (pages_from (herald_of (words sheet)) m w.pages)

-- the words of the sheet from one place up to another
abbrev pub span_of : (sheet : List ℕ) (from to : ℕ) → Span
span_of sheet from to = span from (words (part_of sheet from to))

-- a node, with what is to come after it; or a count that is wrong or missing
abbrev pub node_as : (sheet : List ℕ) (m : ℕ) → Result code.Node Refusal → Layout
node_as sheet m (Ok (node.Page w)) = page_head (whole_film (herald_of (words sheet))) (to_come sheet m w)
node_as sheet m (Ok (node.Band from to w)) = band (span_of sheet from to) (to_come sheet m w)
node_as sheet m (Ok (node.End p)) = ends (given (span p (drop p (words sheet))))
node_as sheet m (Err r) = ends (refused_as r)

-- a walk goes on in the sheet
abbrev pub Onward : (sheet : List ℕ) → Walk → Result code.Node Refusal → Type 0
Onward sheet w (Ok (node.Page v)) = (w.at < v.at) × (v.at ≤ length (words sheet))
Onward sheet w (Ok (node.Band from to v)) = (w.at < from) × (from ≤ to) × (to ≤ length (words sheet)) × (v.at ≡ to)
Onward sheet w (Ok (node.End p)) = Unit
Onward sheet w (Err r) = Unit

-- what stands at walk w
pub record Stepped (sheet : List ℕ) (m : ℕ) (w : Walk) (r : Result code.Node Refusal) : Type 0 where
  pub is : node_as sheet m r ≡ to_come sheet m w
  pub on : Onward sheet w r

-- a page that was sought: the walk after its count
abbrev pub opened_as : (sheet : List ℕ) → Result Walk Refusal → Answer Page
opened_as sheet r = answer_as (λ w. record { window = whole_film (herald_of (words sheet)); bands = to_come sheet (band_count (herald_of (words sheet))) w }) r

-- a band that was sought: the places of its words
abbrev pub found_as : (sheet : List ℕ) → Result (ℕ × ℕ) Refusal → Answer Span
found_as sheet r = answer_as (λ x. span_of sheet x.0 x.1) r

-- it lies in the sheet
abbrev pub InSheet : (sheet : List ℕ) → Result (ℕ × ℕ) Refusal → Type 0
InSheet sheet (Ok x) = (x.0 ≤ x.1) × (x.1 ≤ length (words sheet))
InSheet sheet (Err r) = Unit
