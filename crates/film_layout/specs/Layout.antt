-- Pages and bands as they stand in a sheet. A page is its count of bands, then the bands; a band is a count of words, then its commands in exactly
-- that many words.
use Rattle.std.specs.Prelude.{◌≡◌, cond, List, [], ◌∷◌, ℕ, zero, suc, ◌+◌, leb, eqb, length, take, drop}
use Rattle.refusal.specs.Answers.{Answer, given, refused, and_then}
use Rattle.film_herald.specs.Herald.{Herald, herald_of, page_count, band_count, Window, whole_film}

-- words of the sheet from a place on
pub record Span : Type 0 where
  pub place : ℕ
  pub words : List ℕ

abbrev pub span : ℕ → List ℕ → Span
span p ws = record { place = p; words = ws }

-- the pages and bands in the sheet's order
pub data Layout : Type 0 where
  -- a page begins: its window, and what comes after its count
  page_head : Window → Layout → Layout
  -- a band, and what comes after it
  band : Span → Layout → Layout
  -- every page is passed, and these words come after them; or a count is wrong or missing
  ends : Answer Span → Layout

-- n bands, whose first count word stands at place p at the beginning of ws, and then k
unfoldable pub bands_then : ℕ → ℕ → List ℕ → (ℕ → List ℕ → Layout) → Layout
bands_then zero p ws k = k p ws
bands_then (suc n) p [] k = ends (refused 6 p)
bands_then (suc n) p (c ∷ ws) k = cond (leb c (length ws)) (band (span (suc p) (take c ws)) (bands_then n (suc p + c) (drop c ws) k)) (ends (refused 6 p))

-- n pages of m bands each; each has the whole film as its window
unfoldable pub pages_from : Herald → (m : ℕ) → ℕ → ℕ → List ℕ → Layout
pages_from h m zero p ws = ends (given (span p ws))
pages_from h m (suc n) p [] = ends (refused 6 p)
pages_from h m (suc n) p (c ∷ ws) = cond (eqb c m) (page_head (whole_film h) (bands_then m (suc p) ws (pages_from h m n))) (ends (refused 5 p))

-- the pages begin after word 11
abbrev pub layout_of : List ℕ → Layout
layout_of ws = pages_from (herald_of ws) (band_count (herald_of ws)) (page_count ws) 12 (drop 12 ws)

-- ---- one of the pages, and one of its bands

-- a page that was reached: its window, and what comes after its count
pub record Page : Type 0 where
  pub window : Window
  pub bands : Layout

-- page k, counted from 0; a refusal before it; or 11 where the pages end before it
unfoldable pub reach_page : ℕ → Layout → Answer Page
reach_page k (ends a) = and_then a (λ x. refused 11 0)
reach_page k (band x rest) = reach_page k rest
reach_page zero (page_head w rest) = given (record { window = w; bands = rest })
reach_page (suc k) (page_head w rest) = reach_page k rest

-- band k of the page, counted from 0; a refusal before it; or 11 where the page ends before it
unfoldable pub reach : ℕ → Layout → Answer Span
reach k (ends a) = and_then a (λ x. refused 11 0)
reach k (page_head w rest) = refused 11 0
reach zero (band x rest) = given x
reach (suc k) (band x rest) = reach k rest

-- ---- worked cases

-- 4 lines of 20 dots in bands of 2
abbrev example : Herald
example = herald_of (0xAAAA ∷ 1 ∷ 0 ∷ 0 ∷ 0 ∷ 4 ∷ 20 ∷ 2 ∷ [])

-- 2 pages of 2 bands: bands of 1, 0, 2 and 1 words, and a word after the last page
abbrev two_pages : Layout
two_pages = pages_from example 2 2 12 (2 ∷ 1 ∷ 3 ∷ 0 ∷ 2 ∷ 2 ∷ 2 ∷ 3 ∷ 1 ∷ 2 ∷ 9 ∷ [])

-- the second page, after its count
abbrev second_page : Layout
second_page = band (span 18 (2 ∷ 3 ∷ [])) (band (span 21 (2 ∷ [])) (ends (given (span 22 (9 ∷ [])))))

-- a page whose second band is longer than the sheet
abbrev cut : Layout
cut = pages_from example 2 1 12 (2 ∷ 0 ∷ 1 ∷ [])

pub record LayoutCases : Type 0 where
  pub all_bands : two_pages ≡ page_head (whole_film example) (band (span 14 (3 ∷ [])) (band (span 16 []) (page_head (whole_film example) second_page)))
  pub second_page_case : reach_page 1 two_pages ≡ given (record { window = whole_film example; bands = second_page })
  pub no_third_page : reach_page 2 two_pages ≡ refused 11 0
  pub its_band : reach 1 second_page ≡ given (span 21 (2 ∷ []))
  pub no_third_band : reach 2 second_page ≡ refused 11 0
  pub not_of_next_page : reach 0 two_pages ≡ refused 11 0
  -- the pages begin after word 11, and have as many bands as the herald says
  pub layout_is : layout_of (0xAAAA ∷ 1 ∷ 0 ∷ 0 ∷ 0 ∷ 4 ∷ 20 ∷ 2 ∷ 0 ∷ 0 ∷ 1 ∷ 1 ∷ 2 ∷ 0 ∷ 0 ∷ []) ≡ page_head (whole_film example) (band (span 14 []) (band (span 15 []) (ends (given (span 15 [])))))
  pub page_count_missing : pages_from example 2 1 12 [] ≡ ends (refused 6 12)
  pub wrong_band_count : pages_from example 2 1 12 (3 ∷ []) ≡ ends (refused 5 12)
  pub band_count_missing : pages_from example 2 1 12 (2 ∷ 0 ∷ []) ≡ page_head (whole_film example) (band (span 14 []) (ends (refused 6 14)))
  pub band_past_sheet : cut ≡ page_head (whole_film example) (band (span 14 []) (ends (refused 6 14)))
  pub refusal_reached : reach_page 1 cut ≡ refused 6 14
  pub refusal_in_page : reach 1 (band (span 14 []) (ends (refused 6 14))) ≡ refused 6 14
  pub before_refusal : reach 0 (band (span 14 []) (ends (refused 6 14))) ≡ given (span 14 [])

pub layout_cases : LayoutCases
unfolding bands_then pages_from reach_page reach band_count
layout_cases = search
