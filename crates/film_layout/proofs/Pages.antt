-- Laws of the pages and bands of a sheet. Assumes nothing.
use mathlib.Core.Path.{◌≡◌, sym, ap}
use mathlib.Core.Bool.{Bool, true, false, cond}
use mathlib.Core.List.{List, [], ◌∷◌}
use Prim.Native.Nat.{ℕ, zero, suc, ◌+◌}
use lib.Dec.{leb, eqb}
use lib.ListN.{length, take, drop}
use Rattle.refusal.specs.Answers.{Answer, given, refused}
use Rattle.refusal.proofs.Answers.{not_given}
use Rattle.film_herald.specs.Herald.{Herald, Window, whole_film}
use Rattle.film_layout.specs.Layout.{Span, span, Layout, page_head, band, ends, bands_then, pages_from, Page, reach_page}

-- every page that is reached in x has the window v
abbrev Windowed : Window → Layout → Type 0
Windowed v x = (k : ℕ) (q : Page) → reach_page k x ≡ given q → q.window ≡ v

-- where the layout ends no page is reached
ends-windowed : (v : Window) (a : Answer Span) → Windowed v (ends a)
unfolding reach_page
ends-windowed v (given x) k q e = not_given 11 0 q e
ends-windowed v (refused n p) k q e = not_given n p q e

-- a band is passed
band_windowed : (v : Window) (x : Span) (rest : Layout) → Windowed v rest → Windowed v (band x rest)
unfolding reach_page
band_windowed v x rest h k q e = h k q e

-- a page is reached or passed
page_windowed : (v : Window) (rest : Layout) → Windowed v rest → Windowed v (page_head v rest)
unfolding reach_page
page_windowed v rest h zero q e = let s : record { window = v; bands = rest } ≡ q = cc in sym (ap (λ (y : Page). y.window) s)
page_windowed v rest h (suc k) q e = h k q e

-- one of two layouts
either_windowed : (v : Window) (t : Bool) (x y : Layout) → Windowed v x → Windowed v y → Windowed v (cond t x y)
either_windowed v true x y a b = a
either_windowed v false x y a b = b

-- bands, and then what has the window at every place
bands-windowed : (v : Window) (n p : ℕ) (ws : List ℕ) (k : ℕ → List ℕ → Layout)
    → ((q : ℕ) (r : List ℕ) → Windowed v (k q r)) → Windowed v (bands_then n p ws k)
unfolding bands_then
bands-windowed v zero p ws k h = h p ws
bands-windowed v (suc n) p [] k h = ends-windowed v (refused 6 p)
bands-windowed v (suc n) p (c ∷ ws) k h =
    either_windowed v (leb c (length ws)) _ _
    (band_windowed v (span (suc p) (take c ws)) (bands_then n (suc p + c) (drop c ws) k) (bands-windowed v n (suc p + c) (drop c ws) k h))
    (ends-windowed v (refused 6 p))

-- every page that is reached has the whole film as its window
pub whole-window : (h : Herald) (m n p : ℕ) (ws : List ℕ) (k : ℕ) (q : Page)
    → reach_page k (pages_from h m n p ws) ≡ given q → q.window ≡ whole_film h
unfolding pages_from
whole-window h m zero p ws = ends-windowed (whole_film h) (given (span p ws))
whole-window h m (suc n) p [] = ends-windowed (whole_film h) (refused 6 p)
whole-window h m (suc n) p (c ∷ ws) =
    either_windowed (whole_film h) (eqb c m) _ _
    (page_windowed (whole_film h) (bands_then m (suc p) ws (pages_from h m n))
    (bands-windowed (whole_film h) m (suc p) ws (pages_from h m n) (whole-window h m n)))
    (ends-windowed (whole_film h) (refused 5 p))
