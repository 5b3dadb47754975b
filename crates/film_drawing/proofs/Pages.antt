-- Laws of the pages and bands of a sheet, by the words in which they are laid down. Assumes nothing.
use mathlib.Core.Path.{◌≡◌, refl, sym, ap, ap₂, ◌∙◌}
use mathlib.Core.Bool.{Bool, true, false, cond}
use mathlib.Core.List.{List, [], ◌∷◌, ◌++◌, append_assoc, map}
use Prim.Native.Nat.{ℕ, zero, suc, ◌+◌, ◌<◌}
use native.Mathlib.Nat.{add-zero}
use native.Mathlib.Omega.{arith}
use borrow.Author.Tests.{le-leb, leb-true, eqb-true, eq-eqb}
use lib.Dec.{leb, eqb}
use lib.ListN.{length, get_or, take, drop, set, replicate, length-append, length-set, length-map, length-replicate, get_or-replicate, take-append-drop, get_or-map}
use lib.Seq.{length-take-le, take-append_seam, drop-append_seam, set_split}
use Rattle.refusal.specs.Answers.{Answer, given, refused, and_then, given_or, Verdict, fine}
use Rattle.refusal.proofs.Answers.{not_given}
use Rattle.film_words.specs.Words.{words}
use Rattle.film_commands.specs.Band.{band_test}
use Rattle.film_herald.specs.Herald.{Herald, herald_of, page_count, band_count, whole_film}
use Rattle.film_layout.specs.Layout.{Span, span, Layout, page_head, band, ends, bands_then, pages_from, layout_of, Page, reach_page, reach}
use Rattle.film_layout.proofs.Pages.{whole-window}
use Rattle.film_check.specs.Check.{check_layout}
use Rattle.film_drawing.specs.Picture.{page_at}
use Rattle.film_drawing.specs.Demand3.{Has}

-- ---- words laid down

-- each of a list in words, one after another
unfoldable pub laid : {A : Type 0} → (A → List ℕ) → List A → List ℕ
laid g [] = []
laid g (x ∷ xs) = g x ++ laid g xs

-- a list, then another
laid-append : {A : Type 0} (g : A → List ℕ) (xs ys : List A) → laid g (xs ++ ys) ≡ laid g xs ++ laid g ys
unfolding laid
laid-append g [] ys = refl
laid-append g (x ∷ xs) ys = rw (laid-append g xs ys, append_assoc) refl

-- a band is the count of its words, then the words
abbrev pub band_words : List ℕ → List ℕ
band_words c = length c ∷ c

-- a page is the count of its bands, then the bands
abbrev pub page_words : List (List ℕ) → List ℕ
page_words bs = length bs ∷ laid band_words bs

-- ---- what the check passes

-- where an answer was given after a test, the test was passed
pub passed : {A : Type 0} (v : Verdict) (x : Answer A) (a : A) → and_then v (λ u. x) ≡ given a → (v ≡ fine) × (x ≡ given a)
passed (given tt) x a e = (refl, e)
passed (refused n p) x a e = not_given n p a e

-- ws are k pages of m bands each
pub record Holds (m k : ℕ) (ws : List ℕ) (pages : List (List (List ℕ))) : Type 0 where
  pub is : ws ≡ laid page_words pages
  pub sizes : map length pages ≡ replicate k m

module _ (load : List ℕ) (h : Herald) (n r : ℕ) where
  abbrev pub Passed : Layout → Type 0
  Passed L = check_layout load n L ≡ given r

  -- ws are m bands, and words after them from which k goes on
  record Bands (m : ℕ) (ws : List ℕ) (k : ℕ → List ℕ → Layout) : Type 0 where
    bands : List (List ℕ)
    rest : List ℕ
    place : ℕ
    is : ws ≡ laid band_words bands ++ rest
    count : length bands ≡ m
    after : Passed (k place rest)

  -- a walk that passes over m bands
  bands_in : (m p : ℕ) (ws : List ℕ) (k : ℕ → List ℕ → Layout) → Passed (bands_then m p ws k) → Bands m ws k
  unfolding bands_then check_layout laid
  bands_in zero p ws k e = record { bands = []; rest = ws; place = p; is = refl; count = refl; after = e }
  bands_in (suc m) p [] k e = not_given 6 p r e
  bands_in (suc m) p (c ∷ ws) k e = go (leb c (length ws)) refl (bands_in m (suc p + c) (drop c ws) k) e
    where
      go : (t : Bool) → leb c (length ws) ≡ t → (Passed (bands_then m (suc p + c) (drop c ws) k) → Bands m (drop c ws) k)
          → Passed (cond t (band (span (suc p) (take c ws)) (bands_then m (suc p + c) (drop c ws) k)) (ends (refused 6 p))) → Bands (suc m) (c ∷ ws) k
      go true t ih e =
          let b = ih (passed (band_test load (suc p) (take c ws)) _ r e).1 in
          let l : length (take c ws) ≡ c = length-take-le c ws (leb-true c (length ws) t) in
          record {
            bands = take c ws ∷ b.bands;
            rest = b.rest;
            place = b.place;
            is =
                ap₂ (λ (x : ℕ) (y : List ℕ). x ∷ y) (sym l)
                (sym (take-append-drop c ws)
                ∙ ap (λ (y : List ℕ). take c ws ++ y) b.is
                ∙ sym (append_assoc (take c ws) (laid band_words b.bands) b.rest));
            count = ap suc b.count;
            after = b.after;
          }
      go false t ih e = not_given 6 p r e

  -- a walk that passes over k pages of m bands each
  pub pages_in : (m k p : ℕ) (ws : List ℕ) → Passed (pages_from h m k p ws) → (pages : List (List (List ℕ))) × Holds m k ws pages
  unfolding pages_from check_layout laid
  pages_in m zero p [] e = ([], record { is = refl; sizes = refl })
  pages_in m zero p (w ∷ ws) e = not_given 10 p r e
  pages_in m (suc k) p [] e = not_given 6 p r e
  pages_in m (suc k) p (c ∷ ws) e = go (eqb c m) refl (pages_in m k) e
    where
      go : (t : Bool) → eqb c m ≡ t → ((p : ℕ) (ws : List ℕ) → Passed (pages_from h m k p ws) → (pages : List (List (List ℕ))) × Holds m k ws pages)
          → Passed (cond t (page_head (whole_film h) (bands_then m (suc p) ws (pages_from h m k))) (ends (refused 5 p)))
          → (pages : List (List (List ℕ))) × Holds m (suc k) (c ∷ ws) pages
      go true t ih e =
          let b = bands_in m (suc p) ws (pages_from h m k) e in
          let g = ih b.place b.rest b.after in
          let is : c ∷ ws ≡ laid page_words (b.bands ∷ g.0) =
          ap₂ (λ (x : ℕ) (y : List ℕ). x ∷ y) (eqb-true c m t ∙ sym b.count)
          (b.is ∙ ap (λ (y : List ℕ). laid band_words b.bands ++ y) g.1.is) in
          (b.bands ∷ g.0, record { is = is; sizes = ap₂ (λ (x : ℕ) (y : List ℕ). x ∷ y) b.count g.1.sizes })
      go false t ih e = not_given 5 p r e

  -- the bands of a page that is reached are passed
  pub page_passed : (i : ℕ) (L : Layout) (q : Page) → Passed L → reach_page i L ≡ given q → Passed q.bands
  unfolding check_layout reach_page
  page_passed i (ends (given x)) q e f = not_given 11 0 q f
  page_passed i (ends (refused k p)) q e f = not_given k p r e
  page_passed i (band x rest) q e f = page_passed i rest q (passed (band_test load x.place x.words) _ r e).1 f
  page_passed zero (page_head w rest) q e f = rw (ap (λ (x : Answer Page). (given_or q x).bands) f) at e
  page_passed (suc i) (page_head w rest) q e f = page_passed i rest q e f

  -- and a band that is reached
  pub band_passed : (j : ℕ) (L : Layout) (x : Span) → Passed L → reach j L ≡ given x → band_test load x.place x.words ≡ fine
  unfolding check_layout reach
  band_passed j (ends (given y)) x e f = not_given 11 0 x f
  band_passed j (ends (refused k p)) x e f = not_given k p r e
  band_passed j (page_head w rest) x e f = not_given 11 0 x f
  band_passed zero (band y rest) x e f = rw (ap (given_or x) f) at (passed (band_test load y.place y.words) _ r e).0
  band_passed (suc j) (band y rest) x e f = band_passed j rest x (passed (band_test load y.place y.words) _ r e).1 f

-- ---- what is reached where pages and bands are laid down

module _ (c : List ℕ) (bs : List (List ℕ)) (p : ℕ) where
  -- one band
  band_step : (rest : List ℕ) (k : ℕ → List ℕ → Layout)
      → bands_then (suc (length bs)) p (laid band_words (c ∷ bs) ++ rest) k
      ≡ band (span (suc p) c) (bands_then (length bs) (suc p + length c) (laid band_words bs ++ rest) k)
  unfolding laid bands_then
  band_step rest k =
      let more = laid band_words bs ++ rest in
      let l = length-append c more in
      ap (λ (y : List ℕ). bands_then (suc (length bs)) p (length c ∷ y) k) (append_assoc c (laid band_words bs) rest)
      ∙ rw (le-leb (length c) (length (c ++ more)) (omega arith), take-append_seam c more, drop-append_seam c more) refl

  -- and the place after it
  band_place : p + length (laid band_words (c ∷ bs)) ≡ suc p + length c + length (laid band_words bs)
  unfolding laid
  band_place = simp length-append (omega arith)

-- band j of those that are laid down from place p on
reach-laid : (bs : List (List ℕ)) (p : ℕ) (rest : List ℕ) (k : ℕ → List ℕ → Layout) (j : ℕ) → j < length bs
    → reach j (bands_then (length bs) p (laid band_words bs ++ rest) k) ≡ given (span (suc (p + length (laid band_words (take j bs)))) (get_or bs j []))
unfolding reach laid
reach-laid [] p rest k j lt = absurd (omega arith)
reach-laid (c ∷ bs) p rest k zero lt = rw (band_step c bs p rest k, add-zero) refl
reach-laid (c ∷ bs) p rest k (suc j) lt =
    rw (band_step c bs p rest k, band_place c (take j bs) p) (reach-laid bs (suc p + length c) rest k j (omega arith))

-- a page after them
past-laid : (bs : List (List ℕ)) (p : ℕ) (rest : List ℕ) (k : ℕ → List ℕ → Layout) (i : ℕ)
    → reach_page i (bands_then (length bs) p (laid band_words bs ++ rest) k) ≡ reach_page i (k (p + length (laid band_words bs)) rest)
unfolding reach_page laid bands_then
past-laid [] p rest k i = rw add-zero refl
past-laid (c ∷ bs) p rest k i = rw (band_step c bs p rest k, band_place c bs p) (past-laid bs (suc p + length c) rest k i)

-- the words before band j of page i, from the first page on
abbrev pub before : List (List (List ℕ)) → (i j : ℕ) → List ℕ
before pages i j = laid page_words (take i pages) ++ (length (get_or pages i []) ∷ laid band_words (take j (get_or pages i [])))

-- and those after it
abbrev pub behind : List (List (List ℕ)) → (i j : ℕ) → List ℕ
behind pages i j = laid band_words (drop (suc j) (get_or pages i [])) ++ laid page_words (drop (suc i) pages)

-- the pages with other words in band j of page i
abbrev pub changed : List (List (List ℕ)) → (i j : ℕ) → List ℕ → List (List (List ℕ))
changed pages i j c = set pages i (set (get_or pages i []) j c)

-- their words
pub laid-changed : (pages : List (List (List ℕ))) (i j : ℕ) (c : List ℕ) → i < length pages → j < length (get_or pages i [])
    → laid page_words (changed pages i j c) ≡ before pages i j ++ (band_words c ++ behind pages i j)
unfolding laid
laid-changed pages i j c lt lt' =
    let bs = get_or pages i [] in
    let one : laid band_words (set bs j c) ≡ laid band_words (take j bs) ++ (band_words c ++ laid band_words (drop (suc j) bs)) =
    ap (laid band_words) (set_split bs j c lt') ∙ laid-append band_words (take j bs) _ in
    ap (laid page_words) (set_split pages i (set bs j c) lt)
    ∙ laid-append page_words (take i pages) _
    ∙ rw (length-set bs j c, one) (simp append_assoc)

-- page i is there, and its band j with the words c, from `place` on
record Met (L : Layout) (i j place : ℕ) (c : List ℕ) : Type 0 where
  page : Page
  page_is : reach_page i L ≡ given page
  band_is : reach j page.bands ≡ given (span place c)

module _ (h : Herald) (m : ℕ) where
  -- one page
  page_step : (bs : List (List ℕ)) (pages : List (List (List ℕ))) (k p : ℕ) → length bs ≡ m
      → pages_from h m (suc k) p (laid page_words (bs ∷ pages))
      ≡ page_head (whole_film h) (bands_then (length bs) (suc p) (laid band_words bs ++ laid page_words pages) (pages_from h m k))
  unfolding pages_from laid
  page_step bs pages k p e = rw (eq-eqb (length bs) m e, e) refl

  -- band j of page i of those that are laid down from place p on
  met_laid : (k : ℕ) (pages : List (List (List ℕ))) (p i j : ℕ) → map length pages ≡ replicate k m → i < k → j < m
      → Met (pages_from h m k p (laid page_words pages)) i j (suc (p + length (before pages i j))) (get_or (get_or pages i []) j [])
  unfolding reach_page laid
  met_laid zero pages p i j e lt lt' = absurd (omega arith)
  met_laid (suc k) [] p i j e lt lt' = let z : ◌≡◌ {A = ℕ} 0 1 = cc in absurd (omega arith)
  met_laid (suc k) (bs ∷ pages) p zero j e lt lt' =
      let s : length bs ≡ m = cc in
      let q : p + suc (length (laid band_words (take j bs))) ≡ suc p + length (laid band_words (take j bs)) = omega arith in
      record {
        page = _;
        page_is = ap (reach_page 0) (page_step bs pages k p s);
        band_is = rw q (reach-laid bs (suc p) (laid page_words pages) (pages_from h m k) j (omega arith));
      }
  met_laid (suc k) (bs ∷ pages) p (suc i) j e lt lt' =
      let s : length bs ≡ m = cc in
      let e' : map length pages ≡ replicate k m = cc in
      let t = met_laid k pages (suc p + length (laid band_words bs)) i j e' (omega arith) lt' in
      let q : p + length (before (bs ∷ pages) (suc i) j) ≡ suc p + length (laid band_words bs) + length (before pages i j) =
      simp length-append (omega arith) in
      record {
        page = t.page;
        page_is = ap (reach_page (suc i)) (page_step bs pages k p s) ∙ past-laid bs (suc p) (laid page_words pages) (pages_from h m k) i ∙ t.page_is;
        band_is = rw q t.band_is;
      }

-- ---- of a sheet

-- the sheet has this page, and its band b with the words c, from `place` on
pub record There (sheet : List ℕ) (page b place : ℕ) (c : List ℕ) : Type 0 where
  pub page_is : reach_page page (layout_of (words sheet)) ≡ given (page_at sheet page)
  pub window_is : (page_at sheet page).window ≡ whole_film (herald_of (words sheet))
  pub band_is : reach b (page_at sheet page).bands ≡ given (span place c)

-- a page and band that it has, of the pages that it holds
pub there : (sheet : List ℕ) {pages : List (List (List ℕ))}
    → Holds (band_count (herald_of (words sheet))) (page_count (words sheet)) (drop 12 (words sheet)) pages
    → (page b : ℕ) → Has sheet page b → There sheet page b (suc (12 + length (before pages page b))) (get_or (get_or pages page []) b [])
unfolding page_at
there sheet {pages} g page b has =
    let m : Met (layout_of (words sheet)) page b (suc (12 + length (before pages page b))) (get_or (get_or pages page []) b []) =
    rw g.is (met_laid (herald_of (words sheet)) _ (page_count (words sheet)) pages 12 page b g.sizes has.page_there has.band_there) in
    record { page_is = rw m.page_is refl; window_is = rw m.page_is (whole-window _ _ _ _ _ page _ m.page_is); band_is = rw m.page_is m.band_is }

-- how many they are, and how many bands each has
module _ {m k : ℕ} {ws : List ℕ} {pages : List (List (List ℕ))} (g : Holds m k ws pages) where
  pub page_count_lem : length pages ≡ k
  page_count_lem = sym (length-map pages length) ∙ ap length g.sizes ∙ length-replicate k m

  pub band_count_lem : (i : ℕ) → i < k → length (get_or pages i []) ≡ m
  band_count_lem i lt = sym (get_or-map length pages i []) ∙ ap (λ (l : List ℕ). get_or l i 0) g.sizes ∙ get_or-replicate k i m 0 lt
