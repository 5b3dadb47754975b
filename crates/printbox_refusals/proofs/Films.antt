-- The refusals of a check of a sheet and of a draw. Assumes nothing.
use mathlib.Core.Path.{◌≡◌, refl}
use mathlib.Core.Bool.{Bool, true, false, cond, ◌&&◌, false≢true}
use mathlib.Core.List.{List, [], ◌∷◌, ◌++◌}
use Prim.Native.Nat.{ℕ, zero, suc, ◌+◌}
use lib.Dec.{eqb, leb}
use lib.ListN.{length, drop}
use Rattle.refusal.specs.Answers.{Answer, given, refused, and_then, counted_from}
use Rattle.refusal.specs.Tables.{Line, first}
use Rattle.film_words.specs.Words.{words}
use Rattle.film_words.specs.Load.{load_words}
use Rattle.film_commands.specs.Refusals.{command_table}
use Rattle.film_commands.specs.Commands.{Taken, decoded, command}
use Rattle.film_commands.specs.Band.{Reading, priority_after, then_read, read_from, read_band, band_test}
use Rattle.film_herald.specs.Herald.{Herald, herald_of, page_count, band_start, band_rows}
use Rattle.film_herald.specs.Refusals.{length_table, password_table, size_table, load_table, page_table, herald_table, herald_test}
use Rattle.film_layout.specs.Layout.{Layout, page_head, band, ends, bands_then, pages_from, layout_of, Page, reach_page, reach}
use Rattle.film_check.specs.Check.{CheckAnswer, nothing_after, check_layout, check_answer}
use Rattle.film_drawing.specs.Draw.{DrawAnswer, draw_table, draw_rows, draw_answer}
use Rattle.film_drawing.specs.Promise.{due}
use Rattle.printbox_answers.specs.Numbers.{of_check, of_draw}
use Rattle.printbox_refusals.specs.Refusals.{among, gives, check_refusals, draw_refusals}

-- both ways of a test
pub either : {A : Type 0} (P : A → Type 0) (b : Bool) {x y : A} → P x → P y → P (cond b x y)
either P true h k = h
either P false h k = k

-- ---- what has a number of the list where it is a refusal

abbrev lines_in : List ℕ → List Line → Bool
lines_in ms [] = true
lines_in ms (l ∷ ls) = among ms l.number && lines_in ms ls

abbrev AnswerIn : {A : Type 0} → List ℕ → Answer A → Type 0
AnswerIn ms (given a) = Unit {0}
AnswerIn ms (refused n p) = among ms n ≡ true

abbrev LayoutIn : List ℕ → Layout → Type 0
LayoutIn ms (page_head w rest) = LayoutIn ms rest
LayoutIn ms (band x rest) = LayoutIn ms rest
LayoutIn ms (ends a) = AnswerIn ms a

-- a page that was reached, with what comes after its count
abbrev PageIn : List ℕ → Answer Page → Type 0
PageIn ms (given q) = LayoutIn ms q.bands
PageIn ms (refused n p) = among ms n ≡ true

-- an answer, and then another
then_in : {A B : Type 0} (ms : List ℕ) (a : Answer A) (k : A → Answer B) → AnswerIn ms a → ((x : A) → AnswerIn ms (k x)) → AnswerIn ms (and_then a k)
then_in ms (given x) k h f = f x
then_in ms (refused n p) k h f = h

from_in : {A : Type 0} (ms : List ℕ) (p : ℕ) (a : Answer A) → AnswerIn ms a → AnswerIn ms (counted_from p a)
from_in ms p (given x) h = tt
from_in ms p (refused n i) h = h

-- ---- the table before the walk

both : (x y : Bool) → (x && y) ≡ true → (x ≡ true) × (y ≡ true)
both true true e = (refl, refl)
both true false e = absurd (false≢true e)
both false y e = absurd (false≢true e)

first_in : (ms : List ℕ) (ls : List Line) → lines_in ms ls ≡ true → AnswerIn ms (first ls)
unfolding first
first_in ms [] e = tt
first_in ms (l ∷ ls) e =
    let h = both (among ms l.number) (lines_in ms ls) e in either (AnswerIn ms) l.when h.0 (first_in ms ls h.1)

-- ---- a command: the numbers of its table

module _ (ms : List ℕ) (all : (load : List ℕ) (least code : ℕ) (args : List ℕ) → lines_in ms (command_table load least code args) ≡ true) where
  command_in_lem : (load : List ℕ) (least code : ℕ) (args : List ℕ) → AnswerIn ms (command load least code args)
  unfolding command
  command_in_lem load least code args =
      then_in ms (first (command_table load least code args)) (λ u. given (decoded load code args))
      (first_in ms (command_table load least code args) (all load least code args)) (λ u. tt)

  -- a band's commands

  then_read_in : (least p : ℕ) (t : Taken) (k : ℕ → ℕ → Reading) → AnswerIn ms t → ((l n : ℕ) → AnswerIn ms (k l n).ends) → AnswerIn ms (then_read least p t k).ends
  then_read_in least p (given w) k h f = f (priority_after least w.command) w.more
  then_read_in least p (refused n i) k h f = h

  read_in : (load : List ℕ) (least skip p : ℕ) (ws : List ℕ) → AnswerIn ms (read_from load least skip p ws).ends
  unfolding read_from
  read_in load least skip p [] = tt
  read_in load least (suc k) p (w ∷ ws) = read_in load least k (suc p) ws
  read_in load least zero p (w ∷ ws) =
      then_read_in least p (command load least w ws) (λ later n. read_from load later n (suc p) ws) (command_in_lem load least w ws)
      (λ later n. read_in load later n (suc p) ws)

  band_in : (load : List ℕ) (p : ℕ) (ws : List ℕ) → AnswerIn ms (band_test load p ws)
  unfolding read_band
  band_in load p ws = from_in ms p (read_band load ws).ends (read_in load 0 0 0 ws)

-- ---- pages and bands: 5, 6

module _ (ms : List ℕ) (five : among ms 5 ≡ true) (six : among ms 6 ≡ true) where
  bands_in : (n p : ℕ) (ws : List ℕ) (k : ℕ → List ℕ → Layout) → ((p : ℕ) (ws : List ℕ) → LayoutIn ms (k p ws)) → LayoutIn ms (bands_then n p ws k)
  unfolding bands_then
  bands_in zero p ws k h = h p ws
  bands_in (suc n) p [] k h = six
  bands_in (suc n) p (c ∷ ws) k h = either (LayoutIn ms) (leb c (length ws)) (bands_in n (suc p + c) (drop c ws) k h) six

  pages_in : (h : Herald) (m n p : ℕ) (ws : List ℕ) → LayoutIn ms (pages_from h m n p ws)
  unfolding pages_from
  pages_in h m zero p ws = tt
  pages_in h m (suc n) p [] = six
  pages_in h m (suc n) p (c ∷ ws) = either (LayoutIn ms) (eqb c m) (bands_in m (suc p) ws (pages_from h m n) (pages_in h m n)) five

-- ---- on the way: what stands before the page and the band, or 11

module _ (ms : List ℕ) (eleven : among ms 11 ≡ true) where
  page_in : (k : ℕ) (x : Layout) → LayoutIn ms x → PageIn ms (reach_page k x)
  unfolding reach_page
  page_in k (ends (given x)) h = eleven
  page_in k (ends (refused n p)) h = h
  page_in k (band x rest) h = page_in k rest h
  page_in zero (page_head w rest) h = h
  page_in (suc k) (page_head w rest) h = page_in k rest h

  reach_in : (k : ℕ) (x : Layout) → LayoutIn ms x → AnswerIn ms (reach k x)
  unfolding reach
  reach_in k (ends (given x)) h = eleven
  reach_in k (ends (refused n p)) h = h
  reach_in k (page_head w rest) h = eleven
  reach_in zero (band x rest) h = tt
  reach_in (suc k) (band x rest) h = reach_in k rest h

-- ---- the check

after_in : (p : ℕ) (ws : List ℕ) (n : ℕ) → AnswerIn check_refusals (nothing_after p ws n)
unfolding among
after_in p [] n = tt
after_in p (w ∷ ws) n = refl

layout_checked : (load : List ℕ) (n : ℕ) (x : Layout) → LayoutIn check_refusals x → AnswerIn check_refusals (check_layout load n x)
unfolding check_layout command_table among
layout_checked load n (page_head w rest) h = layout_checked load n rest h
layout_checked load n (band x rest) h =
    then_in check_refusals (band_test load x.place x.words) (λ u. check_layout load n rest)
    (band_in check_refusals (λ load least code args. refl) load x.place x.words) (λ u. layout_checked load n rest h)
layout_checked load n (ends a) h = then_in check_refusals a (λ x. nothing_after x.place x.words n) h (λ x. after_in x.place x.words n)

check_given : (a : CheckAnswer) → AnswerIn check_refusals a → gives check_refusals (of_check a) ≡ true
unfolding gives
check_given (given n) h = refl
check_given (refused n p) h = h

pub film_check : (sheet load : List ℕ) → gives check_refusals (of_check (check_answer sheet load)) ≡ true
unfolding check_answer herald_test herald_table length_table password_table size_table load_table page_table among
film_check sheet load =
    let ws = words sheet in
    check_given (check_answer sheet load)
    (then_in check_refusals (herald_test sheet load) (λ u. check_layout (load_words load) (page_count ws) (layout_of ws))
    (first_in check_refusals (herald_table sheet load) refl)
    (λ u. layout_checked (load_words load) (page_count ws) (layout_of ws) (pages_in check_refusals refl refl (herald_of ws) _ (page_count ws) 12 (drop 12 ws))))

-- ---- the draw

draw_given : (a : DrawAnswer) → AnswerIn draw_refusals a → gives draw_refusals (of_draw (due a)) ≡ true
unfolding gives
draw_given (given d) h = refl
draw_given (refused n p) h = h

pub film_draw : (sheet load : List ℕ) (page b room : ℕ) → gives draw_refusals (of_draw (due (draw_answer sheet load page b room))) ≡ true
unfolding draw_answer draw_table herald_table length_table password_table size_table load_table page_table command_table among
film_draw sheet load page b room =
    let table = herald_table sheet load ++ draw_table h (page_count ws) page b room in
    draw_given (draw_answer sheet load page b room)
    (then_in draw_refusals (first table) (λ u. and_then (reach_page page (layout_of ws)) on_page) (first_in draw_refusals table refl)
    (λ u. paged (reach_page page (layout_of ws)) (page_in draw_refusals refl page (layout_of ws) (pages_in draw_refusals refl refl h _ (page_count ws) 12 (drop 12 ws)))))
  where
    ws : List ℕ
    ws = words sheet

    h : Herald
    h = herald_of ws

    on_page : Page → DrawAnswer
    on_page q = and_then (reach b q.bands) (λ x. draw_rows q.window (band_start h b) (band_rows h b) (load_words load) x)

    paged : (a : Answer Page) → PageIn draw_refusals a → AnswerIn draw_refusals (and_then a on_page)
    paged (refused n p) k = k
    paged (given q) k =
        then_in draw_refusals (reach b q.bands) (λ x. draw_rows q.window (band_start h b) (band_rows h b) (load_words load) x)
        (reach_in draw_refusals refl b q.bands k)
        (λ x.
        then_in draw_refusals (band_test (load_words load) x.place x.words) _
        (band_in draw_refusals (λ load least code args. refl) (load_words load) x.place x.words) (λ u. tt))
