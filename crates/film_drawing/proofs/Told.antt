-- Whatever the answer of a check or a draw is, a refusal's number is that of a fault: each table's lines, and the refusals on the way to a band. Assumes nothing.
use mathlib.Core.Path.{◌≡◌, refl}
use mathlib.Core.Bool.{Bool, true, false, cond}
use mathlib.Core.List.{List, [], ◌∷◌, ◌++◌, map}
use Prim.Native.Nat.{ℕ, zero, suc, ◌+◌}
use lib.Dec.{leb, eqb}
use lib.ListN.{length, take, drop}
use Rattle.refusal.specs.Answers.{Answer, given, refused, and_then, counted_from, Verdict}
use Rattle.refusal.specs.Tables.{Line, first}
use Rattle.refusal.specs.Faults.{number_of}
use Rattle.refusal.specs.declared.Fault.{Fault}
use Rattle.refusal.specs.declared.Fault.TheVariants as fault
use Rattle.row.specs.Counts.{joined}
use Rattle.film_words.specs.Words.{words}
use Rattle.film_words.specs.Load.{load_words}
use Rattle.film_commands.specs.Refusals.{command_table}
use Rattle.film_commands.specs.Commands.{Taken, command, decoded}
use Rattle.film_commands.specs.Band.{priority_after, then_read, read_from, read_band, band_test}
use Rattle.film_herald.specs.Herald.{Herald, herald_of, page_count, band_count, band_start, band_rows, whole_film}
use Rattle.film_herald.specs.Refusals.{length_table, password_table, size_table, load_table, page_table, herald_table, herald_test}
use Rattle.film_check.specs.Check.{nothing_after, check_layout, check_answer}
use Rattle.film_layout.specs.Layout.{Span, span, Layout, page_head, band, ends, bands_then, pages_from, layout_of, Page, reach_page, reach}
use Rattle.film_imaging.specs.Pictures.{rows_of}
use Rattle.film_drawing.specs.Picture.{strokes_in}
use Rattle.film_drawing.specs.Draw.{DrawAnswer, drawn_rows, draw_rows, draw_table, draw_answer}

-- n is the number of a fault
pub record OfFault (n : ℕ) : Type 0 where
  pub fault : Fault
  pub is : number_of fault ≡ n

of : (f : Fault) → OfFault (number_of f)
of f = record { fault = f; is = refl }

-- of what is given P holds, and a refusal's number is a fault's
abbrev pub Told : {A : Type 0} → (A → Type 0) → Answer A → Type 0
Told P (given a) = P a
Told P (refused n p) = OfFault n

-- of what is given nothing is said
abbrev pub Any : {A : Type 0} → A → Type 0
Any a = Unit

told_then : {A B : Type 0} (P : A → Type 0) (Q : B → Type 0) (a : Answer A) (k : A → Answer B)
    → Told P a → ((x : A) → P x → Told Q (k x)) → Told Q (and_then a k)
told_then P Q (given a) k h f = f a h
told_then P Q (refused n p) k h f = h

told_from : (p : ℕ) (v : Verdict) → Told Any v → Told Any (counted_from p v)
told_from p (given u) h = tt
told_from p (refused n i) h = h

-- ---- tables

-- the numbers of a table's lines
abbrev numbers : List Line → List ℕ
numbers = map (λ l. l.number)

-- they are those of the faults fs
told_first : (fs : List Fault) (ls : List Line) → map number_of fs ≡ numbers ls → Told Any (first ls)
unfolding first
told_first [] [] e = tt
told_first [] (l ∷ ls) e = cc
told_first (f ∷ fs) [] e = cc
told_first (f ∷ fs) (l ∷ ls) e = let rest : map number_of fs ≡ numbers ls = cc in go l.when (told_first fs ls rest)
  where
    go : (t : Bool) → Told Any (first ls) → Told Any (cond t (refused l.number l.place) (first ls))
    go true r = let same : number_of f ≡ l.number = cc in record { fault = f; is = same }
    go false r = r

-- those before the walk to the band
herald_faults : List Fault
herald_faults =
    fault.Length
    ∷ fault.Length
    ∷ fault.Length
    ∷ fault.Length
    ∷ fault.Password
    ∷ fault.Password
    ∷ fault.Password
    ∷ fault.Size
    ∷ fault.Size
    ∷ fault.Size
    ∷ fault.Size
    ∷ fault.Size
    ∷ fault.LoadCount
    ∷ fault.LoadCount
    ∷ fault.LoadCount
    ∷ fault.PageOrBandCount
    ∷ fault.NoBand
    ∷ fault.ShortBuffer
    ∷ []

herald_told : (sheet load : List ℕ) (h : Herald) (pages page b room : ℕ)
    → Told Any (first (herald_table sheet load ++ draw_table h pages page b room))
unfolding herald_faults herald_table length_table password_table size_table load_table page_table draw_table
herald_told sheet load h pages page b room = told_first herald_faults (herald_table sheet load ++ draw_table h pages page b room) refl

-- those of a command
command_faults : List Fault
command_faults =
    fault.UnknownCode
    ∷ fault.Cut
    ∷ fault.Cut
    ∷ fault.Cut
    ∷ fault.Priority
    ∷ fault.Priority
    ∷ fault.TileMode
    ∷ fault.LoadRange
    ∷ fault.LoadRange
    ∷ fault.LoadRange
    ∷ fault.LoadRange
    ∷ fault.Padding
    ∷ fault.Padding
    ∷ fault.Padding
    ∷ []

command_told : (load : List ℕ) (least code : ℕ) (args : List ℕ) → Told Any (command load least code args)
unfolding command_faults command command_table
command_told load least code args =
    told_then Any Any (first (command_table load least code args)) (λ u. given (decoded load code args))
    (told_first command_faults (command_table load least code args) refl) (λ u a. tt)

-- ---- a band's commands

read_told : (load : List ℕ) (least skip p : ℕ) (ws : List ℕ) → Told Any (read_from load least skip p ws).ends
unfolding read_from
read_told load least skip p [] = tt
read_told load least (suc k) p (w ∷ ws) = read_told load least k (suc p) ws
read_told load least zero p (w ∷ ws) = go (command load least w ws) (command_told load least w ws) (λ later n. read_told load later n (suc p) ws)
  where
    go : (t : Taken) → Told Any t → ((later n : ℕ) → Told Any (read_from load later n (suc p) ws).ends)
        → Told Any (then_read least p t (λ later n. read_from load later n (suc p) ws)).ends
    go (given c) h r = r (priority_after least c.command) c.more
    go (refused n i) h r = h

band_told : (load : List ℕ) (p : ℕ) (ws : List ℕ) → Told Any (band_test load p ws)
unfolding read_band
band_told load p ws = told_from p (read_band load ws).ends (read_told load 0 0 0 ws)

-- ---- the way to a band

-- where the layout ends with a refusal, its number is a fault's
abbrev Laid : Layout → Type 0
Laid (page_head w rest) = Laid rest
Laid (band x rest) = Laid rest
Laid (ends a) = Told Any a

either_laid : (t : Bool) (x y : Layout) → Laid x → Laid y → Laid (cond t x y)
either_laid true x y a b = a
either_laid false x y a b = b

bands_laid : (n p : ℕ) (ws : List ℕ) (k : ℕ → List ℕ → Layout) → ((q : ℕ) (r : List ℕ) → Laid (k q r)) → Laid (bands_then n p ws k)
unfolding bands_then
bands_laid zero p ws k h = h p ws
bands_laid (suc n) p [] k h = of fault.Cut
bands_laid (suc n) p (c ∷ ws) k h =
    either_laid (leb c (length ws)) (band (span (suc p) (take c ws)) (bands_then n (suc p + c) (drop c ws) k)) (ends (refused 6 p))
    (bands_laid n (suc p + c) (drop c ws) k h) (of fault.Cut)

pages_laid : (h : Herald) (m n p : ℕ) (ws : List ℕ) → Laid (pages_from h m n p ws)
unfolding pages_from
pages_laid h m zero p ws = tt
pages_laid h m (suc n) p [] = of fault.Cut
pages_laid h m (suc n) p (c ∷ ws) =
    either_laid (eqb c m) (page_head (whole_film h) (bands_then m (suc p) ws (pages_from h m n))) (ends (refused 5 p))
    (bands_laid m (suc p) ws (pages_from h m n) (pages_laid h m n)) (of fault.PageOrBandCount)

-- what comes after a page's count is laid so too
abbrev LaidPage : Page → Type 0
LaidPage q = Laid q.bands

page_told : (k : ℕ) (x : Layout) → Laid x → Told LaidPage (reach_page k x)
unfolding reach_page
page_told k (ends a) h = told_then Any LaidPage a (λ x. refused 11 0) h (λ x u. of fault.NoBand)
page_told k (band x rest) h = page_told k rest h
page_told zero (page_head w rest) h = h
page_told (suc k) (page_head w rest) h = page_told k rest h

reach_told : (k : ℕ) (x : Layout) → Laid x → Told Any (reach k x)
unfolding reach
reach_told k (ends a) h = told_then Any Any a (λ x. refused 11 0) h (λ x u. of fault.NoBand)
reach_told k (page_head w rest) h = of fault.NoBand
reach_told zero (band x rest) h = tt
reach_told (suc k) (band x rest) h = reach_told k rest h

-- ---- a draw

pub draw_told : (sheet load : List ℕ) (page b room : ℕ) → Told Any (draw_answer sheet load page b room)
unfolding draw_answer
draw_told sheet load page b room =
    let ws = words sheet in
    let h = herald_of ws in
    let ls = load_words load in
    let drawn : (q : Page) → Span → DrawAnswer = λ q x. draw_rows q.window (band_start h b) (band_rows h b) ls x in
    let lines : List Line = herald_table sheet load ++ draw_table h (page_count ws) page b room in
    told_then Any Any (first lines)
    (λ u. and_then (reach_page page (layout_of ws)) (λ q. and_then (reach b q.bands) (λ x. drawn q x)))
    (herald_told sheet load h (page_count ws) page b room) (λ u _.
    told_then LaidPage Any (reach_page page (layout_of ws)) (λ q. and_then (reach b q.bands) (λ x. drawn q x))
    (page_told page (layout_of ws) (pages_laid h (band_count h) (page_count ws) 12 (drop 12 ws))) (λ q l.
    told_then Any Any (reach b q.bands) (λ x. drawn q x)
    (reach_told b q.bands l) (λ x _.
    told_then Any Any (band_test ls x.place x.words) (λ u. drawn_rows (band_rows h b) (joined (rows_of q.window (band_start h b) (band_rows h b) (strokes_in ls x))))
    (band_told ls x.place x.words) (λ u _. tt))))

-- ---- the check

check_faults : List Fault
check_faults =
    fault.Length
    ∷ fault.Length
    ∷ fault.Length
    ∷ fault.Length
    ∷ fault.Password
    ∷ fault.Password
    ∷ fault.Password
    ∷ fault.Size
    ∷ fault.Size
    ∷ fault.Size
    ∷ fault.Size
    ∷ fault.Size
    ∷ fault.LoadCount
    ∷ fault.LoadCount
    ∷ fault.LoadCount
    ∷ fault.PageOrBandCount
    ∷ []

test_told : (sheet load : List ℕ) → Told Any (herald_test sheet load)
unfolding check_faults herald_test herald_table length_table password_table size_table load_table page_table
test_told sheet load = told_first check_faults (herald_table sheet load) refl

after_told : (p : ℕ) (ws : List ℕ) (n : ℕ) → Told Any (nothing_after p ws n)
after_told p [] n = tt
after_told p (w ∷ ws) n = of fault.WordsAfter

layout_told : (load : List ℕ) (n : ℕ) (x : Layout) → Laid x → Told Any (check_layout load n x)
unfolding check_layout
layout_told load n (page_head w rest) h = layout_told load n rest h
layout_told load n (band x rest) h =
    told_then Any Any (band_test load x.place x.words) (λ u. check_layout load n rest) (band_told load x.place x.words)
    (λ u a. layout_told load n rest h)
layout_told load n (ends a) h = told_then Any Any a (λ x. nothing_after x.place x.words n) h (λ x u. after_told x.place x.words n)

pub check_told : (sheet load : List ℕ) → Told Any (check_answer sheet load)
unfolding check_answer
check_told sheet load =
    let ws = words sheet in
    told_then Any Any (herald_test sheet load) (λ u. check_layout (load_words load) (page_count ws) (layout_of ws)) (test_told sheet load)
    (λ u a. layout_told (load_words load) (page_count ws) (layout_of ws)
    (pages_laid (herald_of ws) (band_count (herald_of ws)) (page_count ws) 12 (drop 12 ws)))
