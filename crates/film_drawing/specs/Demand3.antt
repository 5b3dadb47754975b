-- Demand 3, as one statement: of any list of draw calls on a sheet and load that the check passes, and of two such sheets that are alike but for
-- the commands of one band.
use Rattle.std.specs.Prelude.{◌≡◌, Bool, true, false, cond, Result, Ok, ℕ, suc, ◌*◌, ◌≤◌, ◌<◌, eqb, length, take, drop}
use mathlib.Core.List.{List, [], ◌∷◌, ◌++◌, Memᴰ, map}
use Rattle.refusal.specs.Answers.{Answer, given, refused}
use Rattle.refusal.specs.declared.Refusal.{Refusal}
use Rattle.row.specs.Counts.{ones_of, joined, total}
use Rattle.film_words.specs.Words.{words}
use Rattle.film_herald.specs.Herald.{herald_of, page_count, band_count, band_start, band_rows, band_bytes, row_length}
use Rattle.film_layout.specs.Layout.{span, reach}
use Rattle.film_check.specs.Promise.{CheckPromised}
use Rattle.film_drawing.specs.Picture.{page_at, picture}
use Rattle.film_drawing.specs.Promise.{Counts, done, drawn_as, DrawPromised}
use Rattle.film_drawing.specs.declared.Drawn.{Drawn}

-- ---- a sheet and load that the check passes

-- the check was asked of them, and its answer is a number of pages. Of the answer nothing is said but that it meets check's promise.
pub record Passes (sheet load : List ℕ) : Type 0 where
  pub answer : Result ℕ Refusal
  pub promised : CheckPromised sheet load answer
  pub count : ℕ
  pub is : answer ≡ Ok count

-- ---- draw calls, one after another, on buffers that may serve again

-- buffers by their numbers, and the bytes that each holds
abbrev pub Buffers : Type 0
Buffers = ℕ → List ℕ

-- what happens: a draw of a page's band into a buffer, or some other writing of a buffer between draws
pub data Step : Type 0 where
  draw : (page b buffer : ℕ) → Step
  write : (buffer : ℕ) → (bytes : List ℕ) → Step

-- the buffers after buffer i was written
abbrev pub writing : ℕ → List ℕ → Buffers → Buffers
writing i bytes bs j = cond (eqb i j) bytes (bs j)

-- a call that returned: what it was asked, what its buffer held, its answer, and what the buffer holds at its return
pub record Call : Type 0 where
  pub page : ℕ
  pub b : ℕ
  pub held : List ℕ
  pub answer : Result Drawn Refusal
  pub left : List ℕ

-- The calls that a list of steps makes, in their order. Of a call's outcome nothing is said but that it meets draw's promise.
pub data Made (sheet load : List ℕ) : Buffers → List Step → List Call → Type 0 where
  over : {bs : Buffers} → Made sheet load bs [] []
  wrote : {bs : Buffers} {i : ℕ} {bytes : List ℕ} {steps : List Step} {calls : List Call}
      → Made sheet load (writing i bytes bs) steps calls → Made sheet load bs (write i bytes ∷ steps) calls
  called : {bs : Buffers} {page b i : ℕ} {steps : List Step} {calls : List Call} (r : Result Drawn Refusal) (left : List ℕ)
      → DrawPromised sheet load page b (bs i) r left
      → Made sheet load (writing i left bs) steps calls
      → Made sheet load bs (draw page b i ∷ steps) (record { page = page; b = b; held = bs i; answer = r; left = left } ∷ calls)

-- ---- what is claimed of the list

-- the sheet has this page and band
pub record Has (sheet : List ℕ) (page b : ℕ) : Type 0 where
  pub page_there : page < page_count (words sheet)
  pub band_there : b < band_count (herald_of (words sheet))

-- the bytes of band b of a page, by the page's window
abbrev pub size_of : (sheet : List ℕ) (page b : ℕ) → ℕ
size_of sheet page b = band_bytes (herald_of (words sheet)) (page_at sheet page).window b

-- band b's rows of its page's whole picture, end to end
unfoldable pub rows_of_picture : (sheet load : List ℕ) (page b : ℕ) → List ℕ
rows_of_picture sheet load page b =
    let h = herald_of (words sheet) in
    joined (take (band_rows h b) (drop (band_start h b) (picture sheet load page)))

-- a call that drew: rows is the band's number of scan lines, dots the one bits of its rows; the rows are those of the picture, from the buffer's
-- first byte, and the bytes beyond them stayed
pub record Drew (sheet load : List ℕ) (c : Call) : Type 0 where
  pub answer_is : drawn_as c.answer ≡ done (band_rows (herald_of (words sheet)) c.b) (ones_of (rows_of_picture sheet load c.page c.b))
  pub size_is : length (rows_of_picture sheet load c.page c.b) ≡ size_of sheet c.page c.b
  pub left_is : c.left ≡ rows_of_picture sheet load c.page c.b ++ drop (size_of sheet c.page c.b) c.held

-- a call that was refused with this number, at 0
pub record RefusedWith (number : ℕ) (c : Call) : Type 0 where
  pub answer_is : drawn_as c.answer ≡ refused number 0
  pub left_is : c.left ≡ c.held

abbrev pub is_done : Answer Counts → Bool
is_done (given d) = true
is_done (refused number place) = false

-- rows and dots, none of a refusal
abbrev pub rows_of_answer : Answer Counts → ℕ
rows_of_answer (given d) = d.rows
rows_of_answer (refused number place) = 0

abbrev pub dots_of_answer : Answer Counts → ℕ
dots_of_answer (given d) = d.dots
dots_of_answer (refused number place) = 0

-- the drawn rows as they stand when the call returns
abbrev pub standing : List ℕ → Call → List ℕ
standing sheet c = take (rows_of_answer (drawn_as c.answer) * row_length (page_at sheet c.page).window.f_size) c.left

-- one drawing of each of the n bands from b on, out of the list of calls
pub data OneOfEach (calls : List Call) (page : ℕ) : (b n : ℕ) → List Call → Type 0 where
  none : {b : ℕ} → OneOfEach calls page b 0 []
  more : {b n : ℕ} {cs : List Call} (c : Call) → Memᴰ c calls → c.page ≡ page → c.b ≡ b → is_done (drawn_as c.answer) ≡ true
      → OneOfEach calls page (suc b) n cs → OneOfEach calls page b (suc n) (c ∷ cs)

pub record OfTheCalls (sheet load : List ℕ) (calls : List Call) : Type 0 where
  -- every call for a page and band that the sheet has, with a buffer of at least that band's bytes, draws it
  pub draws : (c : Call) → Memᴰ c calls → Has sheet c.page c.b → size_of sheet c.page c.b ≤ length c.held → Drew sheet load c
  -- every other call is refused: with 11 if the sheet hasn't its page or band, else with 12
  pub no_such : (c : Call) → Memᴰ c calls → ¬ (Has sheet c.page c.b) → RefusedWith 11 c
  pub no_room : (c : Call) → Memᴰ c calls → Has sheet c.page c.b → length c.held < size_of sheet c.page c.b → RefusedWith 12 c
  -- where all bands of a page were drawn, their rows, end to end from band 0, are the page's whole picture
  pub whole_page : (page : ℕ) (cs : List Call) → page < page_count (words sheet)
      → OneOfEach calls page 0 (band_count (herald_of (words sheet))) cs
      → joined (map (standing sheet) cs) ≡ joined (picture sheet load page)
  -- and the dots add up to its one bits
  pub dots_add_up : (page : ℕ) (cs : List Call) → page < page_count (words sheet)
      → OneOfEach calls page 0 (band_count (herald_of (words sheet))) cs
      → total (map (λ c. dots_of_answer (drawn_as c.answer)) cs) ≡ ones_of (joined (picture sheet load page))

-- ---- two sheets alike but for the commands of one band

-- they agree word for word apart from that band's count word and commands
pub record Alike (one two : List ℕ) (page b : ℕ) : Type 0 where
  pub before : List ℕ
  pub after : List ℕ
  pub commands₁ : List ℕ
  pub commands₂ : List ℕ
  pub one_is : words one ≡ before ++ (length commands₁ ∷ (commands₁ ++ after))
  pub two_is : words two ≡ before ++ (length commands₂ ∷ (commands₂ ++ after))
  -- and what differs is band b of this page: its count word comes right after `before`
  pub stands : reach b (page_at one page).bands ≡ given (span (suc (length before)) commands₁)

-- two drawings of a band of this size, each into a buffer of its own, have the same rows and dots; the first drew, and so, with the same answer,
-- did the second
pub record SameBand (size : ℕ) (r₁ r₂ : Result Drawn Refusal) (left₁ left₂ : List ℕ) : Type 0 where
  pub first_drew : is_done (drawn_as r₁) ≡ true
  pub same_answer : drawn_as r₁ ≡ drawn_as r₂
  pub same_rows : take size left₁ ≡ take size left₂

-- ---- the demand

-- a call out of a list of calls on a sheet and its load, for a band that the sheet has, with a buffer of at least that band's bytes
pub record Drawing (sheet load : List ℕ) (c : Call) : Type 0 where
  pub buffers : Buffers
  pub steps : List Step
  pub calls : List Call
  pub made : Made sheet load buffers steps calls
  pub among : Memᴰ c calls
  pub has : Has sheet c.page c.b
  pub room : size_of sheet c.page c.b ≤ length c.held

pub record Demand3 : Type 0 where
  pub calls : (sheet load : List ℕ) → Passes sheet load
      → (bs : Buffers) (steps : List Step) (cs : List Call) → Made sheet load bs steps cs → OfTheCalls sheet load cs
  -- the same band, other than the one whose commands differ, drawn of both sheets
  pub alike : (one two load : List ℕ) → Passes one load → Passes two load
      → (page b : ℕ) → Has one page b → Alike one two page b
      → (c₁ c₂ : Call) → Drawing one load c₁ → Drawing two load c₂ → c₁.page ≡ c₂.page → c₁.b ≡ c₂.b
      → (c₁.page ≡ page → c₁.b ≡ b → ⊥)
      → SameBand (size_of one c₁.page c₁.b) c₁.answer c₂.answer c₁.left c₂.left
