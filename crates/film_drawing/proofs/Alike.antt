-- Demand 3's part about two sheets alike but for the commands of one band. Assumes nothing.
use mathlib.Core.Path.{◌≡◌, refl, sym, ap, ap₂, ◌∙◌}
use mathlib.Core.Bool.{true, false}
use mathlib.Core.List.{List, [], ◌∷◌, ◌++◌, append_assoc, append_cancel_left}
use Prim.Native.Nat.{ℕ, suc, ◌+◌, ◌<◌}
use native.Mathlib.Decide.{ℕ_discrete}
use native.Mathlib.Omega.{arith}
use borrow.Author.Tests.{ltb-true}
use lib.Dec.{ltb}
use lib.ListN.{length, get_or, take, drop, set, replicate, length-append, length-set, take-append-drop, get_or-append}
use lib.Seq.{length-take-le, take_at, drop_at, get_or-set_same, get_or-set_other, set-get_or, map-set_same}
use Rattle.refusal.specs.Answers.{Answer, given_or}
use Rattle.row.specs.Counts.{ones_of, joined}
use Rattle.film_words.specs.Words.{words, at}
use Rattle.film_words.specs.Load.{load_words}
use Rattle.film_commands.specs.Commands.{Command, priority, ink, clear, set_tile, paint}
use Rattle.film_commands.specs.Band.{Item, read_band, priority_after, colour_after, Colour, solid, stroke_of, strokes, strokes_from}
use Rattle.film_herald.specs.Herald.{Herald, herald_of, page_count, band_count, band_start, band_rows, whole_film, band_bytes}
use Rattle.film_layout.specs.Layout.{Span, span}
use Rattle.film_imaging.specs.Masks.{Film}
use Rattle.film_imaging.specs.Pictures.{film_of, carry_out, rows_of, numbered, window_row}
use Rattle.film_drawing.specs.Picture.{strokes_in}
use Rattle.film_drawing.specs.Promise.{done}
use Rattle.film_drawing.specs.Demand3.{Passes, Call, Has, size_of, rows_of_picture, Alike, SameBand, is_done, Drawing}
use Rattle.film_drawing.proofs.Pages.{laid, band_words, page_words, Holds, before, behind, changed, laid-changed, There, there, page_count_lem, band_count_lem}
use Rattle.film_drawing.proofs.Answers.{Known, known, rows_are, strokes_are, at_band}
use Rattle.film_drawing.proofs.Calls.{of_the_calls}

-- ---- the rows of a band are the same wherever it stands

-- a stroke's place is not looked at
film-moved : (p q v : ℕ) (C : Colour) (is : List Item) (I : Film) → carry_out (strokes_from p v C is) I ≡ carry_out (strokes_from q v C is) I
unfolding strokes_from carry_out
film-moved p q v C [] I = refl
film-moved p q v C (i ∷ is) I = go i.command (λ v C I. film-moved p q v C is I)
  where
    go : (x : Command) → ((v : ℕ) (C : Colour) (I : Film) → carry_out (strokes_from p v C is) I ≡ carry_out (strokes_from q v C is) I)
        → carry_out (stroke_of (p + i.offset) v C x ++ strokes_from p (priority_after v x) (colour_after C x) is) I
        ≡ carry_out (stroke_of (q + i.offset) v C x ++ strokes_from q (priority_after v x) (colour_after C x) is) I
    go (priority w) ih = ih w C I
    go ink ih = ih v _ I
    go clear ih = ih v _ I
    go (set_tile t a ws) ih = ih v _ I
    go (paint m) ih = ih v C _

-- band b's rows of a whole film, by the words c of its commands
unfoldable rows_by : Herald → (load : List ℕ) (b : ℕ) (c : List ℕ) → List ℕ
rows_by h load b c = joined (rows_of (whole_film h) (band_start h b) (band_rows h b) (strokes_in (load_words load) (span 0 c)))

-- such are its rows of the picture
rows_by_lem : (load : List ℕ) {sheet : List ℕ} {page b place : ℕ} {c : List ℕ} → There sheet page b place c
    → rows_of_picture sheet load page b ≡ rows_by (herald_of (words sheet)) load b c
unfolding rows_by rows_of film_of strokes
rows_by_lem load {sheet} {page} {b} {place} {c} t =
    let h = herald_of (words sheet) in
    rows_are sheet load page b
    ∙ rw (t.window_is, strokes_are load t)
    (ap (λ (F : Film). joined (numbered (band_start h b) (band_rows h b) (λ s. window_row (whole_film h) (F s))))
    (film-moved place 0 0 (solid true) (read_band (load_words load) c).items (λ s f. false)))

-- ---- one band changed

-- the other pages, and the other bands of its page, are the same
others : (pages : List (List (List ℕ))) (page b : ℕ) (c : List ℕ) → page < length pages → (page' b' : ℕ) → (page' ≡ page → b' ≡ b → ⊥)
    → get_or (get_or (changed pages page b c) page' []) b' [] ≡ get_or (get_or pages page' []) b' []
others pages page b c lt page' b' ne = go (ℕ_discrete page' page)
  where
    go : Dec (page' ≡ page) → get_or (get_or (changed pages page b c) page' []) b' [] ≡ get_or (get_or pages page' []) b' []
    go (yes e) =
        rw (e, get_or-set_same pages page (set (get_or pages page []) b c) [] lt) (get_or-set_other (get_or pages page []) b b' c [] (λ q. ne e q))
    go (no n) = ap (λ (x : List (List ℕ)). get_or x b' []) (get_or-set_other pages page page' _ [] n)

-- ---- the two sheets

-- lists that begin with as many
same_parts : (a a' b b' : List ℕ) → a ++ b ≡ a' ++ b' → length a ≡ length a' → (a ≡ a') × (b ≡ b')
same_parts a a' b b' e l =
    let n = length a' in
    (sym (take_at a b n l) ∙ ap (take n) e ∙ take_at a' b' n refl, sym (drop_at a b n l) ∙ ap (drop n) e ∙ drop_at a' b' n refl)

-- sheets that begin with the same 12 words
module _ (twelve a b : List ℕ) (l : length twelve ≡ 12) where
  same_word : (i : ℕ) → ltb i 12 ≡ true → at (twelve ++ a) i ≡ at (twelve ++ b) i
  same_word i t = let lt = ltb-true i 12 t in get_or-append twelve a 0 i (omega arith) ∙ sym (get_or-append twelve b 0 i (omega arith))

  same_herald : herald_of (twelve ++ a) ≡ herald_of (twelve ++ b)
  same_herald =
      let w = same_word in
      rw (w 0 refl, w 1 refl, w 2 refl, w 3 refl, w 4 refl, w 5 refl, w 6 refl, w 7 refl, w 8 refl, w 9 refl, w 10 refl) refl

-- sheet one passes
module _ (one two load : List ℕ) (k : Known one load) (page b : ℕ) (has : Has one page b) (al : Alike one two page b) where
  -- the pages of sheet one, and the words before them
  abbrev pages : List (List (List ℕ))
  pages = k.pages

  abbrev twelve : List ℕ
  twelve = take 12 (words one)

  -- there are 12 of them
  twelve-length : length twelve ≡ 12
  twelve-length = length-take-le 12 (words one) k.long_enough

  -- the changed page is among them
  page_there : page < length pages
  page_there = rw (page_count_lem k.holds) has.page_there

  -- sheet one by its pages
  one_is : words one ≡ twelve ++ laid page_words pages
  one_is = sym (take-append-drop 12 (words one)) ∙ ap (λ (x : List ℕ). twelve ++ x) k.holds.is

  -- a sheet that agrees with it up to band b and after it
  around : (c : List ℕ) → twelve ++ laid page_words (changed pages page b c) ≡ twelve ++ before pages page b ++ (band_words c ++ behind pages page b)
  around c =
      ap (λ (x : List ℕ). twelve ++ x) (laid-changed pages page b c page_there (rw (band_count_lem k.holds page has.page_there) has.band_there))
      ∙ sym (append_assoc twelve (before pages page b) _)

  -- where the changed band stands
  parts : (al.before ≡ twelve ++ before pages page b) × (al.after ≡ behind pages page b)
  parts =
      let e = sym al.stands ∙ (at_band one load k page b has).band_is in
      let place : suc (length al.before) ≡ suc (12 + length (before pages page b)) = ap (λ (x : Answer Span). (given_or (span 0 []) x).place) e in
      let own : al.commands₁ ≡ get_or (get_or pages page []) b [] = ap (λ (x : Answer Span). (given_or (span 0 []) x).words) e in
      let l : length al.before ≡ length (twelve ++ before pages page b) = rw (length-append, twelve-length) (omega arith) in
      let same : changed pages page b al.commands₁ ≡ pages = rw (own, set-get_or, set-get_or) refl in
      let s = same_parts al.before (twelve ++ before pages page b) _ _
      (sym al.one_is ∙ one_is ∙ ap (λ (x : List (List (List ℕ))). twelve ++ laid page_words x) (sym same) ∙ around al.commands₁) l in
      (s.0, append_cancel_left (band_words al.commands₁) al.after (behind pages page b) s.1)

  -- sheet two by its pages
  two_is : words two ≡ twelve ++ laid page_words (changed pages page b al.commands₂)
  two_is = al.two_is ∙ rw (parts.0, parts.1) (sym (around al.commands₂))

  -- one herald
  herald_is : herald_of (words one) ≡ herald_of (words two)
  herald_is = ap herald_of one_is ∙ same_herald twelve _ _ twelve-length ∙ sym (ap herald_of two_is)

  -- one number of pages
  count_is : page_count (words one) ≡ page_count (words two)
  count_is = ap page_count one_is ∙ same_word twelve _ _ twelve-length 11 refl ∙ sym (ap page_count two_is)

  -- so sheet two holds the pages of sheet one but for the changed band
  two_holds : Holds (band_count (herald_of (words two))) (page_count (words two)) (drop 12 (words two)) (changed pages page b al.commands₂)
  two_holds =
      record {
        is = ap (drop 12) two_is ∙ drop_at twelve _ 12 twelve-length;
        sizes =
            map-set_same length pages page _ [] (length-set (get_or pages page []) b al.commands₂)
            ∙ k.holds.sizes
            ∙ ap₂ (λ (n : ℕ) (h : Herald). replicate n (band_count h)) count_is herald_is;
      }

  -- what sheet one has, sheet two has too
  module _ (page' b' : ℕ) (h : Has one page' b') where
    pub two_has : Has two page' b'
    two_has = record { page_there = rw (← count_is) h.page_there; band_there = rw (← herald_is) h.band_there }

    -- with as many bytes
    pub same_size : size_of one page' b' ≡ size_of two page' b'
    same_size =
        rw ((at_band one load k page' b' h).window_is, (there two two_holds page' b' two_has).window_is)
        (ap (λ (h : Herald). band_bytes h (whole_film h) b') herald_is)

    -- and, where it is another band, with the same rows
    same_rows : (page' ≡ page → b' ≡ b → ⊥) → rows_of_picture one load page' b' ≡ rows_of_picture two load page' b'
    same_rows ne =
        rows_by_lem load (at_band one load k page' b' h)
        ∙ rw (herald_is, ← others pages page b al.commands₂ page_there page' b' ne) refl
        ∙ sym (rows_by_lem load (there two two_holds page' b' two_has))

-- two drawings of another band
pub same_band : (one two load : List ℕ) → Passes one load → Passes two load → (page b : ℕ) → Has one page b → Alike one two page b
    → (c₁ c₂ : Call) → Drawing one load c₁ → Drawing two load c₂ → c₁.page ≡ c₂.page → c₁.b ≡ c₂.b → (c₁.page ≡ page → c₁.b ≡ b → ⊥)
    → SameBand (size_of one c₁.page c₁.b) c₁.answer c₂.answer c₁.left c₂.left
same_band one two load p₁ p₂ page b has al c₁ c₂ g₁ g₂ ep eb ne =
    let k = known one load p₁ in
    let d₁ = (of_the_calls one load p₁ g₁.buffers g₁.steps g₁.calls g₁.made).draws c₁ g₁.among g₁.has g₁.room in
    let d₂ = (of_the_calls two load p₂ g₂.buffers g₂.steps g₂.calls g₂.made).draws c₂ g₂.among g₂.has g₂.room in
    let R₁ = rows_of_picture one load c₁.page c₁.b in
    let R₂ = rows_of_picture two load c₂.page c₂.b in
    let size = size_of one c₁.page c₁.b in
    let same : R₁ ≡ R₂ = same_rows one two load k page b has al c₁.page c₁.b g₁.has ne ∙ ap₂ (rows_of_picture two load) ep eb in
    let rows : band_rows (herald_of (words one)) c₁.b ≡ band_rows (herald_of (words two)) c₂.b =
    ap₂ band_rows (herald_is one two load k page b has al) eb in
    record {
      first_drew = ap is_done d₁.answer_is;
      same_answer = d₁.answer_is ∙ ap₂ (λ (x : ℕ) (y : List ℕ). done x (ones_of y)) rows same ∙ sym d₂.answer_is;
      same_rows =
          ap (take size) d₁.left_is
          ∙ take_at R₁ _ size d₁.size_is
          ∙ same
          ∙ sym (ap (take size) d₂.left_is ∙ take_at R₂ _ size (ap length (sym same) ∙ d₁.size_is));
    }
