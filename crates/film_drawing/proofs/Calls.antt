-- Demand 3's part about the calls. Assumes nothing.
use mathlib.Core.Path.{◌≡◌, refl, sym, ap, ap₂, ◌∙◌, subst}
use mathlib.Core.Logic.{◌⊎◌, inl, inr}
use mathlib.Core.Bool.{Bool, true, false, false≢true}
use mathlib.Core.List.Memᴰ
use mathlib.Core.List.{List, [], ◌++◌, Memᴰ, map}
use Prim.Native.Nat.{ℕ, suc, ◌+◌, ◌*◌, ◌-◌, ◌≤◌, ◌<◌, min}
use native.Mathlib.Nat.{mul-zero, mul-suc, zero-add, div-add-mod, mod-lt}
use native.Mathlib.Omega.{arith}
use borrow.Author.Tests.{leb-true, leb-false}
use lib.Dec.{leb}
use lib.ListN.{length, take, drop, length-drop, drop_of_length-le}
use lib.Seq.{drop-drop, take_at}
use Rattle.refusal.specs.Answers.{refused}
use Rattle.row.specs.Counts.{ones_of, joined, total}
use Rattle.row.proofs.Counts.{ones-append}
use Rattle.film_words.specs.Words.{words, ceil_div}
use Rattle.film_herald.specs.Herald.{herald_of, page_count, band_count, band_start, band_rows}
use Rattle.film_drawing.specs.Picture.{picture}
use Rattle.film_drawing.specs.Draw.{DrawAnswer, draw_answer, buffer_after}
use Rattle.film_drawing.specs.Promise.{due, drawn_as, DrawPromised}
use Rattle.film_drawing.specs.Demand3.{Passes, Buffers, Step, writing, Call, Made, over, wrote, called, Has, size_of, rows_of_picture, Drew, RefusedWith, is_done, dots_of_answer, standing, OneOfEach, none, more, OfTheCalls}
use Rattle.film_drawing.proofs.Rows.{length-numbered, joined-cut, take_min}
use Rattle.film_drawing.proofs.Answers.{Known, known, rows_size, answer_11, answer_12, answer_drawn}

-- ---- the bands of a picture, one after another

-- a picture has image_s_size rows
length-picture : (sheet load : List ℕ) (page : ℕ) → length (picture sheet load page) ≡ (herald_of (words sheet)).image_s_size
unfolding picture
length-picture sheet load page = length-numbered _ _ _

-- a band's rows, and the picture's rows after them
band_then : (sheet load : List ℕ) (page b : ℕ)
    → rows_of_picture sheet load page b ++ joined (drop (band_start (herald_of (words sheet)) (suc b)) (picture sheet load page))
    ≡ joined (drop (band_start (herald_of (words sheet)) b) (picture sheet load page))
unfolding rows_of_picture
band_then sheet load page b =
    let h = herald_of (words sheet) in
    let B = h.band_s_size in
    let P = picture sheet load page in
    let l = drop (B * b) P in
    let len : length l ≡ h.image_s_size - B * b = length-drop (B * b) P ∙ ap (λ (n : ℕ). n - B * b) (length-picture sheet load page) in
    let e : take (band_rows h b) l ≡ take B l = ap (λ (n : ℕ). take (min B n) l) (sym len) ∙ take_min B l in
    let d : drop (B * suc b) P ≡ drop B l = ap (λ (n : ℕ). drop n P) (mul-suc B b) ∙ sym (drop-drop B (B * b) P) in
    ap₂ (λ (x y : List (List ℕ)). joined x ++ joined y) e d ∙ joined-cut B l

-- the bands cover all lines
cover : (S B : ℕ) → 0 < B → S ≤ B * ceil_div S B
cover S B pos = let e = div-add-mod (S + (B - 1)) B in let l = mod-lt (S + (B - 1)) pos in omega arith

-- no row is left after the last band
past_end : (sheet load : List ℕ) (page : ℕ) → 0 < (herald_of (words sheet)).band_s_size
    → drop (band_start (herald_of (words sheet)) (band_count (herald_of (words sheet)))) (picture sheet load page) ≡ []
unfolding band_count
past_end sheet load page pos =
    let h = herald_of (words sheet) in
    let c : h.image_s_size ≤ h.band_s_size * ceil_div h.image_s_size h.band_s_size = cover h.image_s_size h.band_s_size pos in
    drop_of_length-le (picture sheet load page) {i = h.band_s_size * ceil_div h.image_s_size h.band_s_size} (rw length-picture c)

-- band 0 begins at the first row
from_0 : (sheet load : List ℕ) (page : ℕ)
    → joined (drop (band_start (herald_of (words sheet)) 0) (picture sheet load page)) ≡ joined (picture sheet load page)
from_0 sheet load page = ap (λ (x : ℕ). joined (drop x (picture sheet load page))) (mul-zero (herald_of (words sheet)).band_s_size)

-- ---- the calls

-- a call met draw's promise
abbrev MetPromise : (sheet load : List ℕ) → Call → Type 0
MetPromise sheet load c = DrawPromised sheet load c.page c.b c.held c.answer c.left

-- each call of the list did
promised_of : (sheet load : List ℕ) (bs : Buffers) (steps : List Step) (cs : List Call) → Made sheet load bs steps cs
    → (c : Call) → Memᴰ c cs → MetPromise sheet load c
promised_of sheet load bs steps cs over c m = absurd (Memᴰ.not-nil m)
promised_of sheet load bs steps cs (wrote {bs = bs₀} {i = i} {bytes = bytes} {steps = steps₀} {calls = cs₀} rest) c m =
    promised_of sheet load (writing i bytes bs₀) steps₀ cs₀ rest c m
promised_of sheet load bs steps cs (called {bs = bs₀} {page = page} {b = b} {i = i} {steps = steps₀} {calls = cs₀} r left p rest) c m =
    go (λ l. promised_of sheet load (writing i left bs₀) steps₀ cs₀ rest c l) (Memᴰ.cases_cons m)
  where
    go : (Memᴰ c cs₀ → MetPromise sheet load c)
        → (c ≡ (record { page = page; b = b; held = bs₀ i; answer = r; left = left })) ⊎ Memᴰ c cs₀ → MetPromise sheet load c
    go ih (inl e) = subst (MetPromise sheet load) (sym e) p
    go ih (inr m) = ih m

module _ (sheet load : List ℕ) (k : Known sheet load) where
  -- a call with room for a band that is there drew it
  drew : (c : Call) → MetPromise sheet load c → Has sheet c.page c.b → size_of sheet c.page c.b ≤ length c.held → Drew sheet load c
  unfolding buffer_after
  drew c e h le =
      let a = answer_drawn sheet load k c.page c.b h (length c.held) le in
      let size = rows_size sheet load c.page c.b in
      record {
        answer_is = e.answer_is ∙ ap due a;
        size_is = size;
        left_is =
            e.left_is
            ∙ ap (λ (x : DrawAnswer). buffer_after x c.held) a
            ∙ ap (λ (j : ℕ). rows_of_picture sheet load c.page c.b ++ drop j c.held) size;
      }

  -- a call whose answer is a refusal
  refused_with : (j : ℕ) (c : Call) → MetPromise sheet load c
      → draw_answer sheet load c.page c.b (length c.held) ≡ refused j 0 → RefusedWith j c
  unfolding buffer_after
  refused_with j c e a = record { answer_is = e.answer_is ∙ ap due a; left_is = e.left_is ∙ ap (λ (x : DrawAnswer). buffer_after x c.held) a }

  -- a call that drew a band that is there had room
  drew_if : (c : Call) → MetPromise sheet load c → Has sheet c.page c.b → is_done (drawn_as c.answer) ≡ true → Drew sheet load c
  drew_if c e h d = go (leb (size_of sheet c.page c.b) (length c.held)) refl
    where
      go : (t : Bool) → leb (size_of sheet c.page c.b) (length c.held) ≡ t → Drew sheet load c
      go true q = drew c e h (leb-true _ _ q)
      go false q =
          let r = (refused_with 12 c e (answer_12 sheet load k c.page c.b h (length c.held) (leb-false _ _ q))).answer_is in
          absurd (false≢true (sym (ap is_done r) ∙ d))

  -- its rows stand as they were drawn
  standing_is : (c : Call) → Drew sheet load c → standing sheet c ≡ rows_of_picture sheet load c.page c.b
  standing_is c d = rw (d.answer_is, d.left_is) (take_at (rows_of_picture sheet load c.page c.b) _ (size_of sheet c.page c.b) d.size_is)

  module _ (calls : List Call) (made : (c : Call) → Memᴰ c calls → MetPromise sheet load c) (page : ℕ) (here : page < page_count (words sheet)) where
    -- a drawing out of the list
    drew_at : (b : ℕ) (c : Call) → b < band_count (herald_of (words sheet)) → Memᴰ c calls → c.page ≡ page → c.b ≡ b
        → is_done (drawn_as c.answer) ≡ true → Drew sheet load c
    drew_at b c lt m pg bd d = drew_if c (made c m) (record { page_there = rw pg here; band_there = rw bd lt }) d

    -- the picture from band b on
    abbrev after : ℕ → List ℕ
    after b = joined (drop (band_start (herald_of (words sheet)) b) (picture sheet load page))

    -- nothing is left after the last band
    after_last : (b : ℕ) → b + 0 ≡ band_count (herald_of (words sheet)) → after b ≡ []
    unfolding joined
    after_last b e =
        let last : b ≡ band_count (herald_of (words sheet)) = omega arith in
        rw last (ap joined (past_end sheet load page k.some-lines))

    -- the rows of drawn calls are the picture's
    rows_from : (b j : ℕ) (cs : List Call) → b + j ≡ band_count (herald_of (words sheet)) → OneOfEach calls page b j cs
        → joined (map (standing sheet) cs) ≡ after b
    unfolding joined
    rows_from b j cs e (none {b = b₀}) = sym (after_last b₀ e)
    rows_from b j cs e (more {b = b₀} {n = n₀} {cs = cs₀} c m pg bd d rest) =
        let dr = drew_at b₀ c (omega arith) m pg bd d in
        let same : rows_of_picture sheet load c.page c.b ≡ rows_of_picture sheet load page b₀ = rw (pg, bd) refl in
        ap (λ (x : List ℕ). x ++ joined (map (standing sheet) cs₀)) (standing_is c dr ∙ same)
        ∙ ap (λ (x : List ℕ). rows_of_picture sheet load page b₀ ++ x) (rows_from (suc b₀) n₀ cs₀ (omega arith) rest)
        ∙ band_then sheet load page b₀

    -- the dots of drawn calls are the one bits of their rows
    dots_of_lem : (b j : ℕ) (cs : List Call) → b + j ≡ band_count (herald_of (words sheet)) → OneOfEach calls page b j cs
        → total (map (λ (c : Call). dots_of_answer (drawn_as c.answer)) cs) ≡ ones_of (joined (map (standing sheet) cs))
    unfolding total ones_of joined
    dots_of_lem b j cs e (none {b = b₀}) = refl
    dots_of_lem b j cs e (more {b = b₀} {n = n₀} {cs = cs₀} c m pg bd d rest) =
        let dr = drew_at b₀ c (omega arith) m pg bd d in
        let dots : dots_of_answer (drawn_as c.answer) ≡ ones_of (standing sheet c) =
        ap dots_of_answer dr.answer_is ∙ ap ones_of (sym (standing_is c dr)) in
        ap₂ (λ (x y : ℕ). x + y) dots (dots_of_lem (suc b₀) n₀ cs₀ (omega arith) rest)
        ∙ sym (ones-append (standing sheet c) (joined (map (standing sheet) cs₀)))

-- all that is claimed of the calls
pub of_the_calls : (sheet load : List ℕ) → Passes sheet load
    → (bs : Buffers) (steps : List Step) (cs : List Call) → Made sheet load bs steps cs → OfTheCalls sheet load cs
of_the_calls sheet load passes bs steps calls m =
    let k = known sheet load passes in
    let made = promised_of sheet load bs steps calls m in
    let N = band_count (herald_of (words sheet)) in
    record {
      draws = λ c m h le. drew sheet load k c (made c m) h le;
      no_such = λ c m h. refused_with sheet load k 11 c (made c m) (answer_11 sheet load k c.page c.b (length c.held) h);
      no_room = λ c m h lt. refused_with sheet load k 12 c (made c m) (answer_12 sheet load k c.page c.b h (length c.held) lt);
      whole_page = λ page cs here one. rows_from sheet load k calls made page here 0 N cs (zero-add N) one ∙ from_0 sheet load page;
      dots_add_up = λ page cs here one.
          dots_of_lem sheet load k calls made page here 0 N cs (zero-add N) one
          ∙ ap ones_of (rows_from sheet load k calls made page here 0 N cs (zero-add N) one ∙ from_0 sheet load page);
    }
