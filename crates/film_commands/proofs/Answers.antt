-- Laws of the code's answers: what was read, at its place. Assumes nothing.
use Rattle.std.proofs.Common as code
use Rattle.std.proofs.Common.{◌≡◌, refl, sym, ap, ap₂, ◌∙◌, Bool, true, false, cond, Result, Ok, Err, Some, None, ok_or, List, [], ℕ, suc, ◌+◌, ◌<◌, ◌||◌, ltb, eqb, length, ◌⊎◌, inl, inr}
use Rattle.std.proofs.Math.Option.{Option, none, some}
use native.Mathlib.Nat.{add-zero}
use Rattle.refusal.specs.Answers.{given, refused}
use Rattle.refusal.specs.Faults.{number_of}
use Rattle.refusal.specs.Code.{refused_as}
use Rattle.refusal.specs.declared.Refusal.{Refusal}
use Rattle.refusal.specs.declared.Fault.{Fault}
use Rattle.refusal.specs.declared.Fault.TheVariants as fault
use Rattle.film_words.specs.Answers.{extent_of}
use Rattle.film_words.proofs.Answers.{words-some, past_none}
use Rattle.film_commands.specs.Refusals.{argument_words}
use Rattle.film_commands.specs.Commands.{Command, ink, clear, Source, nowhere, Taken, taken, command}
use Rattle.film_commands.specs.Code.{Named, nothing, part_for, whole_at, located, placed, array_answer}
use Rattle.film_commands.proofs.Commands.{too_few, ink_read, clear_read}

-- a refusal has the place of an argument word
pub refused-after : {r : Refusal} {f : Fault} (s l : List ℕ) (p i : ℕ) (t : Taken) → r ≡ record { fault = f; place = p + i } → t ≡ refused (number_of f) i
    → refused_as r ≡ placed s l p t
refused-after s l p i t r e = ap (λ x. refused_as x) r ∙ sym (ap (placed s l p) e)

-- or of the code word
pub refused-at : {r : Refusal} {f : Fault} (s l : List ℕ) (p : ℕ) (t : Taken) → r ≡ record { fault = f; place = p } → t ≡ refused (number_of f) 0
    → refused_as r ≡ placed s l p t
refused-at {r} {f} s l p t e = refused-after s l p 0 t (e ∙ ap (λ q. record { fault = f; place = q }) (sym (add-zero p)))

-- there are too few argument words
pub refused-cut : {r : Refusal} (s l : List ℕ) (p : ℕ) (load : List ℕ) (least code : ℕ) (args : List ℕ) → (eqb code 0 || ltb 10 code) ≡ false
    → (r ≡ record { fault = fault.Cut; place = p }) × (length args < argument_words code) → refused_as r ≡ placed s l p (command load least code args)
refused-cut s l p load least code args k (e, f) = refused-at s l p _ e (too_few load least code args k f)

-- a whole command ends before place q, it names the words of its source, and its bytes are theirs
pub whole-at : (s l : List ℕ) (p n q : ℕ) (c : Command) (k : Named) (b : List ℕ) (src : Source) (t : Taken) → t ≡ taken c src n → k ≡ located p src
    → b ≡ part_for s l (located p src) → q ≡ p + suc n → whole_at c k b q ≡ placed s l p t
whole-at s l p n q c k b src t e m w h = ap (λ (x : Named). whole_at c x b q) m ∙ ap₂ (whole_at c (located p src)) w h ∙ sym (ap (placed s l p) e)

-- ink and clear at place p
pub ink_at : (s l load : List ℕ) (least p : ℕ) (args : List ℕ) → placed s l p (command load least 2 args) ≡ whole_at ink nothing [] (p + 1)
unfolding part_for
ink_at s l load least p args = sym (whole-at s l p 0 (p + 1) ink nothing [] nowhere (command load least 2 args) (ink_read load args least) refl refl refl)

pub clear_at : (s l load : List ℕ) (least p : ℕ) (args : List ℕ) → placed s l p (command load least 3 args) ≡ whole_at clear nothing [] (p + 1)
unfolding part_for
clear_at s l load least p args = sym (whole-at s l p 0 (p + 1) clear nothing [] nowhere (command load least 3 args) (clear_read load args least) refl refl refl)

-- what is given is the same where the answers are
pub given_same : {A : Type 0} {a b : A} → given a ≡ given b → a ≡ b
given_same e = cc

-- ---- what the code measures

-- it is there
pub measured : {x : Result ℕ Refusal} (o : Option ℕ) (g : code.Option ℕ) (e : Refusal) {n : ℕ} → g ≡ extent_of o → x ≡ ok_or g e → x ≡ Ok n → o ≡ some n
measured o g e {n} q v w = words-some o n (go g (sym v ∙ w) ∙ q)
  where
    go : (g : code.Option ℕ) → ok_or g e ≡ Ok n → Some n ≡ g
    go None z = cc
    go (Some m) z = cc

-- it runs past the end
pub not_measured : {x : Result ℕ Refusal} (o : Option ℕ) (g : code.Option ℕ) (e : Refusal) {r : Refusal} → g ≡ extent_of o → x ≡ ok_or g e → x ≡ Err r
    → (o ≡ none) × (r ≡ e)
not_measured o g e {r} q v w = let z = go g (sym v ∙ w) in (past_none o (z.0 ∙ q), z.1)
  where
    go : (g : code.Option ℕ) → ok_or g e ≡ Err r → (None ≡ g) × (r ≡ e)
    go None z = (refl, cc)
    go (Some m) z = cc

-- an array is there, and no bit is set in its padding
pub array_ok : {x : Result ℕ Refusal} (f : Fault) (p : ℕ) (o : Option ℕ) (t : Bool) {n : ℕ} → x ≡ array_answer f p o t → x ≡ Ok n → (o ≡ some n) × (t ≡ false)
array_ok f p o t {n} v w = go o t (sym v ∙ w)
  where
    go : (o : Option ℕ) (t : Bool) → array_answer f p o t ≡ Ok n → (o ≡ some n) × (t ≡ false)
    go none t q = cc
    go (some m) true q = cc
    go (some m) false q = (cc, refl)

-- it runs past the end, or one is set
pub array_err : {x : Result ℕ Refusal} (f : Fault) (p : ℕ) (o : Option ℕ) (t : Bool) {r : Refusal} → x ≡ array_answer f p o t → x ≡ Err r
    → ((o ≡ none) × (r ≡ record { fault = f; place = p })) ⊎ ((n : ℕ) × ((o ≡ some n) × (t ≡ true) × (r ≡ record { fault = fault.Padding; place = p })))
array_err f p o t {r} v w = go o t (sym v ∙ w)
  where
    go : (o : Option ℕ) (t : Bool) → array_answer f p o t ≡ Err r
        → ((o ≡ none) × (r ≡ record { fault = f; place = p })) ⊎ ((n : ℕ) × ((o ≡ some n) × (t ≡ true) × (r ≡ record { fault = fault.Padding; place = p })))
    go none t q = inl (refl, cc)
    go (some m) true q = inr (m, (refl, refl, cc))
    go (some m) false q = cc
