-- Demand 3 holds. Assumes nothing.
use mathlib.Core.Path.{◌≡◌, refl, subst}
use mathlib.Core.List.Memᴰ
use mathlib.Core.List.{List, [], ◌∷◌}
use Prim.Native.Nat.{ℕ, ◌≤◌}
use lib.ListN.{length}
use Rattle.std.proofs.Common.{Result}
use Rattle.refusal.specs.declared.Refusal.{Refusal}
use Rattle.film_drawing.specs.Promise.{DrawPromised}
use Rattle.film_drawing.specs.Demand3.{Passes, draw, over, called, Has, size_of, Alike, SameBand, Drawing, Demand3}
use Rattle.film_drawing.specs.declared.Drawn.{Drawn}
use Rattle.film_drawing.proofs.Answers.{known}
use Rattle.film_drawing.proofs.Calls.{of_the_calls}
use Rattle.film_drawing.proofs.Alike.{two_has, same_size, same_band}

pub demand3 : Demand3
demand3 = record { calls = of_the_calls; alike = same_band }

-- ---- its last sentence of two draws, each by itself

-- a call out of a list of its own
alone : (sheet load : List ℕ) (page b : ℕ) (held left : List ℕ) (r : Result Drawn Refusal) → DrawPromised sheet load page b held r left
    → Has sheet page b → size_of sheet page b ≤ length held → Drawing sheet load (record { page = page; b = b; held = held; answer = r; left = left })
alone sheet load page b held left r p h le =
    record {
      buffers = λ i. held;
      steps = draw page b 0 ∷ [];
      calls = _;
      made = called r left p over;
      among = Memᴰ.head refl;
      has = h;
      room = le;
    }

-- a band other than the one whose commands differ, drawn of both sheets
pub alike_draws : (one two load : List ℕ) → Passes one load → Passes two load
    → (page b : ℕ) → Has one page b → Alike one two page b
    → (page' b' : ℕ) → Has one page' b' → (page' ≡ page → b' ≡ b → ⊥)
    → (held₁ held₂ left₁ left₂ : List ℕ) (r₁ r₂ : Result Drawn Refusal)
    → DrawPromised one load page' b' held₁ r₁ left₁ → DrawPromised two load page' b' held₂ r₂ left₂
    → size_of one page' b' ≤ length held₁ → size_of one page' b' ≤ length held₂
    → SameBand (size_of one page' b') r₁ r₂ left₁ left₂
alike_draws one two load p₁ p₂ page b has al page' b' h ne held₁ held₂ left₁ left₂ r₁ r₂ d₁ d₂ le₁ le₂ =
    let k = known one load p₁ in
    let h₂ = two_has one two load k page b has al page' b' h in
    let le : size_of two page' b' ≤ length held₂ = subst (λ (x : ℕ). x ≤ length held₂) (same_size one two load k page b has al page' b' h) le₂ in
    demand3.alike one two load p₁ p₂ page b has al _ _
    (alone one load page' b' held₁ left₁ r₁ d₁ h le₁) (alone two load page' b' held₂ left₂ r₂ d₂ h₂ le) refl refl ne
