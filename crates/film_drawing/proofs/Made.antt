-- Whatever the steps are, there are calls that they make: Demand 3 speaks of every list of steps. Assumes nothing.
use mathlib.Core.Path.{◌≡◌, refl, ap}
use mathlib.Core.List.{List, [], ◌∷◌}
use Prim.Native.Nat.{ℕ}
use lib.ListN.{length}
use Rattle.std.proofs.Common.{Result, Ok, Err}
use Rattle.refusal.specs.Answers.{given, refused}
use Rattle.refusal.specs.declared.Refusal.{Refusal}
use Rattle.film_drawing.specs.Draw.{DrawAnswer, draw_answer, buffer_after}
use Rattle.film_drawing.specs.Promise.{due, drawn_as, DrawPromised}
use Rattle.film_drawing.specs.Demand3.{Buffers, Step, draw, write, writing, Call, Made, over, wrote, called}
use Rattle.film_drawing.specs.declared.Drawn.{Drawn}
use Rattle.film_drawing.proofs.Told.{Told, Any, draw_told}

-- an answer that says what is due
answered : (a : DrawAnswer) → Told Any a → Result Drawn Refusal
answered (given d) t = Ok (record { rows = d.rows; dots = d.dots })
answered (refused number place) t = Err (record { fault = t.fault; place = place })

-- it does
answered_is : (a : DrawAnswer) (t : Told Any a) → drawn_as (answered a t) ≡ due a
unfolding answered
answered_is (given d) t = refl
answered_is (refused number place) t = ap (λ (n : ℕ). refused n place) t.is

-- the promise of a draw can be met, for every input
can_be_met : (sheet load : List ℕ) (page b : ℕ) (held : List ℕ)
    → (let a = draw_answer sheet load page b (length held) in
    DrawPromised sheet load page b held (answered a (draw_told sheet load page b (length held))) (buffer_after a held))
can_be_met sheet load page b held =
    let room = length held in
    record { answer_is = answered_is (draw_answer sheet load page b room) (draw_told sheet load page b room); left_is = refl }

-- calls that the steps make
pub record SomeCalls (sheet load : List ℕ) (bs : Buffers) (steps : List Step) : Type 0 where
  pub calls : List Call
  pub made : Made sheet load bs steps calls

-- there are such calls
pub any-steps : (sheet load : List ℕ) (bs : Buffers) (steps : List Step) → SomeCalls sheet load bs steps
any-steps sheet load bs [] = record { calls = []; made = over }
any-steps sheet load bs (write i bytes ∷ steps) =
    let rest = any-steps sheet load (writing i bytes bs) steps in
    record { calls = rest.calls; made = wrote rest.made }
any-steps sheet load bs (draw page b i ∷ steps) =
    let a = draw_answer sheet load page b (length (bs i)) in
    let r = answered a (draw_told sheet load page b (length (bs i))) in
    let left = buffer_after a (bs i) in
    let rest = any-steps sheet load (writing i left bs) steps in
    record {
      calls = record { page = page; b = b; held = bs i; answer = r; left = left } ∷ rest.calls;
      made = called r left (can_be_met sheet load page b (bs i)) rest.made;
    }
