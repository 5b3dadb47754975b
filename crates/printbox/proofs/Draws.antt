-- Whatever meets the contract of `film_check` or `film_draw` keeps the promise of check or of draw, so that demand 3 speaks of it. Assumes nothing.
use mathlib.Core.Path.{◌≡◌, refl, ap}
use mathlib.Core.List.{List}
use Prim.Native.Nat.{ℕ}
use lib.ListN.{length}
use Rattle.std.proofs.Common.{Result, Ok, Err}
use Rattle.refusal.specs.Answers.{given, refused}
use Rattle.refusal.specs.declared.Refusal.{Refusal}
use Rattle.film_check.specs.Check.{CheckAnswer, check_answer}
use Rattle.film_check.specs.Promise.{checked_as}
use Rattle.film_drawing.specs.Draw.{DrawAnswer, draw_answer, buffer_after}
use Rattle.film_drawing.specs.Promise.{due, drawn_as}
use Rattle.film_drawing.specs.declared.Drawn.{Drawn}
use Rattle.film_drawing.proofs.Told.{Told, Any, check_told, draw_told}
use Rattle.printbox_answers.specs.Numbers.{of_check, of_draw}
use Rattle.printbox.specs.Draws.{KeepsCheckPromise, KeepsDrawPromise}

-- ---- the check

-- the code's answer for the answer of the definition
checked_for : (a : CheckAnswer) → Told Any a → Result ℕ Refusal
checked_for (given n) t = Ok n
checked_for (refused n p) t = Err (record { fault = t.fault; place = p })

checked_for-same : (a : CheckAnswer) (t : Told Any a) → checked_as (checked_for a t) ≡ a
unfolding checked_for
checked_for-same (given n) t = refl
checked_for-same (refused n p) t = ap (λ (m : ℕ). refused m p) t.is

pub film_check_keeps : (sheet load numbers : List ℕ) → numbers ≡ of_check (check_answer sheet load) → KeepsCheckPromise sheet load numbers
film_check_keeps sheet load numbers n =
    let a = check_answer sheet load in
    let t = check_told sheet load in
    record {
      answer = checked_for a t;
      numbers_are = rw (checked_for-same a t) n;
      promised = record { answer_is = checked_for-same a t };
    }

-- ---- the draw

-- the code's answer for the answer that is due
answer_for : (a : DrawAnswer) → Told Any a → Result Drawn Refusal
answer_for (given d) t = Ok (record { rows = d.rows; dots = d.dots })
answer_for (refused n p) t = Err (record { fault = t.fault; place = p })

answer_for-due : (a : DrawAnswer) (t : Told Any a) → drawn_as (answer_for a t) ≡ due a
unfolding answer_for
answer_for-due (given d) t = refl
answer_for-due (refused n p) t = ap (λ (m : ℕ). refused m p) t.is

pub film_draw_keeps : (sheet load : List ℕ) (page b : ℕ) (held numbers left : List ℕ)
    → numbers ≡ of_draw (due (draw_answer sheet load page b (length held)))
    → left ≡ buffer_after (draw_answer sheet load page b (length held)) held
    → KeepsDrawPromise sheet load page b held numbers left
film_draw_keeps sheet load page b held numbers left n l =
    let a = draw_answer sheet load page b (length held) in
    let t = draw_told sheet load page b (length held) in
    record {
      answer = answer_for a t;
      numbers_are = rw (answer_for-due a t) n;
      promised = record { answer_is = answer_for-due a t; left_is = l };
    }
