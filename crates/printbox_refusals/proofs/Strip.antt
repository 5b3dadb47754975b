-- The refusals of the strip printer's receiver, and their place. Assumes nothing.
use mathlib.Core.Path.{◌≡◌, refl}
use mathlib.Core.Bool.{true, cond}
use mathlib.Core.List.{List}
use Prim.Native.Nat.{ℕ}
use lib.Dec.{eqb, leb}
use lib.ListN.{length, take}
use Rattle.strip.specs.declared.Receiver.{Receiver}
use Rattle.strip.specs.declared.Phase.{Phase}
use Rattle.strip.specs.declared.Phase.TheVariants.{Hunt, Mark, Command, Indicator, Low, High, Body, SumLow, SumHigh, ClockFirst, ClockSecond}
use Rattle.refusal.specs.Faults.{number_of}
use Rattle.strip.specs.Packets.{fitting, number}
use Rattle.strip.specs.Coding.{Expansion, whole, cut, expand}
use Rattle.strip.specs.Actions.{Action, initialize, add, end_page, print, inquire, refuse, action, of_expansion}
use Rattle.strip.specs.Step.{After, Answered, carried, taken, unusable, step_in}
use Rattle.strip_numbers.specs.declared.StripRecord.{StripRecord}
use Rattle.strip_numbers.specs.Numbers.{receiver_of, answer_of, Outcome, number_step}
use Rattle.printbox_refusals.specs.Refusals.{among, gives, strip_refusals, of_strip}
use Rattle.printbox_refusals.proofs.Films.{either}

-- ---- what a packet asks for: 31, 32, 34, 35

abbrev ActionIn : Action → Type 0
ActionIn initialize = Unit {0}
ActionIn (add band) = Unit {0}
ActionIn end_page = Unit {0}
ActionIn (print palette margins density) = Unit {0}
ActionIn inquire = Unit {0}
ActionIn (refuse f) = among strip_refusals (number_of f) ≡ true

expansion_in : (e : Expansion) → ActionIn (of_expansion e)
unfolding among
expansion_in (whole band) = either ActionIn (eqb (length band) 640) tt refl
expansion_in cut = refl

action_in : (n c i : ℕ) (body : List ℕ) (s l h : ℕ) → ActionIn (action n c i body s l h)
unfolding action among
action_in n c i body s l h =
    either ActionIn (eqb (number l h) s)
    (either ActionIn (eqb c 1) tt
    (either ActionIn (eqb c 2) tt
    (either ActionIn (eqb c 4)
    (either ActionIn (eqb (length body) 0) tt (either ActionIn (leb 9 n) refl (expansion_in (cond (eqb i 0) (whole body) (expand body)))))
    (either ActionIn (eqb c 15) tt refl))))
    refl

-- ---- an answer: no refusal, or one of these at place 0

abbrev AnswerIn : Answered → Type 0
AnswerIn a = (gives strip_refusals (of_strip (answer_of a)) ≡ true) × ((answer_of a).place ≡ 0)

abbrev OutcomeIn : Outcome → Type 0
OutcomeIn o = (gives strip_refusals (of_strip o.answer) ≡ true) × (o.answer.place ≡ 0)

abbrev AfterIn : After → Type 0
AfterIn o = AnswerIn o.answer

carried_in : (r : Receiver) (act : Action) (bs ds : List ℕ) → ActionIn act → AfterIn (carried r act bs ds)
unfolding gives among
carried_in r initialize bs ds i = (refl, refl)
carried_in r (add band) bs ds i = (refl, refl)
carried_in r end_page bs ds i = (refl, refl)
carried_in r (print palette margins density) bs ds i = (refl, refl)
carried_in r inquire bs ds i = (refl, refl)
carried_in r (refuse f) bs ds i = (i, refl)

taken_in : (ph : Phase) (r : Receiver) (b : ℕ) (bs ds : List ℕ) → AfterIn (taken ph r b bs ds)
unfolding gives among
taken_in Hunt r b bs ds = (refl, refl)
taken_in Mark r b bs ds = (refl, refl)
taken_in Command r b bs ds = (refl, refl)
taken_in Indicator r b bs ds = (refl, refl)
taken_in Low r b bs ds = (refl, refl)
taken_in High r b bs ds = either AfterIn (fitting r.command r.indicator (number r.low b)) (refl, refl) (refl, refl)
taken_in Body r b bs ds = (refl, refl)
taken_in SumLow r b bs ds = (refl, refl)
taken_in SumHigh r b bs ds =
    let body : List ℕ = take r.have r.body in
    carried_in r (action r.bands r.command r.indicator body r.sum r.low b) bs ds (action_in r.bands r.command r.indicator body r.sum r.low b)
taken_in ClockFirst r b bs ds = (refl, refl)
taken_in ClockSecond r b bs ds = (refl, refl)

step_in_lem : (r : StripRecord) (b : ℕ) (bs ds : List ℕ) → OutcomeIn (number_step r b bs ds)
unfolding number_step step_in gives among
step_in_lem r b bs ds =
    either OutcomeIn (unusable (length bs) (length ds) r.bands r.have) (refl, refl)
    (either AfterIn (unusable (length bs) (length ds) r.bands r.have) (refl, refl) (taken_in (receiver_of r).phase (receiver_of r) b bs ds))

pub strip_receive : (r : StripRecord) (b : ℕ) (bs ds : List ℕ) → gives strip_refusals (of_strip (number_step r b bs ds).answer) ≡ true
strip_receive r b bs ds = (step_in_lem r b bs ds).0

pub strip_place : (r : StripRecord) (b : ℕ) (bs ds : List ℕ) → (number_step r b bs ds).answer.place ≡ 0
strip_place r b bs ds = (step_in_lem r b bs ds).1
