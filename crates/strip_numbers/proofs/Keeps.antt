-- A call on numbers keeps receive's promise. Assumes nothing.
use mathlib.Core.Path.{◌≡◌, refl, sym, ap, ◌∙◌}
use mathlib.Core.Bool.{Bool, true, false, cond}
use mathlib.Core.List.{List}
use Prim.Native.Nat.{ℕ}
use lib.ListN.{length}
use Rattle.strip.specs.declared.Receiver.{Receiver}
use Rattle.strip.specs.declared.Phase.{Phase}
use Rattle.strip.specs.declared.Phase.TheVariants.{Hunt, Mark, Command, Indicator, Low, High, Body, SumLow, SumHigh, ClockFirst, ClockSecond}
use Rattle.refusal.specs.declared.Fault.TheVariants.{Unusable}
use Rattle.strip.specs.Step.{receiver, refused_with, leaves, taken, unusable, step_in, step_of, new_record}
use Rattle.strip.specs.Phases.{phase_of, number_of}
use Rattle.strip_numbers.specs.Numbers.{receiver_of, record_of, refusal, Outcome, outcome, of_after, number_step, NumberSteps}
use Rattle.strip_numbers.specs.Keeps.{KeepsPromise, Keeps}
use Rattle.strip_numbers.specs.declared.StripRecord.{StripRecord}
use Rattle.strip_numbers.specs.declared.StripAnswer.{StripAnswer}

-- every phase has its number
phase_back : (p : Phase) → phase_of (number_of p) ≡ p
unfolding phase_of
phase_back Hunt = refl
phase_back Mark = refl
phase_back Command = refl
phase_back Indicator = refl
phase_back Low = refl
phase_back High = refl
phase_back Body = refl
phase_back SumLow = refl
phase_back SumHigh = refl
phase_back ClockFirst = refl
phase_back ClockSecond = refl

-- and so every receiver its numbers
receiver_back : (r : Receiver) → receiver_of (record_of r) ≡ r
receiver_back r = λ i. receiver (phase_back r.phase i) r.command r.indicator r.size r.have r.sum r.low r.status r.bands r.body

receives : (r r' : StripRecord) (b : ℕ) (bs ds bs' ds' : List ℕ) (a : StripAnswer) → NumberSteps r b bs ds r' a bs' ds' → KeepsPromise r b bs ds r' a bs' ds'
unfolding number_step step_in
receives r r' b bs ds bs' ds' a e = go (unusable (length bs) (length ds) r.bands r.have) refl e
  where
    go : (t : Bool) → unusable (length bs) (length ds) r.bands r.have ≡ t → outcome r' a bs' ds' ≡ cond t (outcome r (refusal 36 0) bs ds) (of_after (step_of (receiver_of r) b bs ds)) → KeepsPromise r b bs ds r' a bs' ds'
    go true q e = record {
      answer = refused_with Unusable;
      numbers_are = ap (λ (o : Outcome). o.answer) e;
      promised = (λ i. leaves (receiver_of (e i).rec) (refused_with Unusable) (e i).bands (e i).dots) ∙ ap (λ (t : Bool). cond t (leaves (receiver_of r) (refused_with Unusable) bs ds) (taken (phase_of r.phase) (receiver_of r) b bs ds)) (sym q);
    }
    go false q e = record {
      answer = (step_of (receiver_of r) b bs ds).answer;
      numbers_are = ap (λ (o : Outcome). o.answer) e;
      promised = λ i. leaves ((ap (λ (o : Outcome). receiver_of o.rec) e ∙ receiver_back (step_of (receiver_of r) b bs ds).rec) i) (step_of (receiver_of r) b bs ds).answer (e i).bands (e i).dots;
    }

pub keeps : Keeps
keeps = record { receives = receives; begins = receiver_back new_record; sets = λ v r. refl }
