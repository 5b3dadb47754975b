-- The statement about streams. Assumes nothing.
use mathlib.Core.Path.{◌≡◌, refl, sym, ap, ◌∙◌, subst}
use mathlib.Core.Bool.{Bool, true, false, cond, ◌||◌}
use mathlib.Core.List.{List, [], ◌∷◌, ◌++◌}
use Prim.Native.Nat.{ℕ, ◌≤◌, ◌<◌}
use native.Mathlib.Omega.{arith}
use borrow.Author.Tests.{ltb-false}
use lib.Dec.{eqb, ltb}
use lib.ListN.{length}
use Rattle.std.proofs.Common.{Ok, Err}
use Rattle.refusal.specs.declared.Fault.{Fault}
use Rattle.refusal.specs.declared.Fault.TheVariants as fault
use Rattle.refusal.specs.Faults.{number_of}
use Rattle.strip.specs.declared.Receiver.{Receiver}
use Rattle.strip.specs.declared.Phase.{Phase}
use Rattle.strip.specs.declared.Phase.TheVariants.{Hunt, Mark, Command, Indicator, Low, High, Body, SumLow, SumHigh, ClockFirst, ClockSecond}
use Rattle.strip.specs.declared.Answer.TheVariants.{Reply}
use Rattle.strip.specs.Packets.{fitting, number, add16}
use Rattle.strip.specs.Actions.{Action, initialize, add, end_page, print, inquire, refuse, action}
use Rattle.strip.specs.Reading.{Bands, Place, searching, quiet, Reading, reading, plainly}
use Rattle.strip.specs.Step.{After, Answered, leaves, refused_with, noted, at, carried, taken, unusable, step_in, step_of, Steps, with_status}
use Rattle.strip.specs.Streams.{Stream, new, took, not_taken, host, others, body_of, place_at, place_of, SumIs, joined, Shows, answer_of, dots_of, Unchanged, ReceivedPlainly}
use Rattle.strip.proofs.Laws.{usable}
use Rattle.strip.proofs.Machine.{moved, runs, runs_snoc, runs_read}
use Rattle.strip.proofs.Refines.{Extra, Fine, Follows, Bounded, bounded, refines}

-- ---- a refused byte

-- what a refusal leaves
pub record Left (r : Receiver) (bs ds : List ℕ) (o : After) (f : Fault) : Type 0 where
  pub same_bands : o.bands ≡ bs
  pub same_dots : o.dots ≡ ds
  pub same_count : o.rec.bands ≡ r.bands
  pub low_number : number_of f < 36
  pub searches : o.rec.phase ≡ Hunt

-- the fault of a refusal; of what is none, any
abbrev fault_in : Answered → Fault
fault_in (Ok a) = fault.Checksum
fault_in (Err r) = r.fault

-- no refusal
replies : (r : Receiver) (bs ds : List ℕ) (o : After) (x : ℕ) (n : Fault) → Ok (Reply x) ≡ refused_with n → Left r bs ds o n
replies r bs ds o x n e = let z : ◌≡◌ {A = ℕ} 0 1 = cc in absurd (omega arith)

-- a refusal with m
refuses_with : (r : Receiver) (bs ds : List ℕ) (m n : Fault) → number_of m < 36 → refused_with m ≡ refused_with n → Left r bs ds (leaves (at r Hunt) (refused_with m) bs ds) n
refuses_with r bs ds m n l e = let z : m ≡ n = ap fault_in e in record { same_bands = refl; same_dots = refl; same_count = refl; low_number = omega (arith, l, ap number_of z); searches = refl }

carried_left : (r : Receiver) (bs ds : List ℕ) (act : Action) (n : Fault) → Bounded r.bands act → (carried r act bs ds).answer ≡ refused_with n → Left r bs ds (carried r act bs ds) n
carried_left r bs ds initialize n a e = let z : ◌≡◌ {A = ℕ} 0 1 = cc in absurd (omega arith)
carried_left r bs ds (add band) n a e = let z : ◌≡◌ {A = ℕ} 0 1 = cc in absurd (omega arith)
carried_left r bs ds end_page n a e = let z : ◌≡◌ {A = ℕ} 0 1 = cc in absurd (omega arith)
carried_left r bs ds (print p m d) n a e = let z : ◌≡◌ {A = ℕ} 0 1 = cc in absurd (omega arith)
carried_left r bs ds inquire n a e = let z : ◌≡◌ {A = ℕ} 0 1 = cc in absurd (omega arith)
carried_left r bs ds (refuse m) n a e = refuses_with r bs ds m n a e

taken_left : (ph : Phase) (r : Receiver) (b : ℕ) (bs ds : List ℕ) (n : Fault) → (taken ph r b bs ds).answer ≡ refused_with n → Left r bs ds (taken ph r b bs ds) n
taken_left Hunt r b bs ds n e = replies r bs ds _ 0 n e
taken_left Mark r b bs ds n e = replies r bs ds _ 0 n e
taken_left Command r b bs ds n e = replies r bs ds _ 0 n e
taken_left Indicator r b bs ds n e = replies r bs ds _ 0 n e
taken_left Low r b bs ds n e = replies r bs ds _ 0 n e
taken_left High r b bs ds n e = go (fitting r.command r.indicator (number r.low b)) e
  where
    rec' : Receiver
    rec' = noted r (cond (eqb (number r.low b) 0) SumLow Body) r.command r.indicator (number r.low b) 0 (add16 r.sum b) r.low

    go : (t : Bool) → (cond t (leaves rec' (Ok (Reply 0)) bs ds) (leaves (at r Hunt) (refused_with fault.PacketHeader) bs ds)).answer ≡ refused_with n
        → Left r bs ds (cond t (leaves rec' (Ok (Reply 0)) bs ds) (leaves (at r Hunt) (refused_with fault.PacketHeader) bs ds)) n
    go true e = replies r bs ds _ 0 n e
    go false e = refuses_with r bs ds fault.PacketHeader n (omega arith) e
taken_left Body r b bs ds n e = replies r bs ds _ 0 n e
taken_left SumLow r b bs ds n e = replies r bs ds _ 0 n e
taken_left SumHigh r b bs ds n e =
    carried_left r bs ds (action r.bands r.command r.indicator (body_of r) r.sum r.low b) n (bounded r.bands r.command r.indicator (body_of r) r.sum r.low b) e
taken_left ClockFirst r b bs ds n e = replies r bs ds _ 0x81 n e
taken_left ClockSecond r b bs ds n e = replies r bs ds _ r.status n e

-- ---- taken or not

-- the outcome o of a call: refused with 36 and nothing changed; or taken, with room
pub data Outcome (r : Receiver) (b : ℕ) (bs ds : List ℕ) (o : After) : Type 0 where
  left_alone : o ≡ leaves r (refused_with fault.Unusable) bs ds → Outcome r b bs ds o
  was_taken : o ≡ taken r.phase r b bs ds → 5760 ≤ length bs → Outcome r b bs ds o

outcome : (r : Receiver) (b : ℕ) (bs ds : List ℕ) (o : After) → o ≡ step_of r b bs ds → Outcome r b bs ds o
unfolding step_in unusable
outcome r b bs ds o e = go (ltb (length bs) 5760) (ltb (length ds) 5760 || (ltb 9 r.bands || ltb 648 r.have)) refl e
  where
    go : (t u : Bool) → ltb (length bs) 5760 ≡ t → o ≡ cond (t || u) (leaves r (refused_with fault.Unusable) bs ds) (taken r.phase r b bs ds) → Outcome r b bs ds o
    go true u q e = left_alone e
    go false true q e = left_alone e
    go false false q e = was_taken e (ltb-false (length bs) 5760 q)

-- ---- the record of a stream

abbrev start : Reading
start = reading [] searching quiet

pub record Kept (bytes : List ℕ) (r : Receiver) (bs : List ℕ) : Type 0 where
  pub place_is : place_of r ≡ (runs bytes start).place
  pub fine : Fine r.phase r (runs bytes start).waiting bs

same_place : (ph : Phase) (v : ℕ) (r : Receiver) → place_at ph (with_status v r) ≡ place_at ph r
same_place Hunt v r = refl
same_place Mark v r = refl
same_place Command v r = refl
same_place Indicator v r = refl
same_place Low v r = refl
same_place High v r = refl
same_place Body v r = refl
same_place SumLow v r = refl
same_place SumHigh v r = refl
same_place ClockFirst v r = refl
same_place ClockSecond v r = refl

same-extra : (ph : Phase) (v : ℕ) (r : Receiver) → Extra ph r → Extra ph (with_status v r)
same-extra Hunt v r e = e
same-extra Mark v r e = e
same-extra Command v r e = e
same-extra Indicator v r e = e
same-extra Low v r e = e
same-extra High v r e = e
same-extra Body v r e = e
same-extra SumLow v r e = e
same-extra SumHigh v r e = e
same-extra ClockFirst v r e = e
same-extra ClockSecond v r e = e

-- a call that takes a byte
follows : (bytes : List ℕ) (r r' : Receiver) (bs bs' ds ds' : List ℕ) (a : Answered) (b : ℕ) → b < 256 → Kept bytes r bs → Steps r b bs ds r' a bs' ds' → (a ≡ refused_with fault.Unusable → ⊥)
    → Follows ds (leaves r' a bs' ds') (runs (bytes ++ (b ∷ [])) start) r.status
follows bytes r r' bs bs' ds ds' a b byte k e no36 = go (outcome r b bs ds (leaves r' a bs' ds') e)
  where
    w : Bands
    w = (runs bytes start).waiting

    go : Outcome r b bs ds (leaves r' a bs' ds') → Follows ds (leaves r' a bs' ds') (runs (bytes ++ (b ∷ [])) start) r.status
    go (left_alone q) = absurd (no36 (ap (λ (o : After). o.answer) q))
    go (was_taken q long) =
        subst (λ (m : Reading). Follows ds (leaves r' a bs' ds') m r.status) (ap (λ (p : Place). moved p w b) k.place_is ∙ sym (runs_snoc bytes b start))
        (subst (λ (o : After). Follows ds o (moved (place_of r) w b) r.status) (sym q) (refines r w b bs ds byte long r.phase k.fine))

pub kept : {bytes : List ℕ} {r : Receiver} {bs : List ℕ} → Stream bytes r bs → Kept bytes r bs
unfolding runs joined
kept (new bs) = record {
  place_is = refl;
  fine = record { have_most = omega arith; body_long = refl; most = omega arith; extra = tt; sum_is = tt; count_is = refl; bands_are = refl };
}
kept (took {bytes} {r} {r'} {bs} {bs'} b byte ds ds' a e no36 s) =
    let f : Follows ds (leaves r' a bs' ds') (runs (bytes ++ (b ∷ [])) start) r.status = follows bytes r r' bs bs' ds ds' a b byte (kept s) e no36 in
    record { place_is = f.place_is; fine = f.fine }
kept (not_taken {bytes} {r} {r'} {bs} b cs cs' ds ds' a e is36 s) = go (outcome r b cs ds (leaves r' a cs' ds') e) (kept s)
  where
    go : Outcome r b cs ds (leaves r' a cs' ds') → Kept bytes r bs → Kept bytes r' bs
    go (left_alone q) k = subst (λ (x : Receiver). Kept bytes x bs) (sym (ap (λ (o : After). o.rec) q)) k
    go (was_taken q long) k =
        let l : Left r cs ds (taken r.phase r b cs ds) fault.Unusable = taken_left r.phase r b cs ds fault.Unusable (sym (ap (λ (o : After). o.answer) q) ∙ is36) in
        absurd (omega (arith, l.low_number))
kept (host {bytes} {r} {bs} v s) = go (kept s)
  where
    go : Kept bytes r bs → Kept bytes (with_status v r) bs
    go k = record {
      place_is = same_place r.phase v r ∙ k.place_is;
      fine = record {
        have_most = k.fine.have_most;
        body_long = k.fine.body_long;
        most = k.fine.most;
        extra = same-extra r.phase v r k.fine.extra;
        sum_is = subst (λ (p : Place). SumIs p r.sum) (sym (same_place r.phase v r)) k.fine.sum_is;
        count_is = k.fine.count_is;
        bands_are = k.fine.bands_are;
      };
    }
kept (others {bytes} {r} {bs} {bs'} e s) = go (kept s)
  where
    go : Kept bytes r bs → Kept bytes r bs'
    go k = record {
      place_is = k.place_is;
      fine = record {
        have_most = k.fine.have_most;
        body_long = k.fine.body_long;
        most = k.fine.most;
        extra = k.fine.extra;
        sum_is = k.fine.sum_is;
        count_is = k.fine.count_is;
        bands_are = e ∙ k.fine.bands_are;
      };
    }

-- ---- the statement

shown : (bytes : List ℕ) (r : Receiver) (bs : List ℕ) → Stream bytes r bs → Shows r bs (plainly bytes)
shown bytes r bs s = subst (λ (x : Reading). Shows r bs x) (runs_read [] quiet bytes) (go (kept s))
  where
    go : Kept bytes r bs → Shows r bs (runs bytes start)
    go k = record {
      place_is = k.place_is;
      sum_is = subst (λ (p : Place). SumIs p r.sum) k.place_is k.fine.sum_is;
      count_is = k.fine.count_is;
      bands_are = k.fine.bands_are;
    }

answered : (bytes : List ℕ) (r r' : Receiver) (bs bs' ds ds' : List ℕ) (a : Answered) (b : ℕ) → b < 256 → Stream bytes r bs
    → Steps r b bs ds r' a bs' ds' → (a ≡ refused_with fault.Unusable → ⊥) → a ≡ answer_of r.status (plainly (bytes ++ (b ∷ []))).said
answered bytes r r' bs bs' ds ds' a b byte s e no36 =
    (follows bytes r r' bs bs' ds ds' a b byte (kept s) e no36).answer_is ∙ ap (λ (x : Reading). answer_of r.status x.said) (runs_read [] quiet (bytes ++ (b ∷ [])))

dotted : (bytes : List ℕ) (r r' : Receiver) (bs bs' ds ds' : List ℕ) (a : Answered) (b : ℕ) → b < 256 → Stream bytes r bs
    → Steps r b bs ds r' a bs' ds' → (a ≡ refused_with fault.Unusable → ⊥) → ds' ≡ dots_of (plainly (bytes ++ (b ∷ []))).waiting (plainly (bytes ++ (b ∷ []))).said ds
dotted bytes r r' bs bs' ds ds' a b byte s e no36 =
    (follows bytes r r' bs bs' ds ds' a b byte (kept s) e no36).dots_is ∙ ap (λ (x : Reading). dots_of x.waiting x.said ds) (runs_read [] quiet (bytes ++ (b ∷ [])))

unchanged : (r r' : Receiver) (bs bs' ds ds' : List ℕ) (b : ℕ) (n : Fault) → Steps r b bs ds r' (refused_with n) bs' ds' → Unchanged r r' n bs bs' ds ds'
unchanged r r' bs bs' ds ds' b n e = go (outcome r b bs ds (leaves r' (refused_with n) bs' ds') e)
  where
    go : Outcome r b bs ds (leaves r' (refused_with n) bs' ds') → Unchanged r r' n bs bs' ds ds'
    go (left_alone q) =
        let z : n ≡ fault.Unusable = ap (λ (o : After). fault_in o.answer) q in
        let same : r' ≡ r = ap (λ (o : After). o.rec) q in
        record {
          same_bands = ap (λ (o : After). o.bands) q;
          same_dots = ap (λ (o : After). o.dots) q;
          same_count = ap (λ (x : Receiver). x.bands) same;
          not_taken = λ _. same;
          searches = λ h. absurd (h z);
        }
    go (was_taken q long) =
        let l : Left r bs ds (taken r.phase r b bs ds) n = taken_left r.phase r b bs ds n (sym (ap (λ (o : After). o.answer) q)) in
        record {
          same_bands = ap (λ (o : After). o.bands) q ∙ l.same_bands;
          same_dots = ap (λ (o : After). o.dots) q ∙ l.same_dots;
          same_count = ap (λ (o : After). o.rec.bands) q ∙ l.same_count;
          not_taken = λ h. absurd (omega (arith, l.low_number, ap number_of h));
          searches = λ _. ap (λ (o : After). o.rec.phase) q ∙ l.searches;
        }

pub roomy : (bytes : List ℕ) (r r' : Receiver) (bs bs' ds ds' : List ℕ) (a : Answered) (b : ℕ) → Stream bytes r bs → Steps r b bs ds r' a bs' ds' → 5760 ≤ length bs → 5760 ≤ length ds
    → leaves r' a bs' ds' ≡ taken r.phase r b bs ds
unfolding step_in
roomy bytes r r' bs bs' ds ds' a b s e p q =
    e ∙ ap (λ (t : Bool). cond t (leaves r (refused_with fault.Unusable) bs ds) (taken r.phase r b bs ds)) (usable (length bs) (length ds) r.bands r.have p q (kept s).fine.most (kept s).fine.have_most)

pub always_taken : (bytes : List ℕ) (r r' : Receiver) (bs bs' ds ds' : List ℕ) (a : Answered) (b : ℕ) → Stream bytes r bs
    → Steps r b bs ds r' a bs' ds' → 5760 ≤ length bs → 5760 ≤ length ds → a ≡ refused_with fault.Unusable → ⊥
always_taken bytes r r' bs bs' ds ds' a b s e p q is36 =
    let o : leaves r' a bs' ds' ≡ taken r.phase r b bs ds = roomy bytes r r' bs bs' ds ds' a b s e p q in
    let l : Left r bs ds (taken r.phase r b bs ds) fault.Unusable = taken_left r.phase r b bs ds fault.Unusable (sym (ap (λ (x : After). x.answer) o) ∙ is36) in
    absurd (omega (arith, l.low_number))

pub received_plainly : ReceivedPlainly
received_plainly = record { reads = shown; answers = answered; prints = dotted; takes = always_taken; refuses = unchanged }
