-- Whatever comes makes a stream. Assumes nothing.
use mathlib.Core.Path.{◌≡◌, refl, sym, ap, ◌∙◌, subst}
use mathlib.Core.Bool.{Bool, true, false, cond}
use mathlib.Core.List.{List, [], ◌∷◌, ◌++◌, append_assoc, append-nil}
use Prim.Native.Nat.{ℕ, zero, suc, ◌+◌, ◌*◌, ◌≤◌}
use native.Mathlib.Omega.{arith}
use lib.Dec.{eqb}
use lib.ListN.{length, take, drop, length-append, length-drop}
use lib.Seq.{length-take-le}
use Rattle.std.proofs.Common.{Ok}
use Rattle.refusal.specs.declared.Fault.TheVariants as fault
use Rattle.strip.specs.declared.Receiver.{Receiver}
use Rattle.strip.specs.declared.Phase.{Phase}
use Rattle.strip.specs.declared.Phase.TheVariants.{Hunt, Mark, Command, Indicator, Low, High, Body, SumLow, SumHigh, ClockFirst, ClockSecond}
use Rattle.strip.specs.declared.Answer.TheVariants.{Reply}
use Rattle.strip.specs.Packets.{fitting, number, add16}
use Rattle.strip.specs.Dots.{listed, four_dots, printed}
use Rattle.strip.specs.Actions.{Action, initialize, add, end_page, print, inquire, refuse, action}
use Rattle.strip.specs.Step.{After, leaves, refused_with, noted, at, placed, carried, taken, step_of, with_status, new_record}
use Rattle.strip.specs.Streams.{Stream, new, took, host, body_of}
use Rattle.strip.specs.Witness.{Happening, comes, sets, bytes_of, outcome_of, Bytes, EveryStream}
use Rattle.strip.proofs.Refines.{Bounded, bounded}
use Rattle.strip.proofs.Streams.{kept, roomy, always_taken}

-- ---- no byte shortens a buffer

length-listed : (f : ℕ → ℕ) (i n : ℕ) → length (listed f i n) ≡ n
unfolding listed
length-listed f i zero = refl
length-listed f i (suc n) = ap suc (length-listed f (suc i) n)

pub record Room (o : After) : Type 0 where
  pub in_bands : 5760 ≤ length o.bands
  pub in_dots : 5760 ≤ length o.dots

module _ (r : Receiver) (bs ds : List ℕ) (p : 5760 ≤ length bs) (q : 5760 ≤ length ds) where
  carried-room : r.bands ≤ 9 → (act : Action) → Bounded r.bands act → Room (carried r act bs ds)
  unfolding printed
  carried-room m initialize a = record { in_bands = p; in_dots = q }
  carried-room m (add band) a =
      let n : ℕ = r.bands in
      let l : length (placed bs n band) ≡ length (take (640 * n) bs) + (length band + length (drop (640 * n + 640) bs))
      = length-append (take (640 * n) bs) (band ++ drop (640 * n + 640) bs) ∙ ap (λ (x : ℕ). length (take (640 * n) bs) + x) (length-append band (drop (640 * n + 640) bs)) in
      record { in_bands = omega (arith, l, a.0, a.1, length-take-le (640 * n) bs (omega (arith, a.1)), length-drop (640 * n + 640) bs); in_dots = q }
  carried-room m end_page a = record { in_bands = p; in_dots = q }
  carried-room m (print palette margins density) a =
      let n : ℕ = r.bands in
      let f : ℕ → ℕ = four_dots bs palette in
      record { in_bands = p; in_dots = omega (arith, length-append (listed f 0 (640 * n)) (drop (640 * n) ds), length-listed f 0 (640 * n), length-drop (640 * n) ds) }
  carried-room m inquire a = record { in_bands = p; in_dots = q }
  carried-room m (refuse n) a = record { in_bands = p; in_dots = q }

  taken-room : (ph : Phase) (b : ℕ) → r.bands ≤ 9 → Room (taken ph r b bs ds)
  taken-room Hunt b m = record { in_bands = p; in_dots = q }
  taken-room Mark b m = record { in_bands = p; in_dots = q }
  taken-room Command b m = record { in_bands = p; in_dots = q }
  taken-room Indicator b m = record { in_bands = p; in_dots = q }
  taken-room Low b m = record { in_bands = p; in_dots = q }
  taken-room High b m = go (fitting r.command r.indicator (number r.low b))
    where
      rec' : Receiver
      rec' = noted r (cond (eqb (number r.low b) 0) SumLow Body) r.command r.indicator (number r.low b) 0 (add16 r.sum b) r.low

      go : (t : Bool) → Room (cond t (leaves rec' (Ok (Reply 0)) bs ds) (leaves (at r Hunt) (refused_with fault.PacketHeader) bs ds))
      go true = record { in_bands = p; in_dots = q }
      go false = record { in_bands = p; in_dots = q }
  taken-room Body b m = record { in_bands = p; in_dots = q }
  taken-room SumLow b m = record { in_bands = p; in_dots = q }
  taken-room SumHigh b m =
      carried-room m (action r.bands r.command r.indicator (body_of r) r.sum r.low b) (bounded r.bands r.command r.indicator (body_of r) r.sum r.low b)
  taken-room ClockFirst b m = record { in_bands = p; in_dots = q }
  taken-room ClockSecond b m = record { in_bands = p; in_dots = q }

-- ---- so every byte is taken

goes_on : (hs : List Happening) (bytes : List ℕ) (o : After) → Bytes hs → Room o → Stream bytes o.rec o.bands → Stream (bytes ++ bytes_of hs) (outcome_of hs o).rec (outcome_of hs o).bands
unfolding bytes_of outcome_of Bytes
goes_on [] bytes o t m s = subst (λ (l : List ℕ). Stream l o.rec o.bands) (sym (append-nil bytes)) s
goes_on (comes b ∷ hs) bytes o t m s =
    let o' : After = step_of o.rec b o.bands o.dots in
    let k : o' ≡ taken o.rec.phase o.rec b o.bands o.dots
    = roomy bytes o.rec o'.rec o.bands o'.bands o.dots o'.dots o'.answer b s refl m.in_bands m.in_dots in
    let m' : Room o' = subst Room (sym k) (taken-room o.rec o.bands o.dots m.in_bands m.in_dots o.rec.phase b (kept s).fine.most) in
    let no36 : o'.answer ≡ refused_with fault.Unusable → ⊥
    = always_taken bytes o.rec o'.rec o.bands o'.bands o.dots o'.dots o'.answer b s refl m.in_bands m.in_dots in
    subst (λ (l : List ℕ). Stream l (outcome_of hs o').rec (outcome_of hs o').bands) (append_assoc bytes (b ∷ []) (bytes_of hs))
    (goes_on hs (bytes ++ (b ∷ [])) o' t.1 m' (took b t.0 o.dots o'.dots o'.answer refl no36 s))
goes_on (sets v ∷ hs) bytes o t m s =
    goes_on hs bytes (leaves (with_status v o.rec) o.answer o.bands o.dots) t (record { in_bands = m.in_bands; in_dots = m.in_dots }) (host v s)

pub every_stream : EveryStream
every_stream hs a bs ds t p q = goes_on hs [] (leaves new_record a bs ds) t (record { in_bands = p; in_dots = q }) (new bs)
