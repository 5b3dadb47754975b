-- Laws of bytes that are put at places of an output. Assumes nothing.
use mathlib.Core.Path.{◌≡◌, refl, sym, ap, ap₂, subst, ◌∙◌}
use mathlib.Core.List.{List, [], ◌∷◌, ◌++◌, append_assoc, append-nil}
use Prim.Native.Nat.{ℕ, ◌+◌, ◌-◌, ◌<◌, ◌≤◌}
use native.Mathlib.Omega.{arith}
use lib.ListN.{length, take, drop, length-append, length-drop, take-append-drop, drop_of_length-le}
use lib.Seq.{take_all, drop-drop, take-append_seam, drop-append-add, drop-append_seam, drop_at}
use Rattle.buffers.specs.Buffers.{written}
use Rattle.buffers.proofs.Buffers.{written-room, too_short, length-written}
use Rattle.gdi_rows.specs.Places.{put_at}

-- the output keeps its length
pub length_put : (bytes : List ℕ) (at : ℕ) (out : List ℕ) → length (put_at bytes at out) ≡ length out
unfolding put_at
length_put bytes at out =
    length-append (take at out) (written bytes (drop at out))
    ∙ ap (λ (n : ℕ). length (take at out) + n) (length-written bytes (drop at out))
    ∙ sym (length-append (take at out) (drop at out))
    ∙ ap length (take-append-drop at out)

-- where there is room
put_room : (bytes : List ℕ) (at : ℕ) (out : List ℕ) → at + length bytes ≤ length out
    → put_at bytes at out ≡ take at out ++ (bytes ++ drop (at + length bytes) out)
unfolding put_at
put_room bytes at out h =
    let l : length bytes ≤ length (drop at out) = omega (arith, length-drop at out) in
    rw (written-room bytes (drop at out) l, drop-drop (length bytes) at out) refl

-- bytes put into the part from `at` on
pub put_part : (bytes : List ℕ) (at : ℕ) (out : List ℕ) {part : List ℕ} → at ≤ length out → part ≡ written bytes (take (length out - at) (drop at out))
    → take at out ++ (part ++ drop (length out - at) (drop at out)) ≡ put_at bytes at out
unfolding put_at
put_part bytes at out {part} h e =
    let l : length (drop at out) ≤ length out - at = omega (arith, length-drop at out) in
    ap₂ (λ (x y : List ℕ). take at out ++ (x ++ y)) (e ∙ ap (written bytes) (take_all (length out - at) (drop at out) l)) (drop_of_length-le (drop at out) l)
    ∙ ap (λ (x : List ℕ). take at out ++ x) (append-nil (written bytes (drop at out)))

written_nil : (bytes : List ℕ) → written bytes [] ≡ []
written_nil [] = written-room [] [] (omega arith)
written_nil (b ∷ bytes) = sym (too_short (b ∷ bytes) [] (omega arith))

-- a place past the end
pub put_past : (bytes : List ℕ) (at : ℕ) (out : List ℕ) → length out < at → out ≡ put_at bytes at out
unfolding put_at
put_past bytes at out h =
    let l : length out ≤ at = omega arith in
    sym (ap₂ ◌++◌ (take_all at out l) (ap (written bytes) (drop_of_length-le out l) ∙ written_nil bytes) ∙ append-nil out)

-- Where the output has room for these bytes, it holds them at its beginning, and beyond them what it held.
pub record Held (out₀ bytes out : List ℕ) : Type 0 where
  pub size : length out ≡ length out₀
  pub made : length bytes ≤ length out₀ → out ≡ bytes ++ drop (length bytes) out₀

pub held_none : (out : List ℕ) → Held out [] out
held_none out = record { size = refl; made = λ h. refl }

pub held_as : {out₀ bytes bytes' out : List ℕ} → Held out₀ bytes out → bytes ≡ bytes' → Held out₀ bytes' out
held_as {out₀} {out = out} h e = subst (λ (b : List ℕ). Held out₀ b out) e h

-- bytes put after them
pub held_more : (out₀ bytes more : List ℕ) {out out' : List ℕ} {at : ℕ} → Held out₀ bytes out → at ≡ length bytes → out' ≡ put_at more at out
    → Held out₀ (bytes ++ more) out'
held_more out₀ bytes more {out} {out'} {at} h a e =
    record {
      size = ap length e ∙ length_put more at out ∙ h.size;
      made = λ l.
          let n = length-append bytes more in
          let rest = drop (length bytes) out₀ in
          let was = h.made (omega arith) in
          e ∙ put_room more at out (omega (arith, h.size))
          ∙ ap₂ (λ (i : ℕ) (o : List ℕ). take i o ++ (more ++ drop (i + length more) o)) a was
          ∙ ap₂ (λ (x y : List ℕ). x ++ (more ++ y)) (take-append_seam bytes rest)
          (drop-append-add bytes rest (length more) ∙ drop-drop (length more) (length bytes) out₀ ∙ ap (λ (i : ℕ). drop i out₀) (sym n))
          ∙ sym (append_assoc bytes more (drop (length (bytes ++ more)) out₀));
    }

-- bytes put over as many of them
pub held_over : (out₀ a b c b' : List ℕ) {out out' : List ℕ} {at : ℕ} → Held out₀ (a ++ (b ++ c)) out → at ≡ length a → length b' ≡ length b
    → out' ≡ put_at b' at out → Held out₀ (a ++ (b' ++ c)) out'
held_over out₀ a b c b' {out} {out'} {at} h p q e =
    record {
      size = ap length e ∙ length_put b' at out ∙ h.size;
      made = λ l.
          let n : length (a ++ (b' ++ c)) ≡ length (a ++ (b ++ c)) = simp length-append (omega arith) in
          let m : length (a ++ (b ++ c)) ≡ length a + (length b + length c) = simp length-append refl in
          let rest = drop (length (a ++ (b ++ c))) out₀ in
          let was = h.made (omega arith) ∙ append_assoc a (b ++ c) rest ∙ ap (λ (x : List ℕ). a ++ x) (append_assoc b c rest) in
          e ∙ put_room b' at out (omega (arith, h.size))
          ∙ ap₂ (λ (i : ℕ) (o : List ℕ). take i o ++ (b' ++ drop (i + length b') o)) p was
          ∙ ap₂ (λ (x y : List ℕ). x ++ (b' ++ y)) (take-append_seam a (b ++ (c ++ rest)))
          (drop-append-add a (b ++ (c ++ rest)) (length b') ∙ drop_at b (c ++ rest) (length b') (sym q) ∙ ap (λ (i : ℕ). c ++ drop i out₀) (sym n))
          ∙ ap (λ (x : List ℕ). a ++ x) (sym (append_assoc b' c (drop (length (a ++ (b' ++ c))) out₀)))
          ∙ sym (append_assoc a (b' ++ c) (drop (length (a ++ (b' ++ c))) out₀));
    }

-- what an output holds, it holds of itself
pub held_self : {out₀ bytes out : List ℕ} → Held out₀ bytes out → Held out bytes out
held_self {out₀} {bytes} {out} h =
    record {
      size = refl;
      made = λ l.
          let e = h.made (omega (arith, h.size)) in
          e ∙ sym (ap (λ (o : List ℕ). bytes ++ drop (length bytes) o) e ∙ ap (λ (x : List ℕ). bytes ++ x) (drop-append_seam bytes (drop (length bytes) out₀)));
    }

-- and of the output before, where no fewer bytes were put since
pub held_before : {out₀ first out₁ bytes out : List ℕ} → Held out₀ first out₁ → length first ≤ length bytes → Held out₁ bytes out → Held out₀ bytes out
held_before {out₀} {first} {out₁} {bytes} {out} h l g =
    record {
      size = g.size ∙ h.size;
      made = λ m.
          let k = length bytes - length first in
          let e : length first + k ≡ length bytes = omega arith in
          g.made (omega (arith, h.size))
          ∙ ap (λ (x : List ℕ). bytes ++ x)
          (ap₂ drop (sym e) (h.made (omega arith)) ∙ drop-append-add first (drop (length first) out₀) k ∙ drop-drop k (length first) out₀
          ∙ ap (λ (i : ℕ). drop i out₀) e);
    }
