-- Laws of bytes that are put into a buffer, one by one from the front. Assumes nothing.
use mathlib.Core.Path.{◌≡◌, refl, sym, ap, subst, ◌∙◌}
use mathlib.Core.List.{List, [], ◌∷◌, ◌++◌}
use Prim.Native.Nat.{ℕ, suc, ◌+◌, ◌<◌, ◌≤◌}
use native.Mathlib.Numerals.{add-one}
use native.Mathlib.Omega.{arith}
use native.Mathlib.Decide.{dec_le}
use borrow.Author.Tests.{le-leb, lt-leb}
use lib.ListN.{length, get_or, take, drop, set, length-append, length-drop, length-set}
use lib.Seq.{take-suc, drop-cons, set_at, append_snoc, take-length, length-take-le}
use Rattle.std.proofs.Common.{Some, None}
use Rattle.buffers.specs.Buffers.{written, count}

-- the first i of the bytes are put into the buffer, which has room for all of them
pub record Begun (bytes out₀ : List ℕ) (i : ℕ) (out : List ℕ) : Type 0 where
  pub room : length bytes ≤ length out₀
  pub within : i ≤ length bytes
  pub size : length out ≡ length out₀
  pub made : out ≡ take i bytes ++ drop i out₀

pub begun_first : {bytes out : List ℕ} → length bytes ≤ length out → Begun bytes out 0 out
begun_first h = record { room = h; within = omega arith; size = refl; made = refl }

pub begun_at : {bytes out₀ out : List ℕ} {i j : ℕ} → Begun bytes out₀ i out → i ≡ j → Begun bytes out₀ j out
begun_at {bytes} {out₀} {out} b e = subst (λ (k : ℕ). Begun bytes out₀ k out) e b

-- the next byte
pub begun_next : {bytes out₀ out : List ℕ} {i v : ℕ} → Begun bytes out₀ i out → i < length bytes → v ≡ get_or bytes i 0
    → Begun bytes out₀ (i + 1) (set out i v)
begun_next {bytes} {out₀} {out} {i} {v} b h e =
    let r = b.room in
    let l : i < length out₀ = omega arith in
    record {
      room = b.room;
      within = omega arith;
      size = length-set out i v ∙ b.size;
      made =
          ap (λ (o : List ℕ). set o i v) (b.made ∙ ap (λ (o : List ℕ). take i bytes ++ o) (drop-cons out₀ i 0 l))
          ∙ set_at (take i bytes) (get_or out₀ i 0) (drop (suc i) out₀) v i (length-take-le i bytes (omega arith))
          ∙ sym (append_snoc (take i bytes) v (drop (suc i) out₀))
          ∙ ap (λ (o : List ℕ). o ++ drop (suc i) out₀) (ap (λ (x : ℕ). take i bytes ++ (x ∷ [])) e ∙ sym (take-suc bytes i 0 h))
          ∙ ap (λ (j : ℕ). take j bytes ++ drop j out₀) (sym (add-one i));
    }

-- all of them
pub written-room : (bytes out : List ℕ) → length bytes ≤ length out → written bytes out ≡ bytes ++ drop (length bytes) out
unfolding written
written-room bytes out h = rw (le-leb _ _ h) refl

pub begun_written : {bytes out₀ out : List ℕ} {i : ℕ} → Begun bytes out₀ i out → i ≡ length bytes → out ≡ written bytes out₀
begun_written {bytes} {out₀} {out} {i} b e =
    b.made ∙ ap (λ (j : ℕ). take j bytes ++ drop j out₀) e ∙ ap (λ (t : List ℕ). t ++ drop (length bytes) out₀) (take-length bytes)
    ∙ sym (written-room bytes out₀ b.room)

pub counted : (bytes out : List ℕ) {i : ℕ} → length bytes ≤ length out → i ≡ length bytes → Some i ≡ count bytes out
unfolding count
counted bytes out h e = rw (le-leb _ _ h) (ap Some e)

-- a buffer that is too short
pub too_short : (bytes out : List ℕ) → length out < length bytes → out ≡ written bytes out
unfolding written
too_short bytes out h = rw (lt-leb _ _ h) refl

pub too_short_count : (bytes out : List ℕ) → length out < length bytes → None ≡ count bytes out
unfolding count
too_short_count bytes out h = rw (lt-leb _ _ h) refl

-- the buffer keeps its length
pub length-written : (bytes out : List ℕ) → length (written bytes out) ≡ length out
length-written bytes out = go (dec_le (length bytes) (length out))
  where
    go : Dec (length bytes ≤ length out) → length (written bytes out) ≡ length out
    go (yes h) = rw (written-room bytes out h) (simp (length-append, length-drop) (omega arith))
    go (no h) = sym (ap length (too_short bytes out (omega arith)))
