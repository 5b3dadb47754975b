-- Laws that the functions' proofs cite, over plain lists and numbers. Assumes nothing.
use mathlib.Core.Path.{◌≡◌, refl, sym, ap, ◌∙◌, subst}
use Rattle.std.proofs.Common.{Option, Some, None}
use mathlib.Core.Bool.{true, false, cond}
use mathlib.Core.List.{List, [], ◌∷◌, ◌++◌, append_assoc, append-nil}
use Prim.Native.Nat.{ℕ, zero, suc, ◌+◌, ◌-◌, ◌%◌, ◌≤◌, ◌<◌}
use native.Mathlib.Omega.{arith}
use native.Mathlib.Numerals.{add-one}
use borrow.Author.Tests.{le-leb, lt-leb, eq-eqb, ne_eqb}
use lib.Dec.{eqb}
use lib.ListN.{length, get_or, take, drop, set, replicate, length-append, length-replicate, drop_of_length-le, length-set}
use lib.Seq.{length-take-le, take_all, drop-cons, take-suc-set, paste, take-paste, length-paste}
use Rattle.refusal.specs.declared.Fault.TheVariants.{BandBytes}
use Rattle.strip.specs.declared.Run.{Run}
use Rattle.strip.specs.declared.Run.TheVariants.{First, Copied, Literal}
use Rattle.strip.specs.Coding.{Expansion, whole, cut, after, run_of, left_of, at_end, expand_from}
use Rattle.strip.specs.Actions.{Action, add, refuse, of_expansion}
use Rattle.strip_band.specs.declared.Filled.{Filled}
use Rattle.strip_band.specs.Puts.{expansion_from, Puts}

-- ---- runs

pub opens_copied : (b : ℕ) → 128 ≤ b → Copied (b % 128 + 2) ≡ run_of b
opens_copied b h = rw (le-leb 128 b h)

pub opens_literal : (b : ℕ) → b < 128 → Literal b ≡ run_of b
opens_literal b h = rw (lt-leb 128 b h)

pub left_none : (n : ℕ) → n ≡ 0 → First ≡ left_of n
left_none n h = rw h

pub left_some : (n : ℕ) → (n ≡ 0 → ⊥) → Literal (n - 1) ≡ left_of n
left_some zero h = absurd (h refl)
left_some (suc n) h = ap Literal (omega arith)

-- ---- expansions

after_none : (e : Expansion) → after [] e ≡ e
after_none (whole x) = refl
after_none cut = refl

after-after : (a b : List ℕ) (e : Expansion) → after a (after b e) ≡ after (a ++ b) e
after-after a b (whole x) = ap whole (sym (append_assoc a b x))
after-after a b cut = refl

too_long : (a : List ℕ) (e : Expansion) → 640 < length a → of_expansion (after a e) ≡ refuse BandBytes
too_long a cut h = refl
too_long a (whole x) h = let n : eqb (length (a ++ x)) 640 ≡ false = ne_eqb (length (a ++ x)) 640 (λ q. omega (arith, length-append a x)) in rw n

abbrev pub filled : Run → ℕ → Filled
filled run at = record { run = run; at = at }

module _ (f : Filled) (b : ℕ) (out : List ℕ) (long : length out ≡ 640) (le : f.at ≤ 640) where
  put : (g : Filled) (out' : List ℕ) → length out' ≡ 640 → g.at ≤ 640 → ((bytes : List ℕ) → expansion_from out f.at (b ∷ bytes) f.run ≡ expansion_from out' g.at bytes g.run)
      → Puts f b out (Some g) out'
  put g out' l m s = record {
    long = l;
    same = λ h q. let e : g ≡ h = cc in subst (λ (x : Filled). (x.at ≤ 640) × ((bytes : List ℕ) → expansion_from out f.at (b ∷ bytes) f.run ≡ expansion_from out' x.at bytes x.run)) e (m, s);
    over = λ q. absurd cc;
  }

  pub put_first : (run : Run) → f.run ≡ First → run ≡ run_of b → Puts f b out (Some (filled run f.at)) out
  unfolding expand_from
  put_first run p e = put (filled run f.at) out long le (λ bytes. ap (λ (x : Run). after (take f.at out) (expand_from (b ∷ bytes) x)) p ∙ ap (λ (x : Run). after (take f.at out) (expand_from bytes x)) (sym e))

  -- a byte that gives the bytes `front` and leaves a run
  module _ (next : Run) (front : List ℕ) (gives : (bytes : List ℕ) → expand_from (b ∷ bytes) f.run ≡ after front (expand_from bytes next)) where
    joined : (bytes : List ℕ) → expansion_from out f.at (b ∷ bytes) f.run ≡ after (take f.at out ++ front) (expand_from bytes next)
    joined bytes = ap (after (take f.at out)) (gives bytes) ∙ after-after (take f.at out) front (expand_from bytes next)

    put_over : 640 < f.at + length front → Puts f b out None out
    put_over h = record {
      long = long;
      same = λ g q. absurd cc;
      over = λ _ bytes. ap of_expansion (joined bytes) ∙ too_long (take f.at out ++ front) (expand_from bytes next) (omega (arith, length-append (take f.at out) front, length-take-le f.at out (omega arith)));
    }

    put_fits : (out' : List ℕ) (run : Run) (at : ℕ) → run ≡ next → length out' ≡ 640 → at ≤ 640 → take at out' ≡ take f.at out ++ front → Puts f b out (Some (filled run at)) out'
    put_fits out' run at r p l t =
        put (filled run at) out' p l (λ bytes. joined bytes ∙ ap (λ (x : Run). after (take f.at out ++ front) (expand_from bytes x)) (sym r) ∙ ap (λ (x : List ℕ). after x (expand_from bytes run)) (sym t))

  pub copied_over : (n : ℕ) → f.run ≡ Copied n → 640 < f.at + n → Puts f b out None out
  unfolding expand_from
  copied_over n p h = put_over First (replicate n b) (λ bytes. ap (expand_from (b ∷ bytes)) p) (omega (arith, length-replicate n b))

  pub copied_fits : (n : ℕ) (out' : List ℕ) → f.run ≡ Copied n → f.at + n ≤ 640 → out' ≡ paste out f.at (replicate n b) n → Puts f b out (Some (filled First (f.at + n))) out'
  unfolding expand_from
  copied_fits n out' p l e =
      let m : n ≤ length (replicate n b) = omega (arith, length-replicate n b) in
      let t : take (f.at + n) out' ≡ take f.at out ++ replicate n b
      = ap (take (f.at + n)) e ∙ take-paste out f.at (replicate n b) n (omega arith) m ∙ ap (λ (x : List ℕ). take f.at out ++ x) (take_all n (replicate n b) (omega (arith, length-replicate n b))) in
      put_fits First (replicate n b) (λ bytes. ap (expand_from (b ∷ bytes)) p) out' First (f.at + n) refl (ap length e ∙ length-paste out f.at (replicate n b) n (omega arith) m ∙ long) l t

  pub literal_over : (n : ℕ) → f.run ≡ Literal n → f.at ≡ 640 → Puts f b out None out
  unfolding expand_from
  literal_over n p h = put_over (left_of n) (b ∷ []) (λ bytes. ap (expand_from (b ∷ bytes)) p) (omega arith)

  pub literal_fits : (n : ℕ) (run : Run) → f.run ≡ Literal n → (f.at ≡ 640 → ⊥) → run ≡ left_of n → Puts f b out (Some (filled run (f.at + 1))) (set out f.at b)
  unfolding expand_from
  literal_fits n run p h e =
      let l : f.at < 640 = omega arith in
      let t : take (f.at + 1) (set out f.at b) ≡ take f.at out ++ (b ∷ []) = rw (add-one f.at) (take-suc-set out f.at b (omega arith)) in
      put_fits (left_of n) (b ∷ []) (λ bytes. ap (expand_from (b ∷ bytes)) p) (set out f.at b) run (f.at + 1) e (length-set out f.at b ∙ long) (omega arith) t

-- ---- the end of a body

pub is_band : (x : List ℕ) → length x ≡ 640 → of_expansion (whole x) ≡ add x
is_band x h = rw (eq-eqb (length x) 640 h)

pub no_band : (x : List ℕ) → (length x ≡ 640 → ⊥) → of_expansion (whole x) ≡ refuse BandBytes
no_band x h = rw (ne_eqb (length x) 640 h)

module _ (f : Filled) (out : List ℕ) where
  ends_first : (x : Action) → f.run ≡ First → of_expansion (whole (take f.at out)) ≡ x → of_expansion (expansion_from out f.at [] f.run) ≡ x
  unfolding expand_from
  ends_first x p e = ap (λ (r : Run). of_expansion (after (take f.at out) (at_end r))) p ∙ ap (λ (l : List ℕ). of_expansion (whole l)) (append-nil (take f.at out)) ∙ e

  pub ends_whole : f.run ≡ First → f.at ≡ 640 → length out ≡ 640 → of_expansion (expansion_from out f.at [] f.run) ≡ add out
  ends_whole p q long = ends_first (add out) p (ap (λ (l : List ℕ). of_expansion (whole l)) (take_all f.at out (omega arith)) ∙ is_band out long)

  pub ends_short : f.run ≡ First → (f.at ≡ 640 → ⊥) → f.at ≤ 640 → length out ≡ 640 → of_expansion (expansion_from out f.at [] f.run) ≡ refuse BandBytes
  ends_short p h le long = ends_first (refuse BandBytes) p (no_band (take f.at out) (λ q. h (sym (length-take-le f.at out (omega arith)) ∙ q)))

  pub ends_cut : (f.run ≡ First → ⊥) → of_expansion (expansion_from out f.at [] f.run) ≡ refuse BandBytes
  unfolding expand_from
  ends_cut h = go f.run h
    where
      go : (x : Run) → (x ≡ First → ⊥) → of_expansion (after (take f.at out) (at_end x)) ≡ refuse BandBytes
      go First k = absurd (k refl)
      go (Copied n) k = refl
      go (Literal n) k = refl

-- ---- a coded body

pub expand_begins : (out body : List ℕ) → expansion_from out 0 (drop 0 body) First ≡ expand_from body First
expand_begins out body = after_none (expand_from body First)

module _ (body out out' : List ℕ) (i : ℕ) (f : Filled) (new : Option Filled) (l : i < length body) (p : Puts f (get_or body i 0) out new out')
    (e : expansion_from out f.at (drop i body) f.run ≡ expand_from body First) where
  -- the next byte, and those after it
  parts : expansion_from out f.at (drop i body) f.run ≡ expansion_from out f.at (get_or body i 0 ∷ drop (i + 1) body) f.run
  parts = ap (λ (x : List ℕ). expansion_from out f.at x f.run) (rw (add-one i) (drop-cons body i 0 l))

  pub expand-more : (g : Filled) → new ≡ Some g → expansion_from out' g.at (drop (i + 1) body) g.run ≡ expand_from body First
  expand-more g q = sym ((p.same g q).1 (drop (i + 1) body)) ∙ sym parts ∙ e

  pub expand_over : new ≡ None → of_expansion (expand_from body First) ≡ refuse BandBytes
  expand_over q = ap of_expansion (sym e ∙ parts) ∙ p.over q (drop (i + 1) body)

pub expand-ends : (body out : List ℕ) (i : ℕ) (f : Filled) (x : Action) → length body ≤ i → expansion_from out f.at (drop i body) f.run ≡ expand_from body First
    → of_expansion (expansion_from out f.at [] f.run) ≡ x → of_expansion (expand_from body First) ≡ x
expand-ends body out i f x l e q = ap of_expansion (sym e ∙ ap (λ (y : List ℕ). expansion_from out f.at y f.run) (drop_of_length-le body {i = i} l)) ∙ q

-- ---- plain or coded

module _ (i : ℕ) (plain coded : Expansion) (x : Action) where
  pub is_plain : i ≡ 0 → of_expansion plain ≡ x → of_expansion (cond (eqb i 0) plain coded) ≡ x
  is_plain h e = let t : eqb i 0 ≡ true = eq-eqb i 0 h in rw t e

  pub is_coded : (i ≡ 0 → ⊥) → of_expansion coded ≡ x → of_expansion (cond (eqb i 0) plain coded) ≡ x
  is_coded h e = let t : eqb i 0 ≡ false = ne_eqb i 0 h in rw t e
