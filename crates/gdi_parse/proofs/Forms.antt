-- Laws of forms: the code's walk over a form and bytes, against that of the definitions. Assumes nothing.
use mathlib.Core.Path.{◌≡◌, refl}
use mathlib.Core.Bool.{Bool, true, false, ◌&&◌, ◌||◌}
use mathlib.Core.List.{List, [], ◌∷◌}
use Prim.Native.Nat.{ℕ, suc, ◌+◌, ◌-◌, ◌<◌, ◌≤◌}
use native.Mathlib.Numerals.{add-one}
use native.Mathlib.Omega.{arith}
use borrow.Author.Tests.{ne_eqb, ltb-true}
use lib.Dec.{eqb, ltb}
use lib.ListN.{length, get_or, drop, drop_of_length-le}
use lib.Seq.{drop-cons}
use Rattle.std.specs.Prelude.{Option, Some, None, map}
use Rattle.std.specs.List.{zip, list_all}
use Rattle.gdi_jobs.specs.Groups.{any, fits}
use Rattle.gdi_parse.specs.Forms.{byte_of, all_bytes}

-- ---- the code's walk over a form and bytes

-- whether a form allows a byte
abbrev pub allows : Option ℕ × ℕ → Bool
allows (None, b) = true
allows (Some want, b) = eqb b want

both : (s t : Bool) → (s && t) ≡ true → (s ≡ true) × (t ≡ true)
both true t e = (refl, e)
both false t e = absurd (let z : ◌≡◌ {A = ℕ} 0 1 = cc in omega arith)

pub all-fit : (form : List (Option ℕ)) (bytes : List ℕ) → all_bytes form ≡ true → length form ≤ length bytes
    → list_all allows (zip form bytes) ≡ fits (map byte_of form) bytes
unfolding fits
all-fit [] bytes h l = refl
all-fit (x ∷ form) [] h l = absurd (omega arith)
all-fit (None ∷ form) (b ∷ bytes) h l = all-fit form bytes h (omega arith)
all-fit (Some w ∷ form) (b ∷ bytes) h l =
    let p = both (ltb w 256) (all_bytes form) h in
    let n : eqb w any ≡ false = ne_eqb w any (λ e. omega (arith, ltb-true w 256 p.0)) in
    rw (n, all-fit form bytes p.1 (omega arith)) refl

pub short-fit : (form : List (Option ℕ)) (bytes : List ℕ) → length bytes < length form → fits (map byte_of form) bytes ≡ false
unfolding fits
short-fit [] bytes l = absurd (omega arith)
short-fit (x ∷ form) [] l = refl
short-fit (x ∷ form) (b ∷ bytes) l = rw (short-fit form bytes (omega arith)) (and-false _)
  where
    and-false : (t : Bool) → (t && false) ≡ false
    and-false true = refl
    and-false false = refl

-- ---- a form and the bytes from place `at` on, from their i-th on

unfoldable pub fits_from : (job : List ℕ) (at : ℕ) (form : List ℕ) (i : ℕ) → Bool
fits_from job at form i = fits (drop i form) (drop (at + i) job)

module _ (job : List ℕ) (at : ℕ) (form : List ℕ) (i : ℕ) where
  -- the form has no more
  pub fits-done : length form ≤ i → fits_from job at form i ≡ true
  unfolding fits_from fits
  fits-done h = rw (drop_of_length-le form {i = i} h) refl

  -- the job has no more
  pub fits_short : i < length form → at ≤ length job → length job - at ≤ i → fits_from job at form i ≡ false
  unfolding fits_from fits
  fits_short h l m =
      let e : length job ≤ at + i = omega arith in
      rw (drop-cons form i 0 h, drop_of_length-le job {i = at + i} e) refl

  -- the byte agrees, or not
  pub fits_byte : (t : Bool) → i < length form → at + i < length job → (eqb (get_or form i 0) any || eqb (get_or job (at + i) 0) (get_or form i 0)) ≡ t
      → fits_from job at form i ≡ (t && fits_from job at form (i + 1))
  unfolding fits_from fits
  fits_byte t h l e =
      let n : suc (at + i) ≡ at + (i + 1) = omega arith in
      rw (drop-cons form i 0 h, drop-cons job (at + i) 0 l, e, n, add-one i) refl
