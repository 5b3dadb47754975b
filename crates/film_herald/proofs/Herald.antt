-- Laws of the herald's sizes. Assumes nothing.
use mathlib.Core.Path.{◌≡◌, refl}
use mathlib.Core.List.{List}
use Prim.Native.Nat.{ℕ, zero, suc, ◌+◌, ◌*◌, ◌-◌, ◌/◌, ◌%◌, ◌<◌, ◌≤◌, min}
use native.Mathlib.Nat.{add-mul, add-zero, div-le_self, div-mul-le_self, mul-le-mul_right, mul_comm, suc-mul}
use native.Mathlib.Omega.{arith}
use Rattle.std.proofs.lemmas.Nat.{div-mul-add, div-add-mod', mod_below}
use Rattle.refusal.specs.Answers.{fine}
use Rattle.film_words.specs.Words.{words, ceil_div}
use Rattle.film_herald.specs.Herald.{Herald, herald_of, band_count, band_start, band_rows, whole_film, band_bytes, row_length}
use Rattle.film_herald.specs.Refusals.{herald_test}
use Rattle.film_herald.proofs.Refusals.{herald_fine}

-- the library's quotient, rounded up, is that of the bands of a page and of the bytes of a row
pub rounded_up : (n d : ℕ) → 0 < d → n / d + min 1 (n % d) ≡ ceil_div n d
rounded_up n d z = go (n % d) refl
  where
    go : (r : ℕ) → n % d ≡ r → n / d + min 1 r ≡ ceil_div n d
    go zero e =
        let whole : n + (d - 1) ≡ n / d * d + (d - 1) = omega (arith, div-add-mod' n d) in
        rw (whole, div-mul-add (n / d) d (d - 1) (omega arith)) (add-zero (n / d))
    go (suc k) e =
        let more : n + (d - 1) ≡ (n / d + 1) * d + k = omega (arith, div-add-mod' n d, add-mul (n / d) 1 d) in
        let low : k < d = omega (arith, mod_below n d z) in
        rw (more, div-mul-add (n / d + 1) d k low) (omega arith)

-- a page has no more bands than the page and a band have lines
few_bands : (h : Herald) → band_count h ≤ h.image_s_size + (h.band_s_size - 1)
unfolding band_count
few_bands h = div-le_self (h.image_s_size + (h.band_s_size - 1)) h.band_s_size

-- band b begins on the page
pub begins : (h : Herald) (b : ℕ) → 0 < h.band_s_size → b < band_count h → band_start h b < h.image_s_size
unfolding band_count
begins h b z l =
    let B = h.band_s_size in
    let x = h.image_s_size + (B - 1) in
    let up : suc b * B ≤ x / B * B = mul-le-mul_right B l in
    omega (arith, div-mul-le_self x B, suc-mul b B, mul_comm b B)

-- the rows of band b of a page take at most 65,536 bytes
pub few_bytes : (sheet load : List ℕ) (b : ℕ) → herald_test sheet load ≡ fine
    → band_bytes (herald_of (words sheet)) (whole_film (herald_of (words sheet))) b ≤ 65536
few_bytes sheet load b f =
    let h = herald_of (words sheet) in
    let fewer : band_rows h b ≤ h.band_s_size = omega arith in
    omega (arith, mul-le-mul_right (row_length h.image_f_size) fewer, (herald_fine sheet load f).band_bytes_lem)

-- a page has at most 65,535 bands
pub most_bands_lem : (sheet load : List ℕ) → herald_test sheet load ≡ fine → band_count (herald_of (words sheet)) ≤ 65535
most_bands_lem sheet load f =
    let x = herald_fine sheet load f in omega (arith, few_bands (herald_of (words sheet)), x.lines_high, x.band_high)
