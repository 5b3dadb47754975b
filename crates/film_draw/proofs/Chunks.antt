-- Laws of a band's dots, counted chunk by chunk: what is counted, and what is left. Assumes nothing.
use mathlib.Core.Path.{◌≡◌, refl, ap, ◌∙◌, sym}
use mathlib.Core.List.{List, [], ◌∷◌, ◌++◌}
use Prim.Native.Nat.{ℕ, ◌+◌, ◌-◌, ◌*◌, ◌%◌, ◌^◌, ◌<◌, ◌≤◌, min}
use native.Mathlib.Nat.{add-mod_left, mod-eq_of_lt}
use native.Mathlib.Omega.{arith}
use lib.ListN.{length, length-append}
use Rattle.row.specs.Counts.{ones_of}
use Rattle.row.proofs.Counts.{ones-append}

-- `dots` of the n one bits are counted, and the others stand in `rest`, which is whole rows of w bytes
pub record Chunked (n w dots : ℕ) (rest : List ℕ) : Type 0 where
  pub sum : dots + ones_of rest ≡ n
  pub cut : length rest % w ≡ 0

-- the next row is counted
pub chunk_counted : {n w dots m : ℕ} {rest rest' : List ℕ} (row : List ℕ) → Chunked n w dots rest → n ≤ 8 * 65536 → rest ≡ row ++ rest' → length row ≡ w
    → m ≡ min (ones_of row) (2 ^ 64 - 1) → (dots + m ≤ 8 * 65536) × Chunked n w (dots + m) rest'
chunk_counted {n} {w} {dots} {m} {rest} {rest'} row c few e l h =
    let parts : ones_of rest ≡ ones_of row + ones_of rest' = ap ones_of e ∙ ones-append row rest' in
    let len : length rest ≡ w + length rest' = ap length e ∙ length-append row rest' ∙ ap (λ (k : ℕ). k + length rest') l in (
      omega (arith, c.sum, parts),
      record { sum = omega (arith, c.sum, parts); cut = sym (ap (λ (k : ℕ). k % w) len ∙ add-mod_left w (length rest')) ∙ c.cut },
    )

none-left : (rest : List ℕ) → length rest ≡ 0 → ones_of rest ≡ 0
unfolding ones_of
none-left [] e = refl
none-left (b ∷ rest) e = absurd (omega arith)

-- no row is left
pub chunks_counted : {n w dots : ℕ} {rest : List ℕ} → Chunked n w dots rest → length rest < w → dots ≡ n
chunks_counted {n} {w} {dots} {rest} c l = omega (arith, c.sum, none-left rest (sym (mod-eq_of_lt l) ∙ c.cut))
