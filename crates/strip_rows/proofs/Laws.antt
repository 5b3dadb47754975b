-- Laws that the functions' proofs cite, over plain lists and numbers. Assumes nothing.
use mathlib.Core.Path.{◌≡◌, refl, sym, ap, ◌∙◌}
use mathlib.Core.List.{List, [], ◌∷◌, ◌++◌, append_assoc}
use Prim.Native.Nat.{ℕ, zero, suc, ◌+◌, ◌*◌, ◌-◌, ◌/◌, ◌%◌, ◌^◌, ◌<◌}
use native.Mathlib.Omega.{arith}
use native.Mathlib.Numerals.{add-one}
use lib.ListN.{length, get_or, set, drop, replicate}
use lib.Seq.{drop-cons, set_at}
use Rattle.strip.specs.Dots.{bit_at, index_of, shade, tile_byte, dot_of, four_dots, listed, printed}
use Rattle.strip_rows.specs.Table.{four, entry_of}

-- ---- shades

-- a shift by two bits an index
by_twos : (i : ℕ) → i < 4 → 2 ^ (6 - 2 * i) ≡ 4 ^ (3 - i)
by_twos zero h = refl
by_twos (suc zero) h = refl
by_twos (suc (suc zero)) h = refl
by_twos (suc (suc (suc zero))) h = refl
by_twos (suc (suc (suc (suc i)))) h = absurd (omega arith)

pub shade_shifts : (p i : ℕ) → i < 4 → p / 2 ^ (6 - 2 * i) % 4 ≡ shade p i
shade_shifts p i h = ap (λ (x : ℕ). p / x % 4) (by_twos i h)

-- ---- a list, entry by entry

-- d with its first i entries written: f 0, f 1, ..
unfoldable pub written : (f : ℕ → ℕ) (i : ℕ) (d : List ℕ) → List ℕ
written f i d = listed f 0 i ++ drop i d

module _ (f : ℕ → ℕ) where
  listed-length : (i n : ℕ) → length (listed f i n) ≡ n
  unfolding listed
  listed-length i zero = refl
  listed-length i (suc n) = ap suc (listed-length (suc i) n)

  listed_snoc : (i n : ℕ) → listed f i (suc n) ≡ listed f i n ++ (f (i + n) ∷ [])
  unfolding listed
  listed_snoc i zero = ap (λ (x : ℕ). f x ∷ []) (omega arith)
  listed_snoc i (suc n) = ap (λ (l : List ℕ). f i ∷ l) (listed_snoc (suc i) n ∙ ap (λ (x : ℕ). listed f (suc i) n ++ (f x ∷ [])) (omega arith))

  pub begins : (d : List ℕ) → d ≡ written f 0 d
  unfolding written listed
  begins d = refl

  pub goes_on : (d d₀ : List ℕ) (i v : ℕ) → d ≡ written f i d₀ → v ≡ f i → i < length d₀ → set d i v ≡ written f (i + 1) d₀
  unfolding written
  goes_on d d₀ i v e q l =
      ap (λ (x : List ℕ). set x i v) (e ∙ ap (λ (x : List ℕ). listed f 0 i ++ x) (drop-cons d₀ i 0 l))
      ∙ set_at (listed f 0 i) (get_or d₀ i 0) (drop (suc i) d₀) v i (listed-length 0 i)
      ∙ ap (λ (x : ℕ). listed f 0 i ++ (x ∷ drop (suc i) d₀)) (q ∙ ap f (omega arith))
      ∙ sym (append_assoc (listed f 0 i) (f (0 + i) ∷ []) (drop (suc i) d₀))
      ∙ ap (λ (x : List ℕ). x ++ drop (suc i) d₀) (sym (listed_snoc 0 i))
      ∙ ap (λ (x : ℕ). listed f 0 x ++ drop x d₀) (sym (add-one i))

-- ---- four dots by the table

-- four bits of f from place x on are those of g from place y on
abbrev Same : (f x g y : ℕ) → Type 0
Same f x g y =
    (bit_at f x ≡ bit_at g y) × (bit_at f (x + 1) ≡ bit_at g (y + 1)) × (bit_at f (x + 2) ≡ bit_at g (y + 2)) × (bit_at f (x + 3) ≡ bit_at g (y + 3))

left_bits : (b : ℕ) → Same (b / 16) 4 b 0
left_bits b = omega arith

right_bits : (b : ℕ) → Same (b % 16) 4 b 4
right_bits b = omega arith

same-four : (p f s x f' s' x' : ℕ) → Same f x f' x' → Same s x s' x' → four p f s x ≡ four p f' s' x'
same-four p f s x f' s' x' a b =
    λ k. 64 * shade p (a.0 k + 2 * b.0 k) + 16 * shade p (a.1 k + 2 * b.1 k) + 4 * shade p (a.2 k + 2 * b.2 k) + shade p (a.3 k + 2 * b.3 k)

-- the table as it starts
unfoldable pub zeros : List ℕ
zeros = replicate 256 0

-- the table: entry k is four dots by the nibbles of k
abbrev pub IsTable : ℕ → List ℕ → Type 0
IsTable p t = (k : ℕ) → k < 256 → get_or t k 0 ≡ entry_of p k

-- the table at two nibbles
looked_up : (p l h : ℕ) (t : List ℕ) → IsTable p t → l < 16 → h < 16 → get_or t (16 * h + l) 0 ≡ four p l h 4
unfolding entry_of
looked_up p l h t g m n =
    let a : (16 * h + l) % 16 ≡ l = omega arith in
    let b : (16 * h + l) / 16 ≡ h = omega arith in
    g (16 * h + l) (omega arith) ∙ (λ k. four p (a k) (b k) 4)

pub in_bands : (i n : ℕ) → i < 320 * n → tile_byte (i / 20) (8 * (i % 20)) + 1 < 640 * n
in_bands i n h =
    let y : i / 20 < 16 * n = omega arith in
    let t : i / 20 / 8 < 2 * n = omega arith in
    omega arith

module _ (bands : List ℕ) (p i s place at : ℕ) (l : s < 2) (e : place ≡ 2 * i + s) (q : at ≡ tile_byte (i / 20) (8 * (i % 20))) where
  -- the row, and the columns of the four dots, of output byte 2 · i + s
  row : i / 20 ≡ place / 40
  row = omega arith

  column : (j x : ℕ) → j < 4 → x ≡ 4 * (place % 40) + j → (8 * (i % 20) / 8 ≡ x / 8) × (4 * s + j ≡ x % 8)
  column j x m n = omega arith

  dot_at : (j x k : ℕ) → j < 4 → x ≡ 4 * (place % 40) + j → k ≡ 4 * s + j → shade p (index_of (get_or bands at 0) (get_or bands (at + 1) 0) k) ≡ dot_of bands p (place / 40) x
  dot_at j x k m n o =
      let a : at ≡ tile_byte (place / 40) x = q ∙ (λ k. 320 * (row k / 8) + 16 * ((column j x m n).0 k) + 2 * (row k % 8)) in
      let b : k ≡ x % 8 = o ∙ (column j x m n).1 in
      λ k. shade p (index_of (get_or bands (a k) 0) (get_or bands (a k + 1) 0) (b k))

  half : four p (get_or bands at 0) (get_or bands (at + 1) 0) (4 * s) ≡ four_dots bands p place
  unfolding four_dots
  half =
      let x = 4 * (place % 40) in
      let a = dot_at 0 x (4 * s) (omega arith) (omega arith) (omega arith) in
      let b = dot_at 1 (x + 1) (4 * s + 1) (omega arith) refl refl in
      let c = dot_at 2 (x + 2) (4 * s + 2) (omega arith) refl refl in
      let d = dot_at 3 (x + 3) (4 * s + 3) (omega arith) refl refl in
      λ k. 64 * a k + 16 * b k + 4 * c k + d k

  by_table : (t : List ℕ) (v l h : ℕ) → IsTable p t → l < 16 → h < 16 → Same l 4 (get_or bands at 0) (4 * s) → Same h 4 (get_or bands (at + 1) 0) (4 * s)
      → v ≡ get_or t (16 * h + l) 0 → v ≡ four_dots bands p place
  by_table t v l h g m n a b u = u ∙ looked_up p l h t g m n ∙ same-four p l h 4 (get_or bands at 0) (get_or bands (at + 1) 0) (4 * s) a b ∙ half

-- a turn of the loop
module _ (bands t d d₀ : List ℕ) (p i at v w : ℕ) where
  pub pair_goes_on : at ≡ tile_byte (i / 20) (8 * (i % 20)) → IsTable p t → get_or bands at 0 < 256 → get_or bands (at + 1) 0 < 256
      → v ≡ get_or t (16 * (get_or bands (at + 1) 0 / 16) + get_or bands at 0 / 16) 0 → w ≡ get_or t (16 * (get_or bands (at + 1) 0 % 16) + get_or bands at 0 % 16) 0
      → 2 * i + 1 < length d₀ → d ≡ written (four_dots bands p) (2 * i) d₀ → set (set d (2 * i) v) (2 * i + 1) w ≡ written (four_dots bands p) (2 * (i + 1)) d₀
  pair_goes_on q g m n x y l e =
      let left : v ≡ four_dots bands p (2 * i) = by_table bands p i 0 (2 * i) at (omega arith) (omega arith) q t v _ _ g (omega arith) (omega arith) (left_bits (get_or bands at 0)) (left_bits (get_or bands (at + 1) 0)) x in
      let right : w ≡ four_dots bands p (2 * i + 1) = by_table bands p i 1 (2 * i + 1) at (omega arith) refl q t w _ _ g (omega arith) (omega arith) (right_bits (get_or bands at 0)) (right_bits (get_or bands (at + 1) 0)) y in
      goes_on (four_dots bands p) (set d (2 * i) v) d₀ (2 * i + 1) w (goes_on (four_dots bands p) d d₀ (2 * i) v e left (omega arith)) right l
      ∙ ap (λ (x : ℕ). written (four_dots bands p) x d₀) (omega arith)

-- ---- the rows

pub ends : (bands : List ℕ) (n palette : ℕ) (d d₀ : List ℕ) (i : ℕ) → d ≡ written (four_dots bands palette) (2 * i) d₀ → i ≡ 320 * n → d ≡ printed bands n palette d₀
unfolding printed written
ends bands n palette d d₀ i e q = let r : 2 * i ≡ 640 * n = omega arith in e ∙ ap (λ (x : ℕ). written (four_dots bands palette) x d₀) r
