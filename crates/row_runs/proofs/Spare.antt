-- Laws of the dots past a width. Assumes nothing.
use mathlib.Core.Path.{◌≡◌, refl, sym, ap, ap₂, ◌∙◌}
use mathlib.Core.Bool.{Bool, true, false, not, ◌&&◌, true≢false, false≢true, and_assoc}
use mathlib.Core.List.{List}
use Prim.Native.Nat.{ℕ, zero, suc, ◌+◌, ◌-◌, ◌*◌, ◌/◌, ◌%◌, ◌^◌, ◌<◌, ◌≤◌, min}
use native.Mathlib.Nat.{add-zero, zero-add, suc-add}
use native.Mathlib.Omega.{arith}
use native.Mathlib.Decide.{dec_lt}
use lib.Bits.{bit_and}
use lib.Dec.{eqb}
use lib.ListN.{length, get_or, take, drop, length-take, length-drop}
use lib.Seq.{drop-cons, get_or-drop}
use Rattle.std.proofs.lemmas.List.{drop_all, drop-drop}
use Rattle.std.proofs.lemmas.Slice.{between_to_end}
use Rattle.std.specs.List.{list_all}
use native.Mathlib.Numerals.{add-one}
use Rattle.row.specs.Dots.{dot_in, dot_at, row_of}
use Rattle.row_runs.specs.Spare.{clear_from, spare_clear}
use Rattle.truth.proofs.Tests.{Is, same_at, from_next}
use Rattle.row.proofs.Dots.{Bytes, dot_in_lem, dot_past, dot_row_of, dot_row_of_past}

-- ---- a stretch of dots that are all 0

pub clear_is : (d : ℕ → Bool) (f n : ℕ) → Is (clear_from d f n) ((g : ℕ) → f ≤ g → g < f + n → d g ≡ false)
unfolding clear_from
clear_is d f zero = record { holds = λ e g h l. absurd (omega arith); said = λ h. refl }
clear_is d f (suc n) = go (d f) refl (clear_is d (suc f) n)
  where
    go : (t : Bool) → d f ≡ t → Is (clear_from d (suc f) n) ((g : ℕ) → suc f ≤ g → g < suc f + n → d g ≡ false)
        → Is (not t && clear_from d (suc f) n) ((g : ℕ) → f ≤ g → g < f + suc n → d g ≡ false)
    go true e rest = record { holds = λ q. absurd (false≢true q); said = λ h. absurd (true≢false (sym e ∙ h f (omega arith) (omega arith))) }
    go false e rest =
        record {
          holds = λ q. from_next (λ g. d g ≡ false) f (f + suc n) e (λ g a b. rest.holds q g a (omega arith));
          said = λ h. rest.said (λ g a b. h g (omega arith) (omega arith));
        }

-- in two parts
clear_add : (d : ℕ → Bool) (f m n : ℕ) → clear_from d f (m + n) ≡ (clear_from d f m && clear_from d (f + m) n)
unfolding clear_from
clear_add d f zero n = ap₂ (clear_from d) (sym (add-zero f)) (zero-add n)
clear_add d f (suc m) n =
    ap (clear_from d f) (suc-add m n)
    ∙ ap (λ (t : Bool). not (d f) && t) (clear_add d (suc f) m n ∙ ap (λ (x : ℕ). clear_from d (suc f) m && clear_from d x n) (omega arith))
    ∙ sym (and_assoc (not (d f)) (clear_from d (suc f) m) (clear_from d (f + suc m) n))

-- the same dots at another place
clear_moved : (d e : ℕ → Bool) (f g n : ℕ) → ((j : ℕ) → j < n → d (f + j) ≡ e (g + j)) → clear_from d f n ≡ clear_from e g n
unfolding clear_from
clear_moved d e f g zero h = refl
clear_moved d e f g (suc n) h =
    ap₂ (λ (x y : Bool). not x && y)
    (ap d (sym (add-zero f)) ∙ h 0 (omega arith) ∙ ap e (add-zero g))
    (clear_moved d e (suc f) (suc g) n (λ j l. ap d (omega arith) ∙ h (suc j) (omega arith) ∙ ap e (omega arith)))

-- the dots of a byte from k on are 0 where a mask of its low 8 - k bits leaves nothing
byte_clear : (b k : ℕ) → b < 256 → k < 8 → clear_from (dot_in b) k (8 - k) ≡ eqb (bit_and b (255 / 2 ^ k)) 0
unfolding clear_from dot_in
byte_clear = same_at 256 8 (λ b k. clear_from (dot_in b) k (8 - k)) (λ b k. eqb (bit_and b (255 / 2 ^ k)) 0) tt

-- ---- the dots past a width, byte by byte

-- the dots of a row from dot k of byte i on
unfoldable pub clear_rest : List ℕ → ℕ → ℕ → Bool
clear_rest row i k = clear_from (dot_at row) (8 * i + k) (8 * length row - (8 * i + k))

pub rest_first : (row : List ℕ) (width : ℕ) → spare_clear row width ≡ clear_rest row (width / 8) (width % 8)
unfolding spare_clear clear_rest
rest_first row width = ap (λ (x : ℕ). clear_from (dot_at row) x (8 * length row - x)) (omega arith)

-- one byte and the bytes after it
rest_byte : (row : List ℕ) (i k : ℕ) → Bytes row → i < length row → k < 8
    → clear_rest row i k ≡ (eqb (bit_and (get_or row i 0) (255 / 2 ^ k)) 0 && clear_rest row (i + 1) 0)
unfolding clear_rest
rest_byte row i k bytes h l =
    let e : 8 * length row - (8 * i + k) ≡ (8 - k) + (8 * length row - (8 * (i + 1) + 0)) = omega arith in
    let n : 8 * i + k + (8 - k) ≡ 8 * (i + 1) + 0 = omega arith in
    ap (clear_from (dot_at row) (8 * i + k)) e
    ∙ clear_add (dot_at row) (8 * i + k) (8 - k) (8 * length row - (8 * (i + 1) + 0))
    ∙ ap₂ (λ (x : Bool) (y : ℕ). x && clear_from (dot_at row) y (8 * length row - (8 * (i + 1) + 0)))
    (clear_moved (dot_at row) (dot_in (get_or row i 0)) (8 * i + k) k (8 - k) (λ j m. ap (dot_at row) (omega arith) ∙ dot_in_lem row i (k + j) (omega arith))
    ∙ byte_clear (get_or row i 0) k (bytes i) l)
    n

-- no byte is left
pub rest_none : (row : List ℕ) (i k : ℕ) → length row ≤ i → clear_rest row i k ≡ true
unfolding clear_rest clear_from
rest_none row i k h = let n : 8 * length row - (8 * i + k) ≡ 0 = omega arith in rw n refl

-- of a byte that is not masked every bit counts
low_byte : (b : ℕ) → b < 256 → eqb (bit_and b 255) 0 ≡ eqb b 0
low_byte b h = same_at 256 1 (λ b k. eqb (bit_and b (255 / 2 ^ k)) 0) (λ b k. eqb b 0) tt b 0 h (omega arith)

-- past the last byte
zero_past : (row : List ℕ) (i : ℕ) → length row ≤ i → list_all (λ b. eqb b 0) (drop i row) ≡ clear_rest row i 0
zero_past row i h = ap (list_all (λ b. eqb b 0)) (drop_all i row h) ∙ sym (rest_none row i 0 h)

-- the bytes from i on, of which there are at most n
rest_zero : (row : List ℕ) (i n : ℕ) → Bytes row → length row ≤ i + n → list_all (λ b. eqb b 0) (drop i row) ≡ clear_rest row i 0
rest_zero row i zero bytes h = zero_past row i (omega arith)
rest_zero row i (suc n) bytes h = go (dec_lt i (length row)) (rest_zero row (i + 1) n bytes (omega arith))
  where
    go : Dec (i < length row) → list_all (λ b. eqb b 0) (drop (i + 1) row) ≡ clear_rest row (i + 1) 0
        → list_all (λ b. eqb b 0) (drop i row) ≡ clear_rest row i 0
    go (no l) later = zero_past row i (omega arith)
    go (yes l) later =
        ap (list_all (λ b. eqb b 0)) (drop-cons row i 0 l)
        ∙ ap₂ ◌&&◌ (sym (low_byte (get_or row i 0) (bytes i))) (ap (λ (m : ℕ). list_all (λ b. eqb b 0) (drop m row)) (sym (add-one i)) ∙ later)
        ∙ sym (rest_byte row i 0 bytes l (omega arith))

-- what `&&` gives, by its first test
pub and_on : {t x r : Bool} → t ≡ true → (t && x) ≡ r → x ≡ r
and_on {t} {x} e h = ap (λ s. s && x) (sym e) ∙ h

pub and_off : {t r : Bool} (x : Bool) → t ≡ false → (t && x) ≡ r → t ≡ r
and_off x e h = e ∙ ap (λ s. s && x) (sym e) ∙ h

-- the bytes from that of dot `width` on, of which the first is masked
pub spare_split : (row spare : List ℕ) (width m : ℕ) → Bytes row → m ≡ min (width / 8) (length row) → spare ≡ take (length row - m) (drop m row) → 0 < length spare
    → (eqb (bit_and (get_or spare 0 0) (255 / 2 ^ (width % 8))) 0 && list_all (λ b. eqb b 0) (take (length spare - 1) (drop 1 spare))) ≡ spare_clear row width
spare_split row spare width m bytes q e h =
    let within : width / 8 < length row = omega (arith, ap length e, length-take (length row - m) (drop m row), length-drop m row) in
    let n : m ≡ width / 8 = omega arith in
    let whole : spare ≡ drop (width / 8) row = e ∙ between_to_end row m (length row) (omega arith) ∙ ap (λ (i : ℕ). drop i row) n in
    let first : get_or spare 0 0 ≡ get_or row (width / 8) 0 =
    ap (λ (l : List ℕ). get_or l 0 0) whole ∙ get_or-drop (width / 8) row 0 0 ∙ ap (λ (i : ℕ). get_or row i 0) (add-zero (width / 8)) in
    let later : take (length spare - 1) (drop 1 spare) ≡ drop (width / 8 + 1) row =
    between_to_end spare 1 (length spare) (omega arith) ∙ ap (drop 1) whole ∙ drop-drop 1 (width / 8) row in
    ap₂ (λ (b : ℕ) (l : List ℕ). eqb (bit_and b (255 / 2 ^ (width % 8))) 0 && list_all (λ b. eqb b 0) l) first later
    ∙ ap (λ (t : Bool). eqb (bit_and (get_or row (width / 8) 0) (255 / 2 ^ (width % 8))) 0 && t) (rest_zero row (width / 8 + 1) (length row) bytes (omega arith))
    ∙ sym (rest_first row width ∙ rest_byte row (width / 8) (width % 8) bytes within (omega arith))

-- no byte is left
pub spare_none : (row : List ℕ) (width m : ℕ) → m ≡ min (width / 8) (length row) → length (take (length row - m) (drop m row)) ≡ 0 → true ≡ spare_clear row width
spare_none row width m q e =
    sym (rest_first row width ∙ rest_none row (width / 8) (width % 8) (omega (arith, length-take (length row - m) (drop m row), length-drop m row)))

-- ---- what a caller learns

-- whether every dot from the width on is 0
pub spare_is : (row : List ℕ) (width : ℕ) → Is (spare_clear row width) ((f : ℕ) → width ≤ f → dot_at row f ≡ false)
unfolding spare_clear
spare_is row width =
    record {
      holds = λ e f h. go f h e (dec_lt f (8 * length row));
      said = λ h. (clear_is (dot_at row) width (8 * length row - width)).said (λ g a b. h g a);
    }
  where
    go : (f : ℕ) → width ≤ f → clear_from (dot_at row) width (8 * length row - width) ≡ true → Dec (f < 8 * length row) → dot_at row f ≡ false
    go f h e (yes l) = (clear_is (dot_at row) width (8 * length row - width)).holds e f h (omega arith)
    go f h e (no n) = dot_past row f (omega arith)

-- a row that a rule gives has its spare dots 0 where the rule has none there
pub spare_row_of : (n : ℕ) (d : ℕ → Bool) (width : ℕ) → ((f : ℕ) → width ≤ f → d f ≡ false) → spare_clear (row_of n d) width ≡ true
spare_row_of n d width h = (spare_is (row_of n d) width).said (λ f l. go f l (dec_lt f (8 * n)))
  where
    go : (f : ℕ) → width ≤ f → Dec (f < 8 * n) → dot_at (row_of n d) f ≡ false
    go f l (yes m) = dot_row_of n d f m ∙ h f l
    go f l (no m) = dot_row_of_past n d f (omega arith)
