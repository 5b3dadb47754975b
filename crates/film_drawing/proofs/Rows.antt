-- Laws of rows numbered one after another and of rows end to end. Assumes nothing.
use mathlib.Core.Path.{◌≡◌, refl, sym, ap, ◌∙◌}
use mathlib.Core.List.{List, [], ◌∷◌, ◌++◌, append_assoc}
use Prim.Native.Nat.{ℕ, zero, suc, ◌+◌, ◌*◌, ◌-◌, ◌<◌, min}
use native.Mathlib.Nat.{suc-add, add-zero, add-suc, suc-mul, zero-mul, zero-min, min-zero, suc-min-suc, suc-sub-suc, zero-sub, sub-zero}
use native.Mathlib.Omega.{arith}
use lib.ListN.{length, take, drop, length-append, take-append-drop}
use Rattle.row.specs.Counts.{joined}
use Rattle.row.proofs.Dots.{length-row_of}
use Rattle.film_commands.specs.Band.{Stroke}
use Rattle.film_herald.specs.Herald.{Window, row_length}
use Rattle.film_imaging.specs.Pictures.{row_bytes, numbered, rows_of}

-- n rows are n
pub length-numbered : (i n : ℕ) (f : ℕ → List ℕ) → length (numbered i n f) ≡ n
unfolding numbered
length-numbered i zero f = refl
length-numbered i (suc n) f = ap suc (length-numbered (suc i) n f)

-- all but the first j rows
pub drop-numbered : (j i n : ℕ) (f : ℕ → List ℕ) → drop j (numbered i n f) ≡ numbered (i + j) (n - j) f
unfolding numbered
drop-numbered zero i n f = rw (add-zero, sub-zero)
drop-numbered (suc j) i zero f = rw zero-sub
drop-numbered (suc j) i (suc n) f = drop-numbered j (suc i) n f ∙ rw (suc-sub-suc, add-suc, suc-add)

-- the first j rows
pub take-numbered : (j i n : ℕ) (f : ℕ → List ℕ) → take j (numbered i n f) ≡ numbered i (min j n) f
unfolding numbered
take-numbered zero i n f = rw zero-min
take-numbered (suc j) i zero f = rw min-zero
take-numbered (suc j) i (suc n) f = rw suc-min-suc (ap (λ (r : List (List ℕ)). f i ∷ r) (take-numbered j (suc i) n f))

-- rows that are the same one by one
pub numbered-same : (i n : ℕ) (f g : ℕ → List ℕ) → ((k : ℕ) → k < n → f (i + k) ≡ g (i + k)) → numbered i n f ≡ numbered i n g
unfolding numbered
numbered-same i zero f g h = refl
numbered-same i (suc n) f g h =
    let h₀ : f i ≡ g i = rw add-zero at (h 0 (omega arith)) in
    let t : numbered (suc i) n f ≡ numbered (suc i) n g = numbered-same (suc i) n f g (λ k lt. rw (suc-add, ← add-suc) (h (suc k) (omega arith))) in
    λ x. h₀ x ∷ t x

-- rows, then others
joined-append : (a b : List (List ℕ)) → joined (a ++ b) ≡ joined a ++ joined b
unfolding joined
joined-append [] b = refl
joined-append (x ∷ xs) b = ap (λ (r : List ℕ). x ++ r) (joined-append xs b) ∙ sym (append_assoc x (joined xs) (joined b))

-- the first n rows, and the rest
pub joined-cut : (n : ℕ) (l : List (List ℕ)) → joined (take n l) ++ joined (drop n l) ≡ joined l
joined-cut n l = sym (joined-append (take n l) (drop n l)) ∙ ap joined (take-append-drop n l)

-- n rows of w bytes each
length-joined : (w i n : ℕ) (f : ℕ → List ℕ) → ((s : ℕ) → length (f s) ≡ w) → length (joined (numbered i n f)) ≡ n * w
unfolding numbered joined
length-joined w i zero f h = rw zero-mul
length-joined w i (suc n) f h =
    length-append (f i) (joined (numbered (suc i) n f)) ∙ rw suc-mul (omega (arith, h i, length-joined w (suc i) n f h))

-- no more rows than there are
pub take_min : (n : ℕ) (l : List (List ℕ)) → take (min n (length l)) l ≡ take n l
take_min zero l = rw zero-min
take_min (suc n) [] = rw min-zero
take_min (suc n) (x ∷ l) = rw suc-min-suc (ap (λ (r : List (List ℕ)). x ∷ r) (take_min n l))

-- the rows of a film on which strokes were carried out
pub length_rows : (w : Window) (first rows : ℕ) (ks : List Stroke) → length (joined (rows_of w first rows ks)) ≡ rows * row_length w.f_size
unfolding rows_of row_bytes
length_rows w first rows ks = length-joined (row_length w.f_size) first rows _ (λ s. length-row_of _ _)
