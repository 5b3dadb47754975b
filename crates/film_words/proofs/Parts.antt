-- Laws of the parts of a file. Assumes nothing.
use mathlib.Core.Path.{◌≡◌, refl, sym, ap, ap₂, ◌∙◌}
use mathlib.Core.Bool.{Bool, true, false, cond}
use mathlib.Core.List.{List, [], ◌∷◌}
use Prim.Native.Nat.{ℕ, zero, suc, ◌+◌, ◌-◌, ◌*◌, ◌/◌, ◌<◌, ◌≤◌}
use native.Mathlib.Omega.{arith}
use borrow.Author.Tests.{le-leb, lt-leb}
use lib.Dec.{leb}
use lib.ListN.{length, take, drop, length-drop}
use lib.Seq.{drop-cons, drop-drop, take-take, take-nil, length-take-le}
use Rattle.film_words.specs.Words.{words, at}
use Rattle.film_words.specs.Parts.{part_of}
use Rattle.film_words.proofs.Words.{length-words, take_words, drop-words}

-- a part that the file has
pub part_is : (file : List ℕ) (p e : ℕ) → e ≤ length (words file) → part_of file p e ≡ take (2 * (e - p)) (drop (2 * p) file)
unfolding part_of
part_is file p e l = rw (le-leb e (length (words file)) l) refl

-- a part that the file has not
pub part_past : (file : List ℕ) (p e : ℕ) → length (words file) < e → part_of file p e ≡ []
unfolding part_of
part_past file p e h = rw (lt-leb e (length (words file)) h) refl

-- a part that does not end after its beginning
pub part_empty : (file : List ℕ) (p e : ℕ) → e ≤ p → part_of file p e ≡ []
unfolding part_of
part_empty file p e h = let z : 2 * (e - p) ≡ 0 = omega arith in rw z (go (leb e (length (words file))))
  where
    go : (t : Bool) → cond t (take 0 (drop (2 * p) file)) [] ≡ []
    go true = refl
    go false = refl

-- the two, by the file's bytes
pub part_slice : (file : List ℕ) (p e : ℕ) → e ≤ length file / 2 → part_of file p e ≡ take (2 * e - 2 * p) (drop (2 * p) file)
part_slice file p e l =
    let n : 2 * (e - p) ≡ 2 * e - 2 * p = omega arith in
    part_is file p e (omega (arith, length-words file)) ∙ ap (λ (n : ℕ). take n (drop (2 * p) file)) n

pub part_over : (file : List ℕ) (p e : ℕ) → length file / 2 < e → part_of file p e ≡ []
part_over file p e h = part_past file p e (omega (arith, length-words file))

-- its words
pub part_words : (file : List ℕ) (p e : ℕ) → e ≤ length (words file) → words (part_of file p e) ≡ take (e - p) (drop p (words file))
part_words file p e l = ap words (part_is file p e l) ∙ take_words (e - p) (drop (2 * p) file) ∙ ap (take (e - p)) (drop-words p file)

-- the first word of a part, and the part after it
pub part_first : (file : List ℕ) (p e : ℕ) → p < e → e ≤ length (words file) → words (part_of file p e) ≡ at (words file) p ∷ words (part_of file (p + 1) e)
part_first file p e h l =
    let one : e - p ≡ suc (e - (p + 1)) = omega arith in
    let next : suc p ≡ p + 1 = omega arith in
    part_words file p e l
    ∙ ap₂ (λ (k : ℕ) (r : List ℕ). take k r) one (drop-cons (words file) p 0 (omega arith))
    ∙ ap (λ (q : ℕ). at (words file) p ∷ take (e - (p + 1)) (drop q (words file))) next
    ∙ ap (λ (r : List ℕ). at (words file) p ∷ r) (sym (part_words file (p + 1) e l))

-- how many words a part has
pub part_length : (file : List ℕ) (p e : ℕ) → e ≤ length (words file) → length (words (part_of file p e)) ≡ e - p
part_length file p e l =
    ap length (part_words file p e l) ∙ length-take-le (e - p) (drop p (words file)) (omega (arith, length-drop p (words file)))

-- a part of n words
pub part_taken : (file : List ℕ) (p n : ℕ) → n ≤ length (drop p (words file)) → words (part_of file p (p + n)) ≡ take n (drop p (words file))
unfolding words
part_taken file p zero h = ap words (part_empty file p (p + 0) (omega arith))
part_taken file p (suc n) h =
    let l : length (drop p (words file)) ≡ length (words file) - p = length-drop p (words file) in
    let m : p + suc n - p ≡ suc n = omega arith in
    part_words file p (p + suc n) (omega arith) ∙ ap (λ (k : ℕ). take k (drop p (words file))) m

-- what is left of the first m
drop-take : (k m : ℕ) (l : List ℕ) → drop k (take m l) ≡ take (m - k) (drop k l)
drop-take zero m l = let z : m ≡ m - 0 = omega arith in ap (λ (x : ℕ). take x l) z
drop-take (suc k) zero l = let z : 0 ≡ 0 - suc k = omega arith in ap (λ (x : ℕ). take x (drop (suc k) l)) z
drop-take (suc k) (suc m) [] = sym (take-nil (suc m - suc k))
drop-take (suc k) (suc m) (a ∷ l) = let z : m - k ≡ suc m - suc k = omega arith in drop-take k m l ∙ ap (λ (x : ℕ). take x (drop k l)) z

-- the words from the k-th on of the part from place b up to e
pub drop_part : (file : List ℕ) (b e k q : ℕ) → e ≤ length (words file) → b + k ≡ q
    → drop k (words (part_of file b e)) ≡ take (e - b - k) (drop q (words file))
drop_part file b e k q l s =
    ap (drop k) (part_words file b e l) ∙ drop-take k (e - b) (drop b (words file))
    ∙ ap (take (e - b - k)) (drop-drop k b (words file) ∙ ap (λ (x : ℕ). drop x (words file)) s)

-- a part of n words that stands k words into the part from place b up to e
pub part_within : (file : List ℕ) (b e k q n : ℕ) → e ≤ length (words file) → b + k ≡ q → n ≤ length (drop k (words (part_of file b e)))
    → words (part_of file q (q + n)) ≡ take n (drop k (words (part_of file b e)))
part_within file b e k q n l s f =
    let r : n ≤ e - b - k = omega (arith, length-drop k (words (part_of file b e)), part_length file b e l) in
    part_taken file q n (omega (arith, length-drop q (words file)))
    ∙ sym (ap (take n) (drop_part file b e k q l s) ∙ take-take n (e - b - k) (drop q (words file)) r)
