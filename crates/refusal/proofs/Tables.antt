-- Laws of a table of refusals: its first line that holds, and tables one after another. Assumes nothing.
use mathlib.Core.Path.{◌≡◌, refl, ap}
use mathlib.Core.Bool.{Bool, true, false, cond}
use mathlib.Core.List.{List, [], ◌∷◌, ◌++◌}
use Prim.Native.Nat.{ℕ, zero, suc}
use lib.ListN.{get_or}
use Rattle.refusal.specs.Answers.{refused, and_then, fine}
use Rattle.refusal.specs.Tables.{Line, refuse, first}
use Rattle.refusal.proofs.Answers.{not_given}

-- ---- one line

-- a line that holds
pub first_yes : (l : Line) (ls : List Line) → l.when ≡ true → first (l ∷ ls) ≡ refused l.number l.place
unfolding first
first_yes l ls e = ap (λ (t : Bool). cond t (refused l.number l.place) (first ls)) e

-- a line that does not hold
pub first_no : (l : Line) (ls : List Line) → l.when ≡ false → first (l ∷ ls) ≡ first ls
unfolding first
first_no l ls e = ap (λ (t : Bool). cond t (refused l.number l.place) (first ls)) e

-- the last line of a table, where it does not hold
pub first_last : (l : Line) → l.when ≡ false → first (l ∷ []) ≡ fine
unfolding first
first_last l e = first_no l [] e

-- where the verdict is fine, the first line does not hold
pub first_cons : (l : Line) (ls : List Line) → first (l ∷ ls) ≡ fine → (l.when ≡ false) × (first ls ≡ fine)
unfolding first
first_cons l ls = go l.when
  where
    go : (t : Bool) → cond t (refused l.number l.place) (first ls) ≡ fine → (t ≡ false) × (first ls ≡ fine)
    go true e = not_given l.number l.place tt e
    go false e = (refl, e)

-- where a table's verdict is fine, line i does not hold
pub line_no : (ls : List Line) → first ls ≡ fine → (i : ℕ) → (get_or ls i (refuse 0 0 false)).when ≡ false
line_no [] e i = refl
line_no (l ∷ ls) e zero = (first_cons l ls e).0
line_no (l ∷ ls) e (suc i) = line_no ls (first_cons l ls e).1 i

-- ---- two tables, one after the other

-- the second is read where nothing is wrong by the first
pub first-append : (a b : List Line) → first (a ++ b) ≡ and_then (first a) (λ u. first b)
unfolding first
first-append [] b = refl
first-append (l ∷ ls) b = go l.when (first-append ls b)
  where
    go : (t : Bool) → first (ls ++ b) ≡ and_then (first ls) (λ u. first b)
        → cond t (refused l.number l.place) (first (ls ++ b)) ≡ and_then (cond t (refused l.number l.place) (first ls)) (λ u. first b)
    go true e = refl
    go false e = e
