-- A table of refusals: it is read from the top, and the first line whose test holds is given.
use Rattle.std.specs.Prelude.{◌≡◌, Bool, true, false, cond, List, [], ◌∷◌, ℕ}
use Rattle.refusal.specs.Answers.{refused, Verdict, fine}

-- a line of the table: its test, and the refusal's number and place
pub record Line : Type 0 where
  pub when : Bool
  pub number : ℕ
  pub place : ℕ

-- by its number, its place and its test
abbrev pub refuse : ℕ → ℕ → Bool → Line
refuse n p t = record { when = t; number = n; place = p }

-- what the table says: the refusal of the first line that holds; nothing is wrong where none does
unfoldable pub first : List Line → Verdict
first [] = fine
first (l ∷ ls) = cond l.when (refused l.number l.place) (first ls)

-- ---- worked cases

pub record TableCases : Type 0 where
  pub no_lines : first [] ≡ fine
  pub does_not_hold : first (refuse 7 14 false ∷ []) ≡ fine
  pub holds : first (refuse 7 14 true ∷ []) ≡ refused 7 14
  pub from_the_top : first (refuse 7 14 false ∷ refuse 6 15 true ∷ refuse 9 16 true ∷ []) ≡ refused 6 15

pub table_cases : TableCases
unfolding first
table_cases = search
