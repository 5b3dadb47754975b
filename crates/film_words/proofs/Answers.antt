-- Laws of the answers: what an extent says of the measured thing. Assumes nothing.
use Rattle.std.proofs.Common as code
use Rattle.std.proofs.Common.{Some, None}
use mathlib.Core.Path.{◌≡◌, refl, sym, ap, ◌∙◌}
use mathlib.Core.Option.{Option, none, some}
use Prim.Native.Nat.{ℕ}
use Rattle.film_words.specs.Answers.{extent_of}

-- the number of words that an answer says
abbrev pub said_by : code.Option ℕ → Option ℕ
said_by (Some n) = some n
said_by None = none

said : (o : Option ℕ) → said_by (extent_of o) ≡ o
said none = refl
said (some n) = refl

-- the answer is a number of words
pub words-some : (o : Option ℕ) (n : ℕ) → Some n ≡ extent_of o → o ≡ some n
words-some o n e = sym (said o) ∙ sym (ap said_by e)

-- the answer is that it runs past the end
pub past_none : (o : Option ℕ) → None ≡ extent_of o → o ≡ none
past_none o e = sym (said o) ∙ sym (ap said_by e)
