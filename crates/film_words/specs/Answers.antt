-- The answers of the functions that measure a run group or a sample array.
use Rattle.std.specs.Prelude as code
use Rattle.std.specs.Prelude.{ℕ, Some, None}
use Rattle.std.proofs.Math.Option.{Option, none, some}

-- its number of words, or none where it runs past the end
abbrev pub extent_of : Option ℕ → code.Option ℕ
extent_of none = None
extent_of (some n) = Some n
