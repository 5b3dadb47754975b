-- Forms, as the code has them: a byte that has to stand there, or none where any byte may.
use Rattle.std.specs.Prelude.{◌≡◌, Bool, true, false, ◌&&◌, List, [], ◌∷◌, ℕ, ltb, Option, Some, None}
use Rattle.gdi_jobs.specs.Groups.{any}

-- as a form of crates/gdi_jobs/specs/Groups.antt has it
abbrev pub byte_of : Option ℕ → ℕ
byte_of None = any
byte_of (Some b) = b

-- what has to stand there is a byte
abbrev pub all_bytes : List (Option ℕ) → Bool
all_bytes [] = true
all_bytes (None ∷ form) = all_bytes form
all_bytes (Some b ∷ form) = ltb b 256 && all_bytes form

-- ---- worked cases

pub record FormCases : Type 0 where
  pub a_byte : byte_of (Some 0x11) ≡ 0x11
  pub any_byte : byte_of None ≡ any
  pub bytes : all_bytes (Some 0x11 ∷ None ∷ Some 255 ∷ []) ≡ true
  pub no_byte : all_bytes (None ∷ Some 256 ∷ []) ≡ false

pub form_cases : FormCases
form_cases = search
