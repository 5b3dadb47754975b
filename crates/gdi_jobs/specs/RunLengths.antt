-- The dots of a run: a command tells at most 16,383 of them, and no run of a row that is written has more. The statement is about every row of a width
-- that the row writer takes.
use Rattle.std.specs.Prelude.{◌≡◌, refl, true, false, List, [], ◌∷◌, ℕ, ◌≤◌, ltb}
use Rattle.gdi_jobs.specs.Commands.{Command, run, dots_of}
use Rattle.gdi_jobs.specs.Groups.{admitted}
use Rattle.gdi_jobs.specs.Rows.{runs_from, runs, command_bytes}
use Rattle.gdi_jobs.specs.ReadingBack.{All}

-- the most dots that a command tells
abbrev pub most_dots : ℕ
most_dots = 16383

-- For every width that the row writer takes, 1 to 16,383, and every row: each longest run of a colour has at most 16,383 dots, so a command tells it.
unfoldable pub NoRunTooLong : Type 0
NoRunTooLong = (width : ℕ) (row : List ℕ) → admitted width ≡ true → All (λ (c : Command). dots_of c ≤ most_dots) (runs width row)

-- ---- worked cases: the widest row

pub record RunLengthCases : Type 0 where
  pub widest : admitted 16383 ≡ true
  pub wider : admitted 16384 ≡ false
  -- of one colour it is one run, and its command the last one of two bytes
  pub black : runs_from (λ f. true) 0 16383 ≡ run true most_dots ∷ []
  pub white : runs_from (λ f. false) 0 16383 ≡ run false most_dots ∷ []
  pub black_bytes : command_bytes (run true most_dots) ≡ 0xFF ∷ 0xFF ∷ []
  pub white_bytes : command_bytes (run false most_dots) ≡ 0xBF ∷ 0xFF ∷ []
  -- with its first dot or its last of the other
  pub black_first : runs_from (λ f. ltb f 1) 0 16383 ≡ run true 1 ∷ run false 16382 ∷ []
  pub white_last : runs_from (λ f. ltb f 16382) 0 16383 ≡ run true 16382 ∷ run false 1 ∷ []

pub run_length_cases : RunLengthCases
unfolding runs_from command_bytes admitted
run_length_cases =
    record { widest = refl; wider = refl; black = refl; white = refl; black_bytes = refl; white_bytes = refl; black_first = refl; white_last = refl }
