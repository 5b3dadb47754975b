-- Where a run of like dots ends.
use Rattle.std.specs.Prelude.{◌≡◌, Bool, cond, ℕ, zero, suc, ◌-◌}
use Rattle.std.specs.Bool.{beq}
use Rattle.row.specs.Dots.{dot_in, dot_at, example}

-- the first of the n dots from f on that is not v, or `none` where all of them are v: f itself, or what the dots after f give
unfoldable pub first_not : Bool → (ℕ → Bool) → ℕ → ℕ → ℕ → ℕ
first_not v d none f zero = none
first_not v d none f (suc n) = let later = first_not v d none (suc f) n in cond (beq (d f) v) later f

-- where the run that starts at dot `from` ends: the first dot after it, below `width`, that differs from dot `from`; else `width`
unfoldable pub run_end : (ℕ → Bool) → ℕ → ℕ → ℕ
run_end d from width = first_not (d from) d width from (width - from)

-- ---- worked cases

pub record RunCases : Type 0 where
  pub of_zeros : run_end (dot_at example) 0 16 ≡ 1
  pub of_ones : run_end (dot_at example) 1 16 ≡ 4
  pub over_a_border : run_end (dot_at example) 4 16 ≡ 15
  pub cut_by_width : run_end (dot_at example) 4 12 ≡ 12
  pub past_end : run_end (dot_at example) 16 20 ≡ 20
  pub from_past_width : run_end (dot_at example) 9 5 ≡ 5
  pub width_0 : run_end (dot_at example) 0 0 ≡ 0

pub run_cases : RunCases
unfolding dot_in dot_at first_not run_end
run_cases = search
