-- The phases as numbers, and the numbers as phases.
use Rattle.std.specs.Prelude.{ℕ, cond, eqb}
use Rattle.strip.specs.declared.Phase.{Phase}
use Rattle.strip.specs.declared.Phase.TheVariants.{Hunt, Mark, Command, Indicator, Low, High, Body, SumLow, SumHigh, ClockFirst, ClockSecond}

-- a number that names no phase is the search for a mark
unfoldable pub phase_of : ℕ → Phase
phase_of n =
    cond (eqb n 1) Mark
    (cond (eqb n 2) Command
    (cond (eqb n 3) Indicator
    (cond (eqb n 4) Low
    (cond (eqb n 5) High
    (cond (eqb n 6) Body
    (cond (eqb n 7) SumLow
    (cond (eqb n 8) SumHigh
    (cond (eqb n 9) ClockFirst
    (cond (eqb n 10) ClockSecond
    Hunt)))))))))

abbrev pub number_of : Phase → ℕ
number_of Hunt = 0
number_of Mark = 1
number_of Command = 2
number_of Indicator = 3
number_of Low = 4
number_of High = 5
number_of Body = 6
number_of SumLow = 7
number_of SumHigh = 8
number_of ClockFirst = 9
number_of ClockSecond = 10
