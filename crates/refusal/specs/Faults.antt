-- The numbers of the faults.
use Rattle.std.specs.Prelude.{◌≡◌, ℕ}
use Rattle.refusal.specs.declared.Fault.{Fault}
use Rattle.refusal.specs.declared.Fault.TheVariants as fault

abbrev pub number_of : Fault → ℕ
number_of fault.Length = 1
number_of fault.Password = 2
number_of fault.Size = 3
number_of fault.LoadCount = 4
number_of fault.PageOrBandCount = 5
number_of fault.Cut = 6
number_of fault.UnknownCode = 7
number_of fault.Priority = 8
number_of fault.LoadRange = 9
number_of fault.WordsAfter = 10
number_of fault.NoBand = 11
number_of fault.ShortBuffer = 12
number_of fault.TileMode = 13
number_of fault.Padding = 15
number_of fault.JobHead = 21
number_of fault.PageHead = 22
number_of fault.UnexpectedGroup = 23
number_of fault.JobEnds = 24
number_of fault.PageLines = 25
number_of fault.BytesAfter = 26
number_of fault.Writing = 27
number_of fault.Checksum = 31
number_of fault.UnknownCommand = 32
number_of fault.PacketHeader = 33
number_of fault.TooManyBands = 34
number_of fault.BandBytes = 35
number_of fault.Unusable = 36

-- ---- worked cases

pub record FaultCases : Type 0 where
  pub first : number_of fault.Length ≡ 1
  pub last_of_a_sheet : number_of fault.Padding ≡ 15
  -- 14 is gone
  pub before_it : number_of fault.TileMode ≡ 13
  pub first_of_a_job : number_of fault.JobHead ≡ 21
  pub last_of_a_job : number_of fault.Writing ≡ 27
  pub first_of_a_strip : number_of fault.Checksum ≡ 31
  pub last : number_of fault.Unusable ≡ 36

pub fault_cases : FaultCases
fault_cases = search
