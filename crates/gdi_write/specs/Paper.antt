-- Paper: the formats, and the command of a white line.
use Rattle.std.specs.Prelude.{◌≡◌, cond, ℕ}
use Rattle.gdi_jobs.specs.Groups.{admitted}
use Rattle.gdi_jobs.specs.Writers.{linefill_of}
use Rattle.gdi_write.specs.declared.Paper.{Paper}

-- ---- the formats, in dots, with the format's number

abbrev pub a4 : Paper
a4 = record { width = 4762; height = 6778; index = 0 }

abbrev pub a5 : Paper
a5 = record { width = 3298; height = 4726; index = 4 }

abbrev pub letter : Paper
letter = record { width = 4900; height = 6364; index = 1 }

abbrev pub monarch : Paper
monarch = record { width = 2128; height = 4264; index = 8 }

-- ---- the command of a white line

-- the command as a number, or a refusal
pub data FillAnswer : Type 0 where
  command : ℕ → FillAnswer
  refused : (number place : ℕ) → FillAnswer

-- 27 at 0 for a width that no line has
unfoldable pub fill_answer : (width : ℕ) → FillAnswer
fill_answer width = cond (admitted width) (command (linefill_of width)) (refused 27 0)

-- ---- worked cases

pub record PaperCases : Type 0 where
  pub of_a4 : fill_answer a4.width ≡ command 0x9A4A
  pub of_a5 : fill_answer a5.width ≡ command 0xA233
  pub of_letter : fill_answer letter.width ≡ command 0xA44C
  pub of_monarch : fill_answer monarch.width ≡ command 0x9021
  pub narrow : fill_answer 30 ≡ command 0x9E00
  pub widest : fill_answer 16383 ≡ command 0xBFFF
  pub width_0 : fill_answer 0 ≡ refused 27 0
  pub width_over : fill_answer 16384 ≡ refused 27 0

pub paper_cases : PaperCases
unfolding fill_answer linefill_of admitted
paper_cases = search
