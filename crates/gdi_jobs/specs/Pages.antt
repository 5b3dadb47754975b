-- In a page: what comes next. The job check and the line reader both go by this, so a command's meaning and the order of the refusals in a page
-- stand here once.
use Rattle.std.specs.Prelude.{◌≡◌, Bool, true, false, cond, List, [], ◌∷◌, ℕ, zero, suc, length, set, take}
use Rattle.gdi_jobs.specs.Commands.{Command, run, Taken, taken, broken, command}
use Rattle.gdi_jobs.specs.Groups.{Group, cut, page_head, wrong_page_head, block, page_end, document_end, unknown, fits, admitted, fields, group, example_page, page_end_bytes, document_end_bytes}

-- a block of so many bytes, whose head takes six; the page's end, six bytes; a command with the number of its bytes; or a refusal with the
-- offset of its place from here
pub data Next : Type 0 where
  to_block : (size : ℕ) → Next
  to_end : Next
  to_command : Command → (bytes : ℕ) → Next
  fault : (number offset : ℕ) → Next

-- Where no byte of a block is left a group stands, of which the job has n bytes from here on. A group that is cut is 24 before it is 23 or 25. The
-- page may end where `may_end` says so, else its end is 25. A group that may not come in a page is 23.
abbrev pub in_gap : (may_end : Bool) (n : ℕ) → Group → Next
in_gap may_end n cut = fault 24 n
in_gap may_end n (page_head width height) = fault 23 0
in_gap may_end n wrong_page_head = fault 23 0
in_gap may_end n (block size) = to_block size
in_gap may_end n page_end = cond may_end to_end (fault 25 0)
in_gap may_end n document_end = fault 23 0
in_gap may_end n unknown = fault 23 0

abbrev pub of_command : Taken → Next
of_command (taken c n) = to_command c n
of_command (broken number i) = fault number i

-- In a block a command stands. 24 where the job has no byte there; 25 before 24 at one command, where the page is full.
abbrev pub in_block : (full : Bool) (left : ℕ) → List ℕ → Next
in_block full left [] = fault 24 0
in_block full left (c ∷ rest) = cond full (fault 25 0) (of_command (command left c rest))

-- what comes next where a block has `left` bytes left, of the bytes that the job has from here on
unfoldable pub next : (full may_end : Bool) (left : ℕ) → List ℕ → Next
next full may_end zero bs = in_gap may_end (length bs) (group bs)
next full may_end (suc n) bs = in_block full (suc n) bs

-- ---- worked cases

pub record NextCases : Type 0 where
  pub a_block : next false false 0 (0x12 ∷ 0x00 ∷ 0x00 ∷ 0x01 ∷ 0x00 ∷ 0x00 ∷ []) ≡ to_block 256
  pub an_end : next true true 0 page_end_bytes ≡ to_end
  pub early_end : next false false 0 page_end_bytes ≡ fault 25 0
  pub cut_end : next false false 0 (take 5 page_end_bytes) ≡ fault 24 5
  pub page_in_page : next true true 0 example_page ≡ fault 23 0
  pub wrong_page_in_page : next true true 0 (set example_page 2 0x0E) ≡ fault 23 0
  pub cut_page_in_page : next true true 0 (take 20 example_page) ≡ fault 24 20
  pub document_end_in_page : next true true 0 document_end_bytes ≡ fault 23 0
  pub other_bytes : next true true 0 (0xFF ∷ 0xFF ∷ 0xFF ∷ 0xFF ∷ 0xFF ∷ 0xFF ∷ []) ≡ fault 23 0
  pub a_command : next false false 1 (0x43 ∷ 0x12 ∷ []) ≡ to_command (run true 3) 1
  pub command_past_block : next false false 1 (0x80 ∷ 0x01 ∷ []) ≡ fault 24 0
  pub after_the_lines : next true true 1 (0x80 ∷ []) ≡ fault 25 0
  pub missing_byte : next false false 1 [] ≡ fault 24 0
  -- a missing byte is no command
  pub missing_after_the_lines : next true true 1 [] ≡ fault 24 0

pub next_cases : NextCases
unfolding next command group fits admitted fields
next_cases = search
