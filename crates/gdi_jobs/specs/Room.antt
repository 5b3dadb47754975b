-- Room for a line: the bytes that the row writer never needs more of. The statement is about every row that it takes.
use Rattle.std.specs.Prelude.{◌≡◌, refl, List, [], ◌∷◌, ℕ, zero, suc, ◌+◌, ◌*◌, ◌/◌, ◌≤◌, length}
use Rattle.row.specs.Dots.{dot_in, dot_at}
use Rattle.row.specs.Counts.{joined}
use Rattle.gdi_jobs.specs.Rows.{runs_from, runs, command_bytes, blocks, block_bytes, row_bytes}
use Rattle.gdi_jobs.specs.Writers.{writes, row_writing}
use Rattle.gdi_jobs.specs.ReadingBack.{TakesRow}

-- a byte for each dot, and the six bytes of a block's head for each 255 of them, rounded up
unfoldable pub row_room : (width : ℕ) → ℕ
row_room width = width + 6 * ((width + 254) / 255)

-- For every row that the writer takes, and an output of at least that room: the row is written, and not refused for the output.
unfoldable pub RoomForRow : Type 0
RoomForRow = (width : ℕ) (row : List ℕ) (room : ℕ) → TakesRow width row → row_room width ≤ room → row_writing width row room ≡ writes (row_bytes width row)

-- ---- worked cases: with the dots black and white in turn all of the room is needed

-- n bytes of such dots
abbrev in_turn : ℕ → List ℕ
in_turn zero = []
in_turn (suc n) = 0xAA ∷ in_turn n

pub record RoomCases : Type 0 where
  pub one_dot : length (row_bytes 1 (0x80 ∷ [])) ≡ row_room 1
  pub a_full_block : length (row_bytes 255 (in_turn 32)) ≡ row_room 255
  pub a_second_block : length (row_bytes 256 (in_turn 32)) ≡ row_room 256
  pub two_full_blocks : length (row_bytes 510 (in_turn 64)) ≡ row_room 510
  pub widest : row_room 16383 ≡ 16773

pub room_cases : RoomCases
unfolding row_room runs runs_from command_bytes blocks block_bytes row_bytes joined dot_at dot_in
room_cases = record { one_dot = refl; a_full_block = refl; a_second_block = refl; two_full_blocks = refl; widest = refl }
