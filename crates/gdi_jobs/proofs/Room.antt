-- The row writer never needs more than its room. Assumes nothing.
use mathlib.Core.Path.{refl}
use mathlib.Core.Bool.{cond}
use mathlib.Core.List.{List, [], ◌∷◌, ◌++◌}
use Prim.Native.Nat.{ℕ, ◌+◌, ◌*◌, ◌<◌, ◌≤◌}
use native.Mathlib.Omega.{arith}
use native.Mathlib.Decide.{dec_lt, dec_le}
use borrow.Author.Tests.{lt-ltb, le-ltb, le-leb, lt-leb}
use lib.Dec.{leb}
use lib.ListN.{length, length-append}
use Rattle.row.specs.Dots.{dot_at}
use Rattle.row.specs.Counts.{joined}
use Rattle.gdi_jobs.specs.Commands.{Command, run, dots_of}
use Rattle.gdi_jobs.specs.Rows.{runs, command_bytes, blocks, block_bytes, row_bytes}
use Rattle.gdi_jobs.specs.Writers.{row_writing}
use Rattle.gdi_jobs.specs.ReadingBack.{All, none, more}
use Rattle.gdi_jobs.specs.Room.{row_room, RoomForRow}
use Rattle.gdi_jobs.proofs.Rows.{Some, runs-some, dot_sum, runs-sum, command-length, block_length}
use Rattle.gdi_jobs.proofs.ReadingBack.{bytes_of, row_taken}
use Rattle.gdi_jobs.proofs.Writers.{writable_is}

-- a command has no more bytes than dots, and one of two bytes has many dots more
command_dots : (c : Command) → Some c → 2 * length (command_bytes c) ≤ dots_of c + 1
unfolding command_bytes
command_dots (run black n) h = go (dec_lt n 64)
  where
    go : Dec (n < 64) → 2 * length (command_bytes (run black n)) ≤ n + 1
    go (yes l) = rw (lt-ltb n 64 l) (omega arith)
    go (no l) = rw (le-ltb n 64 (omega arith)) (omega arith)

-- blocks of n bytes and dots: their bytes with the heads, and how many they are
record Within (n : ℕ) (bs : List (List ℕ)) : Type 0 where
  bytes : length (bytes_of bs) ≤ 6 * length bs + n
  count : 255 * length bs < 255 + n

-- commands put into blocks, of which the first holds bytes already
within : (cur : List ℕ) (cs : List Command) → All Some cs → 1 ≤ length cur + dot_sum cs → Within (length cur + dot_sum cs) (blocks cur cs)
unfolding blocks dot_sum joined
within cur [] none h = record { bytes = omega (arith, block_length cur, length-append (block_bytes cur) []); count = omega arith }
within cur (c ∷ cs) (more d ds) h =
    go (dec_le (length cur + length (command_bytes c)) 255) (within (cur ++ command_bytes c) cs ds) (within (command_bytes c) cs ds)
  where
    n : ℕ
    n = length cur + (dots_of c + dot_sum cs)

    go : Dec (length cur + length (command_bytes c) ≤ 255)
        → (1 ≤ length (cur ++ command_bytes c) + dot_sum cs → Within (length (cur ++ command_bytes c) + dot_sum cs) (blocks (cur ++ command_bytes c) cs))
        → (1 ≤ length (command_bytes c) + dot_sum cs → Within (length (command_bytes c) + dot_sum cs) (blocks (command_bytes c) cs))
        → Within n (cond (leb (length cur + length (command_bytes c)) 255) (blocks (cur ++ command_bytes c) cs) (cur ∷ blocks (command_bytes c) cs))
    go (yes l) here next =
        let w = here (omega (arith, length-append cur (command_bytes c), (command-length c).0)) in
        rw (le-leb (length cur + length (command_bytes c)) 255 l)
        (record {
          bytes = omega (arith, w.bytes, length-append cur (command_bytes c), command_dots c d);
          count = omega (arith, w.count, length-append cur (command_bytes c), command_dots c d);
        })
    go (no l) here next =
        let w = next (omega (arith, (command-length c).0)) in
        rw (lt-leb (length cur + length (command_bytes c)) 255 (omega arith))
        (record {
          bytes = omega (arith, w.bytes, block_length cur, length-append (block_bytes cur) (bytes_of (blocks (command_bytes c) cs)), command_dots c d);
          count = omega (arith, w.count, command_dots c d);
        })

-- a line's bytes
pub row_within : (width : ℕ) (row : List ℕ) → 1 ≤ width → length (row_bytes width row) ≤ row_room width
unfolding row_bytes row_room runs
row_within width row h =
    let sum = runs-sum (dot_at row) 0 width in
    let w = within [] (runs width row) (runs-some (dot_at row) 0 width) (omega arith) in omega (arith, w.bytes, w.count)

pub room_for_row : RoomForRow
unfolding RoomForRow row_writing
room_for_row width row room t h =
    let taken = row_taken width row t in
    let fits : length (row_bytes width row) ≤ room = omega (arith, row_within width row taken.wide.0) in
    rw ((writable_is width row).said taken, le-leb (length (row_bytes width row)) room fits) refl
