-- Four dots at a time: a table has the byte of each four, for one palette.
use Rattle.std.specs.Prelude.{ℕ, ◌+◌, ◌*◌, ◌/◌, ◌%◌}
use Rattle.strip.specs.Dots.{shade, index_of}

-- the byte of four dots of a tile's row, from place x of its two bytes on
abbrev pub four : (palette first second x : ℕ) → ℕ
four palette first second x =
    64 * shade palette (index_of first second x)
    + 16 * shade palette (index_of first second (x + 1))
    + 4 * shade palette (index_of first second (x + 2))
    + shade palette (index_of first second (x + 3))

-- entry k: the four dots' low bits are its low nibble, their high bits its high nibble
unfoldable pub entry_of : (palette k : ℕ) → ℕ
entry_of palette k = four palette (k % 16) (k / 16) 4
