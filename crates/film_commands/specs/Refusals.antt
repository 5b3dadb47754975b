-- What is refused in one command, as a table of refusals: each line has its number, its place and when it is given. Places are counted from the code
-- word: 0 is the code word, 1 the first argument word, 2 the second.
use Rattle.std.specs.Prelude.{Bool, true, false, ◌||◌, ◌&&◌, List, [], ◌∷◌, ℕ, ltb, eqb, length, take, drop}
use Rattle.std.proofs.Math.Option.{Option, none, some}
use Rattle.refusal.specs.Tables.{Line, refuse}
use Rattle.film_words.specs.Words.{at, long_at}
use Rattle.film_words.specs.Arrays.{array_extent}
use Rattle.film_words.specs.Padding.{padding_set}
use Rattle.film_words.specs.Groups.{group_extent}

-- how many argument words a command has, by its code from 0 on; a run group or a sample array in the band comes after them
abbrev pub argument_words : ℕ → ℕ
argument_words code = at (0 ∷ 2 ∷ 0 ∷ 0 ∷ 3 ∷ 4 ∷ 6 ∷ 1 ∷ 3 ∷ 2 ∷ 4 ∷ []) code

-- whether an array or a group of this extent runs past the end
abbrev pub past : Option ℕ → Bool
past none = true
past (some n) = false

-- the words of an array or a group that is all there
abbrev pub taken_words : Option ℕ → ℕ
taken_words none = 0
taken_words (some n) = n

-- the array at the beginning of ws, without the words after it
abbrev pub array_alone : List ℕ → List ℕ
array_alone ws = take (taken_words (array_extent ws)) ws

-- whether a side of a tile is 0
abbrev pub empty_tile : List ℕ → Bool
empty_tile tile = eqb (at tile 3) 0 || eqb (at tile 4) 0

-- `args` are the words after the code word up to the band's end, `load` the load's words after its count, `least` the band's priority so far
unfoldable pub command_table : (load : List ℕ) (least code : ℕ) (args : List ℕ) → List Line
command_table load least code args =
    let tile = drop (long_at args 1) load in
    let addressed = drop (long_at args 0) load in
    -- unknown code
    refuse 7 0 (eqb code 0 || ltb 10 code)
    -- command past its band: its arguments, its run group, its sample array
    ∷ refuse 6 0 (ltb (length args) (argument_words code))
    ∷ refuse 6 0 (eqb code 7 && past (group_extent (drop 1 args)))
    ∷ refuse 6 0 (eqb code 9 && past (array_extent (drop 2 args)))
    -- priority: its high word over 255; falling, told at its low word
    ∷ refuse 8 2 (eqb code 1 && ltb 255 (at args 1))
    ∷ refuse 8 1 (eqb code 1 && ltb (long_at args 0) least)
    -- tile mode not 0 or 1
    ∷ refuse 13 1 (eqb code 4 && ltb 1 (at args 0))
    -- tile, run group or array runs past the load, or a tile side is 0
    ∷ refuse 9 0 (eqb code 4 && past (array_extent (drop 3 tile)))
    ∷ refuse 9 0 (eqb code 4 && empty_tile tile)
    ∷ refuse 9 0 (eqb code 8 && past (group_extent addressed))
    ∷ refuse 9 0 (eqb code 10 && past (array_extent addressed))
    -- a padding bit is set, in a tile or in an array of the sheet or the load
    ∷ refuse 15 0 (eqb code 4 && padding_set (array_alone (drop 3 tile)))
    ∷ refuse 15 0 (eqb code 9 && padding_set (array_alone (drop 2 args)))
    ∷ refuse 15 0 (eqb code 10 && padding_set (array_alone addressed))
    ∷ []
