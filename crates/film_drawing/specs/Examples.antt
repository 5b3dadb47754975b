-- Sheets by their words, for the worked cases.
use Rattle.std.specs.Prelude.{List, [], ◌∷◌, ℕ}
use Rattle.film_words.specs.Words.{bytes_of}
use Rattle.film_commands.specs.Commands.{example_load}

-- the empty load: the count 0 alone
abbrev pub empty_load : List ℕ
empty_load = bytes_of (0 ∷ 0 ∷ [])

-- the listing: 4 lines of 16 dots in two bands, and the rectangle 1, 2, 1, 3 in each
abbrev pub listing : List ℕ
listing =
    bytes_of (0xAAAA ∷ 0x0001 ∷ 0x0000 ∷ 0x0258 ∷ 0x0258 ∷ 0x0004 ∷ 0x0010 ∷ 0x0002 ∷ 0x0000 ∷ 0x0000 ∷ 0x0001 ∷ 0x0001 ∷ 0x0002
    ∷ 0x0005 ∷ 0x0005 ∷ 0x0001 ∷ 0x0002 ∷ 0x0001 ∷ 0x0003 ∷ 0x0005 ∷ 0x0005 ∷ 0x0001 ∷ 0x0002 ∷ 0x0001 ∷ 0x0003 ∷ [])

-- the listing with just an ink command in its band 1
abbrev pub listing₂ : List ℕ
listing₂ = bytes_of (0xAAAA ∷ 1 ∷ 0 ∷ 0x0258 ∷ 0x0258 ∷ 4 ∷ 16 ∷ 2 ∷ 0 ∷ 0 ∷ 1 ∷ 1 ∷ 2 ∷ 5 ∷ 5 ∷ 1 ∷ 2 ∷ 1 ∷ 3 ∷ 1 ∷ 2 ∷ [])

-- two pages of two bands of one line, each with another rectangle
abbrev pub two_pages : List ℕ
two_pages =
    bytes_of (0xAAAA ∷ 1 ∷ 0 ∷ 0 ∷ 0 ∷ 2 ∷ 16 ∷ 1 ∷ 0 ∷ 0 ∷ 1 ∷ 2
    ∷ 2 ∷ 5 ∷ 5 ∷ 0 ∷ 2 ∷ 0 ∷ 1 ∷ 5 ∷ 5 ∷ 0 ∷ 2 ∷ 0 ∷ 2
    ∷ 2 ∷ 5 ∷ 5 ∷ 0 ∷ 2 ∷ 0 ∷ 3 ∷ 5 ∷ 5 ∷ 0 ∷ 2 ∷ 0 ∷ 4 ∷ [])

-- the same with just an ink command in band 0 of page 0
abbrev pub two_pages₂ : List ℕ
two_pages₂ =
    bytes_of (0xAAAA ∷ 1 ∷ 0 ∷ 0 ∷ 0 ∷ 2 ∷ 16 ∷ 1 ∷ 0 ∷ 0 ∷ 1 ∷ 2
    ∷ 2 ∷ 1 ∷ 2 ∷ 5 ∷ 5 ∷ 0 ∷ 2 ∷ 0 ∷ 2
    ∷ 2 ∷ 5 ∷ 5 ∷ 0 ∷ 2 ∷ 0 ∷ 3 ∷ 5 ∷ 5 ∷ 0 ∷ 2 ∷ 0 ∷ 4 ∷ [])

-- 3 lines of 17 dots in bands of 2: band 0 inks lines 0 to 2 from dot 15 on and ends in clear and priority 9; band 1, cut to one line, paints
-- without a colour, after priority 0
abbrev pub cut_band : List ℕ
cut_band = bytes_of (0xAAAA ∷ 1 ∷ 0 ∷ 0 ∷ 0 ∷ 3 ∷ 17 ∷ 2 ∷ 0 ∷ 0 ∷ 1 ∷ 1 ∷ 2 ∷ 9 ∷ 5 ∷ 0 ∷ 3 ∷ 15 ∷ 9 ∷ 3 ∷ 1 ∷ 9 ∷ 0 ∷ 8 ∷ 1 ∷ 0 ∷ 0 ∷ 5 ∷ 2 ∷ 1 ∷ 0 ∷ 1 ∷ [])

-- a band that takes runs, samples and an opaque tile from the load
abbrev pub load_sheet : List ℕ
load_sheet = bytes_of (0xAAAA ∷ 1 ∷ 0 ∷ 0 ∷ 0 ∷ 3 ∷ 16 ∷ 3 ∷ 12 ∷ 0 ∷ 1 ∷ 1 ∷ 1 ∷ 18 ∷ 8 ∷ 6 ∷ 0 ∷ 0 ∷ 10 ∷ 9 ∷ 0 ∷ 1 ∷ 2 ∷ 4 ∷ 0 ∷ 0 ∷ 0 ∷ 5 ∷ 2 ∷ 1 ∷ 0 ∷ 16 ∷ [])

-- its load: a tile at 2, 3 with one line 1010 at address 0, a run group of one line at 6 and an array of one line at 9
abbrev pub load_file : List ℕ
load_file = bytes_of (12 ∷ 0 ∷ example_load)

-- two bands of one line, of which each takes the run group from the load
abbrev pub load_bands : List ℕ
load_bands = bytes_of (0xAAAA ∷ 1 ∷ 0 ∷ 0 ∷ 0 ∷ 2 ∷ 16 ∷ 1 ∷ 12 ∷ 0 ∷ 1 ∷ 1 ∷ 2 ∷ 4 ∷ 8 ∷ 6 ∷ 0 ∷ 0 ∷ 4 ∷ 8 ∷ 6 ∷ 0 ∷ 1 ∷ [])

-- one page of 4 lines of 16 dots in bands of 2, with these words from word 12 on
abbrev pub one_page : List ℕ → List ℕ
one_page rest = bytes_of (0xAAAA ∷ 1 ∷ 0 ∷ 0 ∷ 0 ∷ 4 ∷ 16 ∷ 2 ∷ 0 ∷ 0 ∷ 1 ∷ 1 ∷ rest)
