-- What a draw answers, and what its buffer holds then.
use Rattle.std.specs.Prelude.{◌≡◌, refl, not, ◌||◌, List, [], ◌∷◌, ◌++◌, ℕ, ltb, length, drop}
use Rattle.std.specs.Int.Count.{ones}
use Rattle.refusal.specs.Answers.{Answer, given, refused, and_then}
use Rattle.refusal.specs.Tables.{Line, refuse, first}
use Rattle.row.specs.Counts.{ones_of, joined}
use Rattle.row.specs.Dots.{byte_of, row_of}
use Rattle.film_words.specs.Words.{words, bytes_of}
use Rattle.film_words.specs.Load.{load_count, load_words}
use Rattle.film_words.specs.Arrays.{array_extent, samples_in, tile_in}
use Rattle.film_words.specs.Padding.{lines_padding_set, padding_set}
use Rattle.film_words.specs.Groups.{lines_extent, group_extent, lines_in, runs_in}
use Rattle.film_commands.specs.Refusals.{command_table}
use Rattle.film_commands.specs.Commands.{command, decoded}
use Rattle.film_commands.specs.Band.{read_from, read_band, band_test, strokes, strokes_from}
use Rattle.film_herald.specs.Herald.{Herald, herald_of, page_count, band_count, band_start, band_rows, Window, whole_film, band_bytes}
use Rattle.film_herald.specs.Refusals.{length_table, password_table, size_table, load_table, page_table, herald_table}
use Rattle.film_layout.specs.Layout.{Span, bands_then, pages_from, layout_of, reach_page, reach}
use Rattle.film_imaging.specs.Masks.{masked, sample, in_runs, within}
use Rattle.film_imaging.specs.Colours.{painted, tile_dot, tile_start}
use Rattle.film_imaging.specs.Pictures.{rows_of, numbered, row_bytes, film_of, carry_out}
use Rattle.film_drawing.specs.Examples.{empty_load, listing, two_pages, cut_band, load_sheet, load_file, one_page}
use Rattle.film_drawing.specs.Picture.{strokes_in}

-- a band that is drawn: rows, dots, and the bytes of the rows
pub record Result : Type 0 where
  pub rows : ℕ
  pub dots : ℕ
  pub bytes : List ℕ

abbrev pub DrawAnswer : Type 0
DrawAnswer = Answer Result

abbrev pub drawn : (rows dots : ℕ) → (bytes : List ℕ) → DrawAnswer
drawn rows dots bytes = given (record { rows = rows; dots = dots; bytes = bytes })

-- 11: no such page or band; 12: buffer under the band's own rows. `room` is the buffer's bytes.
unfoldable pub draw_table : Herald → (pages page b room : ℕ) → List Line
draw_table h pages page b room =
    refuse 11 0 (not (ltb page pages) || not (ltb b (band_count h)))
    ∷ refuse 12 0 (ltb room (band_bytes h (whole_film h) b))
    ∷ []

-- these rows, of which dots is the number of one bits
abbrev pub drawn_rows : (rows : ℕ) → (bytes : List ℕ) → DrawAnswer
drawn_rows rows bytes = drawn rows (ones_of bytes) bytes

-- `rows` rows of a window from line `first` on, by the commands of a band, where all of them are read
abbrev pub draw_rows : Window → (first rows : ℕ) → (load : List ℕ) → Span → DrawAnswer
draw_rows w first rows load x = and_then (band_test load x.place x.words) (λ u. drawn_rows rows (joined (rows_of w first rows (strokes_in load x))))

-- Draw looks at counts on its way, at its own band's commands, and at nothing else
unfoldable pub draw_answer : (sheet load : List ℕ) (page b room : ℕ) → DrawAnswer
draw_answer sheet load page b room =
    let ws = words sheet in
    let h = herald_of ws in
    and_then (first (herald_table sheet load ++ draw_table h (page_count ws) page b room)) (λ u.
    and_then (reach_page page (layout_of ws)) (λ q.
    and_then (reach b q.bands) (λ x.
    draw_rows q.window (band_start h b) (band_rows h b) (load_words load) x)))

-- the buffer when a draw returns: the rows from its first byte, and the bytes beyond them as they were; a refusal leaves it
unfoldable pub buffer_after : DrawAnswer → (held : List ℕ) → List ℕ
buffer_after (given d) held = d.bytes ++ drop (length d.bytes) held
buffer_after (refused n p) held = held

-- ---- worked cases

pub record DrawCases : Type 0 where
  pub listing_band_0 : draw_answer listing empty_load 0 0 4 ≡ drawn 2 3 (0 ∷ 0 ∷ 0x70 ∷ 0 ∷ [])
  pub listing_band_1 : draw_answer listing empty_load 0 1 4 ≡ drawn 2 3 (0x70 ∷ 0 ∷ 0 ∷ 0 ∷ [])
  pub bytes_beyond : buffer_after (draw_answer listing empty_load 0 0 6) (0xEE ∷ 0xEE ∷ 0xEE ∷ 0xEE ∷ 0xEE ∷ 0xEE ∷ []) ≡ 0 ∷ 0 ∷ 0x70 ∷ 0 ∷ 0xEE ∷ 0xEE ∷ []
  -- the herald's refusals come first
  pub odd_sheet : draw_answer (0 ∷ []) empty_load 0 0 9 ≡ refused 1 0
  pub herald_first : draw_answer (bytes_of (0xAAAA ∷ 2 ∷ [])) empty_load 9 9 0 ≡ refused 2 0
  pub no_page : draw_answer listing empty_load 1 0 0 ≡ refused 11 0
  pub no_band : draw_answer listing empty_load 0 2 9 ≡ refused 11 0
  pub no_room : draw_answer listing empty_load 0 1 3 ≡ refused 12 0
  pub left_alone : buffer_after (draw_answer listing empty_load 0 1 3) (1 ∷ 2 ∷ 3 ∷ []) ≡ 1 ∷ 2 ∷ 3 ∷ []
  -- pages and bands are numbered in the sheet's order
  pub page_0_band_1 : draw_answer two_pages empty_load 0 1 2 ≡ drawn 1 2 (0xC0 ∷ 0 ∷ [])
  pub page_1_band_0 : draw_answer two_pages empty_load 1 0 2 ≡ drawn 1 3 (0xE0 ∷ 0 ∷ [])
  -- runs, samples and a tile from the load
  pub from_load : draw_answer load_sheet load_file 0 0 6 ≡ drawn 3 13 (0x0C ∷ 0 ∷ 0x3C ∷ 0 ∷ 0x15 ∷ 0x55 ∷ [])
  -- the last band has its own rows; another band the rows of a whole one
  pub cut_band_case : draw_answer cut_band empty_load 0 1 4 ≡ drawn 1 1 (0x80 ∷ 0 ∷ 0 ∷ 0 ∷ [])
  pub whole_band_room : draw_answer cut_band empty_load 0 0 7 ≡ refused 12 0
  -- draw looks at the counts on its way and at its own band alone
  pub other_fault : draw_answer (one_page (2 ∷ 1 ∷ 99 ∷ 1 ∷ 2 ∷ [])) empty_load 0 1 4 ≡ drawn 2 0 (0 ∷ 0 ∷ 0 ∷ 0 ∷ [])
  pub own_fault : draw_answer (one_page (2 ∷ 2 ∷ 2 ∷ 99 ∷ 0 ∷ [])) empty_load 0 0 4 ≡ refused 7 15
  pub own_argument : draw_answer (one_page (2 ∷ 5 ∷ 2 ∷ 4 ∷ 2 ∷ 0 ∷ 0 ∷ 0 ∷ [])) empty_load 0 0 4 ≡ refused 13 16
  pub own_padding : draw_answer (one_page (2 ∷ 6 ∷ 9 ∷ 0 ∷ 0 ∷ 1 ∷ 4 ∷ 0xF001 ∷ 0 ∷ [])) empty_load 0 0 4 ≡ refused 15 14
  pub other_padding : draw_answer (one_page (2 ∷ 6 ∷ 9 ∷ 0 ∷ 0 ∷ 1 ∷ 4 ∷ 0xF001 ∷ 0 ∷ [])) empty_load 0 1 4 ≡ drawn 2 0 (0 ∷ 0 ∷ 0 ∷ 0 ∷ [])
  pub room_before_fault : draw_answer (one_page (2 ∷ 1 ∷ 99 ∷ 0 ∷ [])) empty_load 0 0 3 ≡ refused 12 0
  pub wrong_count : draw_answer (one_page (9 ∷ 0 ∷ 0 ∷ [])) empty_load 0 1 4 ≡ refused 5 12
  pub no_band_by_herald : draw_answer (one_page (9 ∷ 0 ∷ 0 ∷ [])) empty_load 0 2 4 ≡ refused 11 0
  pub earlier_extent : draw_answer (one_page (2 ∷ 60000 ∷ [])) empty_load 0 1 4 ≡ refused 6 13
  pub later_count : draw_answer (one_page (2 ∷ 0 ∷ [])) empty_load 0 0 4 ≡ drawn 2 0 (0 ∷ 0 ∷ 0 ∷ 0 ∷ [])
  pub words_after : draw_answer (one_page (2 ∷ 0 ∷ 0 ∷ 7 ∷ [])) empty_load 0 1 4 ≡ drawn 2 0 (0 ∷ 0 ∷ 0 ∷ 0 ∷ [])

pub draw_cases : DrawCases
unfolding draw_answer draw_table buffer_after first length_table password_table size_table load_table page_table herald_table load_count ones_of ones joined words bytes_of load_words band_count bands_then pages_from reach_page reach read_band read_from strokes strokes_from command command_table decoded array_extent lines_padding_set padding_set samples_in tile_in lines_extent group_extent lines_in runs_in rows_of numbered row_bytes row_of byte_of film_of carry_out painted tile_dot tile_start masked sample in_runs within
draw_cases =
    record {
      listing_band_0 = refl;
      listing_band_1 = refl;
      bytes_beyond = refl;
      odd_sheet = refl;
      herald_first = refl;
      no_page = refl;
      no_band = refl;
      no_room = refl;
      left_alone = refl;
      page_0_band_1 = refl;
      page_1_band_0 = refl;
      from_load = refl;
      cut_band_case = refl;
      whole_band_room = refl;
      other_fault = refl;
      own_fault = refl;
      own_argument = refl;
      own_padding = refl;
      other_padding = refl;
      room_before_fault = refl;
      wrong_count = refl;
      no_band_by_herald = refl;
      earlier_extent = refl;
      later_count = refl;
      words_after = refl;
    }
