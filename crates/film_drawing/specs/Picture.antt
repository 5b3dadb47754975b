-- A page's whole picture.
use Rattle.std.specs.Prelude.{◌≡◌, refl, List, [], ◌∷◌, ℕ, ◌/◌}
use Rattle.refusal.specs.Answers.{refused, given_or}
use Rattle.refusal.specs.Tables.{first}
use Rattle.row.specs.Dots.{byte_of, row_of}
use Rattle.film_words.specs.Words.{words, bytes_of}
use Rattle.film_words.specs.Load.{load_words}
use Rattle.film_words.specs.Arrays.{array_extent, samples_in, tile_in}
use Rattle.film_words.specs.Padding.{lines_padding_set, padding_set}
use Rattle.film_words.specs.Groups.{lines_extent, group_extent, lines_in, runs_in}
use Rattle.film_commands.specs.Refusals.{command_table}
use Rattle.film_commands.specs.Commands.{command, decoded}
use Rattle.film_commands.specs.Band.{read_from, read_band, Stroke, strokes, strokes_from}
use Rattle.film_herald.specs.Herald.{herald_of, band_count}
use Rattle.film_layout.specs.Layout.{Span, span, ends, Page, layout_of, bands_then, pages_from, reach_page, reach}
use Rattle.film_imaging.specs.Masks.{masked, sample, in_runs, within}
use Rattle.film_imaging.specs.Colours.{painted, tile_dot, tile_start}
use Rattle.film_imaging.specs.Pictures.{numbered, row_bytes, window_row, film_of, carry_out}
use Rattle.film_drawing.specs.Examples.{empty_load, listing, two_pages, cut_band, load_sheet, load_bands, load_file}

-- the page; one without dots and bands where the sheet hasn't it
unfoldable pub page_at : (sheet : List ℕ) (page : ℕ) → Page
page_at sheet page = given_or (record { window = record { f_min = 0; f_size = 0 }; bands = ends (refused 11 0) }) (reach_page page (layout_of (words sheet)))

-- the strokes of a band, by its words
abbrev pub strokes_in : (load : List ℕ) → Span → List Stroke
strokes_in load x = strokes x.place (read_band load x.words).items

-- the strokes of band b of page `page`; none where the page hasn't it
unfoldable pub band_strokes : (sheet load : List ℕ) (page b : ℕ) → List Stroke
band_strokes sheet load page b = strokes_in (load_words load) (given_or (span 0 []) (reach b (page_at sheet page).bands))

-- image_s_size rows of the page's window: row s is row s of a whole film, all 0 at first, on which just the strokes of the band holding s were carried
-- out
unfoldable pub picture : (sheet load : List ℕ) (page : ℕ) → List (List ℕ)
picture sheet load page =
    let h = herald_of (words sheet) in
    numbered 0 h.image_s_size (λ s. window_row (page_at sheet page).window (film_of (band_strokes sheet load page (s / h.band_s_size)) s))

-- ---- worked cases

pub record PictureCases : Type 0 where
  pub listing_picture : picture listing empty_load 0 ≡ (0 ∷ 0 ∷ []) ∷ (0x70 ∷ 0 ∷ []) ∷ (0x70 ∷ 0 ∷ []) ∷ (0 ∷ 0 ∷ []) ∷ []
  -- pages and bands are numbered in the sheet's order
  pub page_0 : picture two_pages empty_load 0 ≡ (0x80 ∷ 0 ∷ []) ∷ (0xC0 ∷ 0 ∷ []) ∷ []
  pub page_1 : picture two_pages empty_load 1 ≡ (0xE0 ∷ 0 ∷ []) ∷ (0xF0 ∷ 0 ∷ []) ∷ []
  -- no colour and no priority is carried over a band; the last band is cut; 17 dots take four bytes
  pub cut_picture : picture cut_band empty_load 0 ≡ (0 ∷ 1 ∷ 0x80 ∷ 0 ∷ []) ∷ (0 ∷ 1 ∷ 0x80 ∷ 0 ∷ []) ∷ (0x80 ∷ 0 ∷ 0 ∷ 0 ∷ []) ∷ []
  -- runs, samples and a tile from the load
  pub load_picture : picture load_sheet load_file 0 ≡ (0x0C ∷ 0 ∷ []) ∷ (0x3C ∷ 0 ∷ []) ∷ (0x15 ∷ 0x55 ∷ []) ∷ []
  -- a page and a band that the sheet hasn't
  pub no_page : page_at listing 1 ≡ record { window = record { f_min = 0; f_size = 0 }; bands = ends (refused 11 0) }
  pub no_band : band_strokes listing empty_load 0 2 ≡ []
  pub second_from_load : picture load_bands load_file 0 ≡ (0x0C ∷ 0 ∷ []) ∷ (0x0C ∷ 0 ∷ []) ∷ []

pub picture_cases : PictureCases
unfolding picture page_at band_strokes words bytes_of load_words band_count bands_then pages_from reach_page reach read_band read_from strokes strokes_from first command command_table decoded array_extent lines_padding_set padding_set samples_in tile_in lines_extent group_extent lines_in runs_in numbered row_bytes row_of byte_of film_of carry_out painted tile_dot tile_start masked sample in_runs within
picture_cases =
    record {
      listing_picture = refl;
      page_0 = refl;
      page_1 = refl;
      cut_picture = refl;
      load_picture = refl;
      no_page = refl;
      no_band = refl;
      second_from_load = refl;
    }
