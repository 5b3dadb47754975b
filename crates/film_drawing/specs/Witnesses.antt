-- The premises of Demand 3 are met: draw calls of each kind, one drawing of each band of a page, two sheets alike but for one band.
use Rattle.std.specs.Prelude.{refl, List, [], ◌∷◌, Ok, Err}
use mathlib.Core.List.Memᴰ
use Rattle.std.specs.Int.Count.{ones}
use Rattle.refusal.specs.declared.Fault.TheVariants.{NoBand, ShortBuffer}
use Rattle.refusal.specs.Tables.{first}
use Rattle.row.specs.Counts.{ones_of, joined}
use Rattle.row.specs.Dots.{byte_of, row_of}
use Rattle.film_words.specs.Words.{words, bytes_of}
use Rattle.film_words.specs.Load.{load_count, load_words}
use Rattle.film_words.specs.Arrays.{array_extent, samples_in, tile_in}
use Rattle.film_words.specs.Padding.{lines_padding_set, padding_set}
use Rattle.film_words.specs.Groups.{lines_extent, group_extent, lines_in, runs_in}
use Rattle.film_commands.specs.Refusals.{command_table}
use Rattle.film_commands.specs.Commands.{command, decoded}
use Rattle.film_commands.specs.Band.{read_from, read_band, strokes, strokes_from}
use Rattle.film_herald.specs.Herald.{band_count}
use Rattle.film_herald.specs.Refusals.{length_table, password_table, size_table, load_table, page_table, herald_table, herald_test}
use Rattle.film_layout.specs.Layout.{bands_then, pages_from, reach_page, reach}
use Rattle.film_check.specs.Check.{check_answer, check_layout}
use Rattle.film_imaging.specs.Masks.{masked, sample, in_runs, within}
use Rattle.film_imaging.specs.Colours.{painted, tile_dot, tile_start}
use Rattle.film_imaging.specs.Pictures.{rows_of, numbered, row_bytes, film_of, carry_out}
use Rattle.film_drawing.specs.Examples.{empty_load, listing, listing₂, two_pages, two_pages₂, cut_band, load_sheet, load_file}
use Rattle.film_drawing.specs.Picture.{page_at}
use Rattle.film_drawing.specs.Draw.{draw_table, draw_answer, buffer_after}
use Rattle.film_drawing.specs.Demand3.{Passes, Buffers, draw, write, Call, Made, over, wrote, called, OneOfEach, none, more, Alike}

-- every buffer holds five bytes at first
abbrev five : Buffers
five i = 9 ∷ 9 ∷ 9 ∷ 9 ∷ 9 ∷ []

abbrev first_call : Call
first_call = record { page = 0; b = 1; held = 9 ∷ 9 ∷ 9 ∷ 9 ∷ 9 ∷ []; answer = Ok (record { rows = 2; dots = 3 }); left = 0x70 ∷ 0 ∷ 0 ∷ 0 ∷ 9 ∷ [] }

abbrev last_call : Call
last_call = record { page = 0; b = 0; held = 8 ∷ 8 ∷ 8 ∷ 8 ∷ []; answer = Ok (record { rows = 2; dots = 3 }); left = 0 ∷ 0 ∷ 0x70 ∷ 0 ∷ [] }

-- a band drawn, a call refused with 11, a writing, a call refused with 12, a writing, and the other band drawn: all with buffer 7
abbrev some_calls : List Call
some_calls =
    first_call
    ∷ record { page = 1; b = 0; held = 0x70 ∷ 0 ∷ 0 ∷ 0 ∷ 9 ∷ []; answer = Err (record { fault = NoBand; place = 0 }); left = 0x70 ∷ 0 ∷ 0 ∷ 0 ∷ 9 ∷ [] }
    ∷ record { page = 0; b = 0; held = 5 ∷ 6 ∷ 7 ∷ []; answer = Err (record { fault = ShortBuffer; place = 0 }); left = 5 ∷ 6 ∷ 7 ∷ [] }
    ∷ last_call
    ∷ []

pub record Witnesses : Type 0 where
  pub listing_passes : Passes listing empty_load
  pub cut_passes : Passes cut_band empty_load
  pub load_passes : Passes load_sheet load_file
  pub calls_made :
      Made listing empty_load five (draw 0 1 7 ∷ draw 1 0 7 ∷ write 7 (5 ∷ 6 ∷ 7 ∷ []) ∷ draw 0 0 7 ∷ write 7 (8 ∷ 8 ∷ 8 ∷ 8 ∷ []) ∷ draw 0 0 7 ∷ []) some_calls
  pub one_of_each : OneOfEach some_calls 0 0 2 (last_call ∷ first_call ∷ [])
  -- alike but for a page's last band, and but for the first band of all, after which everything moves
  pub last_band_passes : Passes listing₂ empty_load
  pub last_band_alike : Alike listing listing₂ 0 1
  pub two_pages_pass : Passes two_pages empty_load
  pub first_band_passes : Passes two_pages₂ empty_load
  pub first_band_alike : Alike two_pages two_pages₂ 0 0

pub witnesses : Witnesses
unfolding check_answer check_layout draw_answer draw_table buffer_after page_at herald_test first length_table password_table size_table load_table page_table herald_table load_count ones_of ones joined words bytes_of load_words band_count bands_then pages_from reach_page reach read_band read_from strokes strokes_from command command_table decoded array_extent lines_padding_set padding_set samples_in tile_in lines_extent group_extent lines_in runs_in rows_of numbered row_bytes row_of byte_of film_of carry_out painted tile_dot tile_start masked sample in_runs within
witnesses =
    record {
      listing_passes = record { answer = Ok 1; promised = record { answer_is = refl }; count = 1; is = refl };
      cut_passes = record { answer = Ok 1; promised = record { answer_is = refl }; count = 1; is = refl };
      load_passes = record { answer = Ok 1; promised = record { answer_is = refl }; count = 1; is = refl };
      calls_made =
          called (Ok (record { rows = 2; dots = 3 })) _ (record { answer_is = refl; left_is = refl })
          (called (Err (record { fault = NoBand; place = 0 })) _ (record { answer_is = refl; left_is = refl })
          (wrote (called (Err (record { fault = ShortBuffer; place = 0 })) _ (record { answer_is = refl; left_is = refl })
          (wrote (called (Ok (record { rows = 2; dots = 3 })) _ (record { answer_is = refl; left_is = refl }) over)))));
      one_of_each =
          more last_call (Memᴰ.tail (Memᴰ.tail (Memᴰ.tail (Memᴰ.head refl)))) refl refl refl
          (more first_call (Memᴰ.head refl) refl refl refl none);
      last_band_passes = record { answer = Ok 1; promised = record { answer_is = refl }; count = 1; is = refl };
      two_pages_pass = record { answer = Ok 2; promised = record { answer_is = refl }; count = 2; is = refl };
      first_band_passes = record { answer = Ok 2; promised = record { answer_is = refl }; count = 2; is = refl };
      last_band_alike =
          record {
            before = 0xAAAA ∷ 1 ∷ 0 ∷ 0x0258 ∷ 0x0258 ∷ 4 ∷ 16 ∷ 2 ∷ 0 ∷ 0 ∷ 1 ∷ 1 ∷ 2 ∷ 5 ∷ 5 ∷ 1 ∷ 2 ∷ 1 ∷ 3 ∷ [];
            after = [];
            commands₁ = 5 ∷ 1 ∷ 2 ∷ 1 ∷ 3 ∷ [];
            commands₂ = 2 ∷ [];
            one_is = refl;
            two_is = refl;
            stands = refl;
          };
      first_band_alike =
          record {
            before = 0xAAAA ∷ 1 ∷ 0 ∷ 0 ∷ 0 ∷ 2 ∷ 16 ∷ 1 ∷ 0 ∷ 0 ∷ 1 ∷ 2 ∷ 2 ∷ [];
            after = 5 ∷ 5 ∷ 0 ∷ 2 ∷ 0 ∷ 2 ∷ 2 ∷ 5 ∷ 5 ∷ 0 ∷ 2 ∷ 0 ∷ 3 ∷ 5 ∷ 5 ∷ 0 ∷ 2 ∷ 0 ∷ 4 ∷ [];
            commands₁ = 5 ∷ 0 ∷ 2 ∷ 0 ∷ 1 ∷ [];
            commands₂ = 2 ∷ [];
            one_is = refl;
            two_is = refl;
            stands = refl;
          };
    }
