-- The starred cases hold: by computing, or by a law of the crate that has the meaning. Assumes nothing.
use mathlib.Core.Path.{refl}
use native.Mathlib.Omega.{arith}
use Rattle.row.specs.Dots.{byte_of, row_of}
use Rattle.film_imaging.specs.Masks.{within, edge, masked}
use Rattle.film_imaging.specs.Colours.{painted}
use Rattle.film_imaging.specs.Pictures.{carry_out, film_of, row_bytes, numbered, rows_of}
use Rattle.film_imaging.proofs.Rectangle.{rectangle_empty_lines, rectangle_empty_dots}
use Rattle.film_imaging.proofs.Trapezoid.{trapezoid_one_row}
use Rattle.gdi_jobs.specs.Commands.{command}
use Rattle.gdi_jobs.specs.Groups.{admitted, fields, fits, group}
use Rattle.gdi_jobs.specs.Pages.{next}
use Rattle.gdi_jobs.specs.Lines.{line_dot, line_bytes, line_row, line_from, line_at}
use Rattle.gdi_jobs.specs.Rows.{command_bytes}
use Rattle.gdi_jobs.proofs.Commands.{command_two}
use Rattle.starred.specs.Starred.{Starred}

pub starred : Starred
unfolding rows_of numbered row_bytes row_of byte_of film_of carry_out painted masked edge within command next line_at line_from line_row line_bytes line_dot admitted fields fits group command_bytes
starred =
    record {
      r = refl;
      r0_lines = rectangle_empty_lines;
      r0_dots = rectangle_empty_dots;
      t1 = refl;
      t2 = refl;
      t3 = refl;
      t3_first_edge = trapezoid_one_row;
      g1 = λ left rest. refl;
      g2 = λ left rest h. command_two left 0x9A 0x4A rest (omega arith) h;
      g3 = refl;
      g4 = refl;
      g4_row = refl;
      g5 = λ left rest h. command_two left 0xBF 0xFF rest (omega arith) h;
      g6_63 = λ left rest. refl;
      g6_64 = λ left rest h. command_two left 0x80 0x01 rest (omega arith) h;
      g6_63_written = refl;
      g6_64_written = refl;
    }
