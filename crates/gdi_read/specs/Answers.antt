-- What the answer of the code says.
use Rattle.std.specs.Prelude.{Result, Ok, Err}
use Rattle.refusal.specs.Faults.{number_of}
use Rattle.refusal.specs.declared.Refusal.{Refusal}
use Rattle.gdi_jobs.specs.Lines.{LineAnswer, next_line, after_page, refusal}
use Rattle.gdi_read.specs.declared.LineRead as code
use Rattle.gdi_read.specs.declared.LineRead.TheVariants.{Line, PageEnd}

abbrev pub refused_as : Refusal → LineAnswer
refused_as r = refusal (number_of r.fault) r.place

abbrev pub line_read_as : Result code.LineRead Refusal → LineAnswer
line_read_as (Ok (Line offset left)) = next_line offset left
line_read_as (Ok (PageEnd offset left)) = after_page offset left
line_read_as (Err r) = refused_as r
