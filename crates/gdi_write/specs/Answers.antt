-- What the answers of the code say, and what is told of a page head.
use Rattle.std.specs.Prelude.{ℕ, Result, Ok, Err}
use Rattle.refusal.specs.Faults.{number_of}
use Rattle.refusal.specs.declared.Refusal.{Refusal}
use Rattle.gdi_jobs.specs.Writers as writers
use Rattle.gdi_write.specs.Paper as paper
use Rattle.gdi_write.specs.declared.PageHead as code

abbrev pub written_as : Result ℕ Refusal → writers.WriteAnswer
written_as (Ok n) = writers.wrote n
written_as (Err r) = writers.refused (number_of r.fault) r.place

abbrev pub filled_as : Result ℕ Refusal → paper.FillAnswer
filled_as (Ok n) = paper.command n
filled_as (Err r) = paper.refused (number_of r.fault) r.place

abbrev pub head_of : code.PageHead → writers.PageHead
head_of h = record {
  tray = h.tray;
  width = h.width;
  height = h.height;
  format = h.format;
  paper_type = h.paper_type;
  copies = h.copies;
  toner = h.toner;
}
