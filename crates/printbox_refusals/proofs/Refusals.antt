-- No entry gives another refusal than those that the header names for it. Assumes nothing.
use Rattle.printbox_refusals.specs.Refusals.{Refusals}
use Rattle.printbox_refusals.proofs.Films as films
use Rattle.printbox_refusals.proofs.Jobs as jobs
use Rattle.printbox_refusals.proofs.Strip as strip

pub refusals : Refusals
refusals =
    record {
      film_check = films.film_check;
      film_draw = films.film_draw;
      gdi_check = jobs.gdi_check;
      gdi_read_line = jobs.gdi_read_line;
      gdi_write_head = jobs.gdi_write_head;
      gdi_write_page_head = jobs.gdi_write_page_head;
      gdi_write_row = jobs.gdi_write_row;
      gdi_write_page_end = jobs.gdi_write_page_end;
      gdi_write_document_end = jobs.gdi_write_document_end;
      gdi_linefill = jobs.gdi_linefill;
      strip_receive = strip.strip_receive;
      strip_place = strip.strip_place;
    }
