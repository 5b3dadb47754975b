-- What the answers of the code say.
use Rattle.std.specs.Prelude.{Result, Ok, Err}
use Rattle.refusal.specs.Faults.{number_of}
use Rattle.refusal.specs.declared.Refusal.{Refusal}
use Rattle.gdi_jobs.specs.Commands.{run}
use Rattle.gdi_jobs.specs.Groups as groups
use Rattle.gdi_jobs.specs.Pages as pages
use Rattle.gdi_parse.specs.declared.Group as code-group
use Rattle.gdi_parse.specs.declared.Group.TheVariants.{Cut, PageHead, WrongPageHead, Block, PageEnd, DocumentEnd, Unknown}
use Rattle.gdi_parse.specs.declared.Next as code-next
use Rattle.gdi_parse.specs.declared.Next.TheVariants.{ToBlock, ToEnd, ToCommand}

abbrev pub group_of : code-group.Group → groups.Group
group_of Cut = groups.cut
group_of (PageHead width height) = groups.page_head width height
group_of WrongPageHead = groups.wrong_page_head
group_of (Block size) = groups.block size
group_of PageEnd = groups.page_end
group_of DocumentEnd = groups.document_end
group_of Unknown = groups.unknown

abbrev pub next_of : Result code-next.Next Refusal → pages.Next
next_of (Ok (ToBlock size)) = pages.to_block size
next_of (Ok ToEnd) = pages.to_end
next_of (Ok (ToCommand black dots bytes)) = pages.to_command (run black dots) bytes
next_of (Err r) = pages.fault (number_of r.fault) r.place
