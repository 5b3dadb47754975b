-- What the answers of the code say.
use Rattle.std.specs.Prelude.{ℕ, Result, Ok, Err}
use Rattle.refusal.specs.Faults.{number_of}
use Rattle.refusal.specs.declared.Refusal.{Refusal}
use Rattle.gdi_jobs.specs.Jobs.{State, between, in_page, Step, onward, done, stop, JobAnswer, pages, refused}
use Rattle.gdi_check.specs.declared.State as code-state
use Rattle.gdi_check.specs.declared.State.TheVariants.{Between, InPage}
use Rattle.gdi_check.specs.declared.Step as code_step
use Rattle.gdi_check.specs.declared.Step.TheVariants.{Onward, Done}

abbrev pub refused_as : Refusal → JobAnswer
refused_as r = refused (number_of r.fault) r.place

abbrev pub checked_as : Result ℕ Refusal → JobAnswer
checked_as (Ok n) = pages n
checked_as (Err r) = refused_as r

abbrev pub state_of : code-state.State → State
state_of (Between n) = between n
state_of (InPage p) = in_page p.pages p.width p.height p.lines p.sum p.left

abbrev pub step_of : Result code_step.Step Refusal → Step
step_of (Ok (Onward s n)) = onward (state_of s) n
step_of (Ok (Done n)) = done n
step_of (Err r) = stop (number_of r.fault) r.place
