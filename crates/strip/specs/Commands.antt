-- The command that a byte is, or that it is none.
use Rattle.std.specs.Prelude.{ℕ, cond, eqb, Result, Ok, Err}
use Rattle.refusal.specs.declared.Fault.{Fault}
use Rattle.refusal.specs.declared.Fault.TheVariants.{UnknownCommand}
use Rattle.strip.specs.declared.Command.{Command}
use Rattle.strip.specs.declared.Command.TheVariants.{Initialize, Print, Data, Inquiry}
use Rattle.strip.specs.Packets.{initialize_code, print_code, data_code, inquiry_code}

abbrev pub command_of : ℕ → Result Command Fault
command_of b =
    cond (eqb b initialize_code) (Ok Initialize)
    (cond (eqb b print_code) (Ok Print)
    (cond (eqb b data_code) (Ok Data)
    (cond (eqb b inquiry_code) (Ok Inquiry)
    (Err UnknownCommand))))
