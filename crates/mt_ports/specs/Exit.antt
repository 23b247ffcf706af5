-- The number of each status, with which the program ends (own).
use Rattle.std.specs.Prelude.{ℕ}
use Rattle.mt_ports.specs.declared.status.Status.{Status}
use Rattle.mt_ports.specs.declared.status.Status.TheVariants.{Done, Refused, Usage, BadText, ReadFault, WriteFault, NoMemory, TooLong, TooFew, Disabled}

abbrev pub code : Status → ℕ
code Done = 0
code Refused = 1
code Usage = 2
code BadText = 3
code ReadFault = 4
code WriteFault = 5
code NoMemory = 6
code TooLong = 7
code TooFew = 8
code Disabled = 9
