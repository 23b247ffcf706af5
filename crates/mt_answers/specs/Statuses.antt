-- With which statuses a command may end, whether or not a port tells its bytes (own).
--     MayEnd command status      the statuses of a command, or of words that are none
use Rattle.std.specs.Prelude.{◌≡◌, true, Option, Some, ⊤}
use Rattle.mt_ports.specs.declared.status.Status.{Status}
use Rattle.mt_ports.specs.declared.status.Status.TheVariants.{Refused, BadText, ReadFault, TooLong, TooFew, Disabled}
use Rattle.mt_answers.specs.declared.command.Command.{Command}
use Rattle.mt_answers.specs.declared.command.Command.TheVariants.{Serial}
use Rattle.mt_answers.specs.declared.command.SerialCommand.TheVariants.{Dump}
use Rattle.mt_answers.specs.declared.command.DumpCommand.{DumpCommand}
use Rattle.mt_answers.specs.CommandLine.{reads_input}
use Rattle.mt_answers.specs.Answer.{MayChoose}

-- the commands that fit ranges into pairs, `tidy` and `gran`
abbrev pub FitsRanges : Option Command → Type 0
FitsRanges command = (asked : DumpCommand) × (command ≡ Some (Serial (Dump asked))) × MayChoose asked

-- The statuses that tell of an input are of commands that read it, and two of them of those that fit ranges into pairs.
abbrev pub MayEnd : Option Command → Status → Type 0
MayEnd command Refused = reads_input command ≡ true
MayEnd command BadText = reads_input command ≡ true
MayEnd command ReadFault = reads_input command ≡ true
MayEnd command TooLong = reads_input command ≡ true
MayEnd command TooFew = FitsRanges command
MayEnd command Disabled = FitsRanges command
MayEnd command other = ⊤
