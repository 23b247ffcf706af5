use Rattle.std.proofs.Common.{string_bytes, map}
use Rattle.std.proofs.lemmas.List.{length-map}
use Rattle.mt_answers.proofs.LongLines.{no_command}
use Rattle.mt_answers.proofs.words.command_of.Goals as goal

pub returns-in_default-2 : goal.returns-in_default-2
returns-in_default-2 c = no_command (map string_bytes c.args.words.now) (rw length-map c.in_default.len_at_least)
