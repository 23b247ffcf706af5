use Rattle.mt_regs.specs.Registers.{HasThreeDigits}
use Rattle.std.proofs.lemmas.List.Elements.{All-push}
use Rattle.mt_import.proofs.missing.push_number.Goals as goal

pub returns-clause-each : goal.returns-clause-each
returns-clause-each c = rw c.push.ensures.items (All-push HasThreeDigits c.args.numbers.now.items c.args.number c.requires.each c.requires.number)
