use Rattle.std.proofs.Common.{◌∙◌, sym}
use Rattle.mt_import.proofs.Listed.{listed_is, listed_slot}
use Rattle.mt_import.proofs.reading.is_register.Goals as goal

pub returns-clause-register : goal.returns-clause-register
returns-clause-register c = c.is_listed.ensures ∙ listed_is c.args.number

pub returns-clause-slot : goal.returns-clause-slot
returns-clause-slot c = λ is. listed_slot c.args.number (sym c.is_listed.ensures ∙ is)
