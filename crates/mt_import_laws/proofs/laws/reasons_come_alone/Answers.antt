use Rattle.mt_import.specs.Help.{own_text}
use Rattle.mt_import.specs.Supplied.{command_of}
use Rattle.mt_import_laws.proofs.Reasons.{reasons_alone}
use Rattle.mt_import_laws.proofs.laws.reasons_come_alone.Goals as goal

pub returns : goal.returns
returns c = λ words bytes. reasons_alone (own_text words) (command_of words) bytes
