use Rattle.mt_import_laws.proofs.InteltoolLines.{cores_turn}
use Rattle.mt_import_laws.proofs.printers.what_inteltool_prints_of_a_core_turns_to_it.Goals as goal

pub returns : goal.returns
returns c = cores_turn
