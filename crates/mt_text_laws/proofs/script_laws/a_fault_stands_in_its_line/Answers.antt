use Rattle.mt_text_laws.proofs.Standing.{fault_stands}
use Rattle.mt_text_laws.proofs.script_laws.a_fault_stands_in_its_line.Goals as goal

pub returns : goal.returns
returns c = fault_stands
