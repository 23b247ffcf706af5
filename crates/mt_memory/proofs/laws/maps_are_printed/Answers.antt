use Rattle.mt_memory.proofs.Written.{maps_are_printed, reasons_come_alone}
use Rattle.mt_memory.proofs.laws.maps_are_printed.Goals as goal

pub returns-clause-printed : goal.returns-clause-printed
returns-clause-printed c = maps_are_printed

pub returns-clause-alone : goal.returns-clause-alone
returns-clause-alone c = reasons_come_alone
