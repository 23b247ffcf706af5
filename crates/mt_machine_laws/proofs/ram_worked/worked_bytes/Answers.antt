use Rattle.std.proofs.Common.{arith, refl}
use Rattle.mt_ram.specs.Windows.{window}
use Rattle.mt_machine_laws.proofs.ram_worked.worked_bytes.Goals as goal

pub returns-clause-overlap : goal.returns-clause-overlap
returns-clause-overlap c = λ law. (law (window 0x1000 2) (window 0x1040 2) (omega arith) (omega arith)).0 refl
