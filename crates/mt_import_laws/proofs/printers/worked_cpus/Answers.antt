use Rattle.std.proofs.Common.{refl}
use Rattle.std.specs.Fmt.{digits}
use Rattle.mt_import_laws.proofs.WorkedCpus.{rdmsr_suits_two, x86info_suits_two}
use Rattle.mt_import_laws.proofs.printers.worked_cpus.Goals as goal

pub returns : goal.returns
unfolding digits
returns c = record { rdmsr = rdmsr_suits_two; x86info = x86info_suits_two; call = refl; cpu = refl }
