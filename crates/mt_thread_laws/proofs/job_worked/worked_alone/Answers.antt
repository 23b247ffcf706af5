use Rattle.std.specs.Prelude.{[], ◌∷◌}
use Rattle.mt_machine.specs.declared.op.Op.TheVariants.{Load, Store}
use Rattle.mt_thread_laws.specs.Worked.{first_page, marked}
use Rattle.mt_thread_laws.proofs.JobOnWorked.{first_owns, is_memory}
use Rattle.mt_private.proofs.Own.Owners.{runs_alone}
use Rattle.mt_thread_laws.proofs.job_worked.worked_alone.Goals as goal

pub returns-clause-alone : goal.returns-clause-alone
returns-clause-alone c = runs_alone first_page 0 marked is_memory (first_owns marked.memory) (Store 0x1000 0x2a ∷ Load 0x1000 ∷ [])
