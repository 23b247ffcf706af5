use Rattle.std.proofs.Common.{refl, [], ◌∷◌}
use Rattle.mt_machine.specs.declared.op.Op.TheVariants.{Fence, Load, Store}
use Rattle.mt_thread_laws.specs.WorkedYard.{lodged, lodging}
use Rattle.mt_thread_laws.proofs.Lodged.{opens_lodging}
use Rattle.mt_thread_laws.proofs.JobOnWorked.{is_memory}
use Rattle.mt_thread_laws.proofs.job_worked_laws.worked_own_jobs.Goals as goal

pub returns-clause-updates : goal.returns-clause-updates
returns-clause-updates c = λ law. law lodged lodging.goal is_memory opens_lodging.unshared

pub returns-clause-jobs_with_accesses : goal.returns-clause-jobs_with_accesses
returns-clause-jobs_with_accesses c = λ law.
    law lodged lodging.goal ((Store 0x1000 9 ∷ []) ∷ (Load 0x1000 ∷ Fence ∷ []) ∷ []) ((Load 0x1000 ∷ []) ∷ (Store 0x1000 8 ∷ []) ∷ []) is_memory opens_lodging.unshared refl refl
