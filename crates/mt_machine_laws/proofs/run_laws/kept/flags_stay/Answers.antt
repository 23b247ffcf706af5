use Rattle.mt_laws.proofs.Invariant.Flags.{flags_stay, updated_keeps_flags}
use Rattle.mt_machine_laws.proofs.run_laws.kept.flags_stay.Goals as goal

pub returns-clause-events : goal.returns-clause-events
returns-clause-events c = flags_stay

pub returns-clause-updated : goal.returns-clause-updated
returns-clause-updated c = updated_keeps_flags
