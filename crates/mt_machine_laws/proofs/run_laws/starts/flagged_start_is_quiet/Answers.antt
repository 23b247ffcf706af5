use Rattle.mt_laws.proofs.Invariant.Starts.{flagged_start_is_quiet, no_flag_is_the_start}
use Rattle.mt_machine_laws.proofs.run_laws.starts.flagged_start_is_quiet.Goals as goal

pub returns-clause-quiet : goal.returns-clause-quiet
returns-clause-quiet c = flagged_start_is_quiet

pub returns-clause-none : goal.returns-clause-none
returns-clause-none c = no_flag_is_the_start
