use Rattle.mt_core.proofs.Settling.{is_quiet_without_order}
use Rattle.mt_machine_laws.proofs.core_laws.rests_quiet.Goals as goal

pub returns : goal.returns
returns c = is_quiet_without_order
