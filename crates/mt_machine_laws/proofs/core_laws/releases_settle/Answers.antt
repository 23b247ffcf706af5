use Rattle.mt_core.proofs.Settling.{settled_from_release}
use Rattle.mt_machine_laws.proofs.core_laws.releases_settle.Goals as goal

pub returns : goal.returns
returns c = settled_from_release
