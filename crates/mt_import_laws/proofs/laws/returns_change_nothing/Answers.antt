use Rattle.mt_import_laws.proofs.Returns.{returns_logs}
use Rattle.mt_import_laws.proofs.laws.returns_change_nothing.Goals as goal

pub returns : goal.returns
returns c = returns_logs
