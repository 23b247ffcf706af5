use Rattle.mt_cli.proofs.Coming.{early_without}
use Rattle.mt_cli_laws.proofs.laws.memory_is_wanted_early_without_newcomers.Goals as goal

pub returns : goal.returns
returns c = early_without
