use Rattle.mt_laws.proofs.Invariant.WriteBacks.{write_backs_have_places}
use Rattle.mt_machine_laws.proofs.run_laws.kept.write_backs_have_places.Goals as goal

pub returns : goal.returns
returns c = write_backs_have_places
