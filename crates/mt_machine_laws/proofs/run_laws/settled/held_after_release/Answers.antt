use Rattle.mt_laws.proofs.Updates.Held.{held_after_release}
use Rattle.mt_machine_laws.proofs.Updates.FirstRelease.{first_release_follows, held_after_each_first}
use Rattle.mt_machine_laws.proofs.run_laws.settled.held_after_release.Goals as goal

pub returns-clause-from : goal.returns-clause-from
returns-clause-from c = held_after_release

pub returns-clause-first : goal.returns-clause-first
returns-clause-first c = first_release_follows

pub returns-clause-each : goal.returns-clause-each
returns-clause-each c = held_after_each_first
