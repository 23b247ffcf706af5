use Rattle.mt_private.proofs.Residents.Work.{works}
use Rattle.mt_thread_laws.proofs.yard_laws.words_are_written_alone.Goals as goal

pub returns : goal.returns
returns c t all go first second s k y e n yard has here is = works t all go first second s yard k y has.at has.has_added here e is n
