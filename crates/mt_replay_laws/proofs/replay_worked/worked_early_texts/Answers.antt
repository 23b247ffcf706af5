use Rattle.std.proofs.Common.{refl}
use Rattle.std.specs.Fmt.{digits}
use Rattle.mt_replay_laws.proofs.replay_worked.worked_early_texts.Goals as goal

pub returns-clause-early : goal.returns-clause-early
returns-clause-early c = refl

pub returns-clause-late : goal.returns-clause-late
unfolding digits
returns-clause-late c = refl
