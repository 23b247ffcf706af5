use Rattle.std.proofs.Common.{refl}
use Rattle.mt_output.specs.Ports.{held}
use Rattle.mt_replay_laws.specs.WorkedScript.{section_script}
use Rattle.mt_replay_laws.specs.WorkedStates.{later_refused}
use Rattle.mt_replay_laws.proofs.worked_laws.worked_laws_of_transcripts.Goals as goal

pub returns-clause-transcript : goal.returns-clause-transcript
returns-clause-transcript c = λ law. law section_script refl

pub returns-clause-written : goal.returns-clause-written
returns-clause-written c = λ law rest sink status. law (held section_script rest) sink status refl

pub returns-clause-one_line : goal.returns-clause-one_line
returns-clause-one_line c = λ law. law later_refused refl
