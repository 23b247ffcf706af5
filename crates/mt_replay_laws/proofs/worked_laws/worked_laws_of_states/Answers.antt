use Rattle.std.proofs.Common.{refl, rules}
use Rattle.mt_script.specs.declared.command.Command.TheVariants as asks
use Rattle.mt_script.specs.declared.command.Newcomer.TheVariants.{Join}
use Rattle.mt_replay_laws.specs.WorkedStates.{just_dumped, small_dump}
use Rattle.mt_replay_laws.proofs.worked_laws.worked_laws_of_states.Goals as goal

pub returns-clause-scripts : goal.returns-clause-scripts
returns-clause-scripts c = λ law. (law small_dump).0

pub returns-clause-commands : goal.returns-clause-commands
returns-clause-commands c = λ law kept. law just_dumped (asks.Newcomer Join) kept refl

pub returns-clause-eras : goal.returns-clause-eras
returns-clause-eras c = λ law kept. law just_dumped (asks.Newcomer Join) 0 kept refl (search rules)

pub returns-clause-stale : goal.returns-clause-stale
returns-clause-stale c = λ law kept. law just_dumped kept
