use Rattle.std.proofs.Common.{refl, rules, inr, drop, take, arith}
use Rattle.std.specs.Fmt.{digits}
use Rattle.hex.specs.Hex.{encode_with}
use Rattle.mt_script.specs.declared.command.Command.TheVariants as asks
use Rattle.mt_script.specs.declared.command.Newcomer.TheVariants.{Join}
use Rattle.mt_replay.specs.Steps.{course}
use Rattle.mt_replay_laws.specs.WorkedScript.{join_at, join_script, joins_at}
use Rattle.mt_replay_laws.specs.WorkedStates.{crowd, crowd_in_update}
use Rattle.mt_replay_laws.specs.WorkedSteps.{step_of}
use Rattle.mt_replay_laws.proofs.Courses.Tells.{none_calls}
use Rattle.mt_replay_laws.proofs.Courses.Worked.{stands}
use Rattle.mt_replay_laws.proofs.worked_laws.worked_laws_of_movers.Goals as goal

pub returns-clause-joined : goal.returns-clause-joined
unfolding digits encode_with
returns-clause-joined c = λ law.
    law join_script (take 1 (course join_script)) (joins_at 2 3) (drop 3 (drop 2 (course join_script))) (join_at 1) 1
    (stands (course join_script) 1 3 refl) (refl, refl) (none_calls (joins_at 2 3) refl)

pub returns-clause-newcomer : goal.returns-clause-newcomer
returns-clause-newcomer c = λ law. law join_script (take 1 (course join_script)) (drop 2 (course join_script)) (join_at 1) (stands (course join_script) 1 0 refl) (Join, refl)

pub returns-clause-retires : goal.returns-clause-retires
unfolding digits
returns-clause-retires c = λ law. (law (step_of asks.Retire (crowd 2)) refl).1 refl

pub returns-clause-under_way : goal.returns-clause-under_way
returns-clause-under_way c = λ law. law (step_of asks.Retire (crowd_in_update 2)) (inr refl) (search rules)

pub returns-clause-full : goal.returns-clause-full
returns-clause-full c = λ law. law (step_of (asks.Newcomer Join) (crowd 16)) (Join, refl) refl (omega arith)

pub returns-clause-alone : goal.returns-clause-alone
returns-clause-alone c = λ law. law (step_of asks.Retire (crowd 1)) refl refl (omega arith)
