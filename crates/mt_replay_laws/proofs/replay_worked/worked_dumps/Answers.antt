use Rattle.std.proofs.Common.{refl, ap, arith}
use Rattle.std.specs.Prelude.{codes}
use Rattle.mt_dump.specs.Dumps.{Dump, dump_of, first_file}
use Rattle.mt_machine_laws.specs.MachineWorkedRuns.{bare_file}
use Rattle.mt_replay_laws.specs.WorkedStates.{small_dump}
use Rattle.mt_replay.proofs.Refusals.Outcomes.{one_dump_shown, shows_none}
use Rattle.mt_replay_laws.proofs.WorkedDumps.{shows}
use Rattle.mt_replay_laws.proofs.replay_worked.worked_dumps.Goals as goal

pub returns-clause-shows : goal.returns-clause-shows
returns-clause-shows c = shows

pub returns-clause-shows_no_other : goal.returns-clause-shows_no_other
returns-clause-shows_no_other c = λ h. omega (arith, ap (λ (d : Dump). (first_file d).default_type) (one_dump_shown small_dump (dump_of (bare_file 0x806)) (dump_of (bare_file 0x800)) shows h))

pub returns-clause-no_end : goal.returns-clause-no_end
returns-clause-no_end c = shows_none (codes "cpus 1\ndump\n0fe 400\n") refl

pub returns-clause-offence_before_the_end : goal.returns-clause-offence_before_the_end
returns-clause-offence_before_the_end c = shows_none (codes "cpus 1\ndump\n0fe 400\n0fe 400\nend\n") refl

pub returns-clause-too_few_processors : goal.returns-clause-too_few_processors
returns-clause-too_few_processors c = shows_none (codes "cpus 1\ndump\nversion 2\ncpu 0\n0fe 400\ncpu 1\nend\n") refl

pub returns-clause-first_state : goal.returns-clause-first_state
returns-clause-first_state c = (refl, tt)

pub returns-clause-not_of_the_first_state : goal.returns-clause-not_of_the_first_state
returns-clause-not_of_the_first_state c = λ h. absurd (cc h.0)
