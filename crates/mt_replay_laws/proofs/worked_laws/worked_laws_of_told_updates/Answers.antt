use Rattle.std.proofs.Common.{◌≡◌, ◌∷◌, [], arith, false, refl}
use Rattle.std.specs.Prelude.{drop, not}
use Rattle.std.specs.List.{All}
use Rattle.std.proofs.lemmas.Bool.{not-true}
use Rattle.mt_dump.specs.Dumps.{dump_of}
use Rattle.mt_machine_laws.specs.RunWorkedRuns.{pair_order}
use Rattle.mt_laws.proofs.Words.Sound.{test_all}
use Rattle.mt_machine.specs.Machine.{has_released}
use Rattle.mt_machine_laws.specs.MachineWorkedRuns.{bare_file}
use Rattle.mt_script.specs.declared.command.Command.TheVariants as asks
use Rattle.mt_script.specs.declared.command.Ask.TheVariants as ask
use Rattle.mt_replay.specs.Steps.{course, left}
use Rattle.mt_replay.specs.Kept.{IsReplayState}
use Rattle.mt_replay_laws.specs.Settling.{AreWithoutCall}
use Rattle.mt_replay_laws.specs.WorkedScript.{front_of, step_at, worked_script}
use Rattle.mt_replay_laws.specs.WorkedStates.{just_dumped, small_dump}
use Rattle.mt_replay_laws.proofs.Courses.States.{around_step}
use Rattle.mt_replay_laws.proofs.Courses.Worked.{stands}
use Rattle.mt_replay_laws.proofs.Whole.{scripts_keep}
use Rattle.mt_replay_laws.proofs.worked_laws.worked_laws_of_told_updates.Goals as goal

at_update : IsReplayState (step_at 44).before
at_update = (around_step IsReplayState worked_script (scripts_keep worked_script) (front_of 44) (drop 45 (course worked_script)) (step_at 44) (stands (course worked_script) 44 0 refl)).0

at_release : IsReplayState (step_at 37).before
at_release = (around_step IsReplayState worked_script (scripts_keep worked_script) (front_of 37) (drop 38 (course worked_script)) (step_at 37) (stands (course worked_script) 37 0 refl)).0

without : AreWithoutCall (left (step_at 44)) (asks.Ask 0 (ask.Load 0x1000) ∷ [])
without = (((refl, omega arith), (refl, omega arith)), (λ e. absurd (cc e), λ h. let e = h.1 in absurd (cc e)), tt)

unreleased : All (λ q. has_released (record pair_order { goal = bare_file 0x800 }) q ≡ false) (step_at 37).before.machine.system.processors
unreleased =
    test_all (λ q. not (has_released (record pair_order { goal = bare_file 0x800 }) q)) (λ q. has_released (record pair_order { goal = bare_file 0x800 }) q ≡ false)
    (λ q. not-true (has_released (record pair_order { goal = bare_file 0x800 }) q)) (step_at 37).before.machine.system.processors refl

pub returns-clause-complete : goal.returns-clause-complete
returns-clause-complete c = λ law. law (step_at 44).before at_update refl refl

pub returns-clause-words : goal.returns-clause-words
returns-clause-words c = λ law. law (step_at 44).before (asks.Ask 0 (ask.Load 0x1000) ∷ []) at_update refl refl without

pub returns-clause-released : goal.returns-clause-released
returns-clause-released c = λ law. law (step_at 37).before 1 [] at_release ((refl, omega arith), tt) refl tt

pub returns-clause-held : goal.returns-clause-held
returns-clause-held c = λ law.
    let told = law (step_at 37).before (dump_of (bare_file 0x806)) (record pair_order { goal = bare_file 0x800 }) 1 [] at_release refl ((refl, omega arith), tt) refl refl unreleased tt in
    (told.0, told.3, told.4)

pub returns-clause-joined : goal.returns-clause-joined
returns-clause-joined c = λ law. law just_dumped (scripts_keep small_dump).0 refl refl
