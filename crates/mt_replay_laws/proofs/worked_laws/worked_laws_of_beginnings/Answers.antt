use Rattle.std.proofs.Common.{◌≡◌, refl, true}
use Rattle.std.specs.Prelude.{drop, take}
use Rattle.mt_dump.specs.Dumps.{dump_of}
use Rattle.mt_machine_laws.specs.MachineWorkedRuns.{bare_file}
use Rattle.mt_replay.specs.Steps.{course}
use Rattle.mt_replay_laws.specs.Through.{HoldsThrough}
use Rattle.mt_replay_laws.specs.WorkedScript.{is_idle, join_at, join_script}
use Rattle.mt_replay_laws.proofs.Courses.Worked.{stands}
use Rattle.mt_replay_laws.proofs.WorkedDumps.{join_shows}
use Rattle.mt_replay_laws.proofs.worked_laws.worked_laws_of_beginnings.Goals as goal

-- before each of its five commands, and behind the last
none_under_way : HoldsThrough (λ s. is_idle s ≡ true) join_script
none_under_way = (refl, (refl, (refl, (refl, (refl, (refl, tt))))))

pub returns-clause-first_step : goal.returns-clause-first_step
returns-clause-first_step c = λ law accepted.
    let told = law join_script (dump_of (bare_file 0x800)) join_shows accepted in
    (told.0, told.1, told.3 (join_at 0) (drop 1 (course join_script)) (stands (course join_script) 0 0 refl))

pub returns-clause-states : goal.returns-clause-states
returns-clause-states c = λ law. law join_script is_idle none_under_way (take 1 (course join_script)) (drop 2 (course join_script)) (join_at 1) (stands (course join_script) 1 0 refl)
