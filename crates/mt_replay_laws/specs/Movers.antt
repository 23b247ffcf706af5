-- What a script's processors do as they come and go, by their lines (own).
--     Stays step text      the step writes this text, and leaves the machine as it was
--     RetiresWhereIdle      the last processor goes exactly where no update is under way and another stands
--     StaysUnderWay, StaysFull, StaysAlone      why none comes or goes
use Rattle.std.specs.Prelude.{ℕ, ◌≡◌, ◌<◌, ◌≤◌, ◌⊎◌, ◌↔◌, List, length, IsSome, None}
use Rattle.mt_machine.specs.ComingAndGoing.{last_number, without_last}
use Rattle.mt_script.specs.declared.command.Command.TheVariants as command
use Rattle.mt_replay.specs.Steps.{ScriptStep, left, wrote}
use Rattle.mt_replay_laws.specs.Coming.{BringsUp}
use Rattle.mt_replay.specs.Texts.{full_line, no_line, retired_line, under_way_line}

abbrev pub count_before : ScriptStep → ℕ
count_before step = length step.before.machine.system.processors

abbrev pub Stays : ScriptStep → List ℕ → Type 0
Stays step text = (wrote step ≡ text) × ((left step).machine ≡ step.before.machine)

-- the number that is written is that of the last processor, which goes
abbrev pub RetiresWhereIdle : Type 0
RetiresWhereIdle =
    (step : ScriptStep) → step.command ≡ command.Retire
    → ((wrote step ≡ retired_line (last_number step.before.machine.system)) ↔ ((step.before.machine.order ≡ None) × (1 < count_before step)))
    × (wrote step ≡ retired_line (last_number step.before.machine.system) → (left step).machine ≡ without_last step.before.machine)

-- none comes or goes while an update is under way
abbrev pub StaysUnderWay : Type 0
StaysUnderWay = (step : ScriptStep) → BringsUp step.command ⊎ (step.command ≡ command.Retire) → IsSome step.before.machine.order → Stays step under_way_line

-- none comes beside sixteen
abbrev pub StaysFull : Type 0
StaysFull = (step : ScriptStep) → BringsUp step.command → step.before.machine.order ≡ None → 16 ≤ count_before step → Stays step full_line

-- the only one doesn't go
abbrev pub StaysAlone : Type 0
StaysAlone = (step : ScriptStep) → step.command ≡ command.Retire → step.before.machine.order ≡ None → count_before step ≤ 1 → Stays step no_line
