-- When a step does nothing.
use Rattle.std.specs.Prelude.{◌≡◌, ℕ, Bool, true, ◌||◌, slice_get, Some}
use Rattle.std.specs.Option.{option_map_or}
use Rattle.mt_machine.specs.System.{Processor}
use Rattle.mt_machine.specs.Access.{is_running}
use Rattle.mt_machine.specs.Machine.{Machine, has_released, is_cancelled}
use Rattle.mt_core.specs.declared.stepped.Stepped.TheVariants.{NoUpdate}
use Rattle.mt_core.specs.Arises.{Arises}
use Rattle.mt_core.specs.Steps.{step_answer}

-- no update is under way, or it is cancelled, or the processor has released already
abbrev pub is_outside : Machine → Processor → Bool
is_outside m p = option_map_or (λ o. is_cancelled o.go || has_released o p) m.order true

-- a step of processor k answers NoUpdate exactly where p runs outside an update
abbrev pub StopsWhereOutside : Machine → ℕ → Processor → Type 0
StopsWhereOutside m k p =
    (step_answer m k ≡ NoUpdate → (is_running p.phase ≡ true) × (is_outside m p ≡ true))
    × (is_running p.phase ≡ true → is_outside m p ≡ true → step_answer m k ≡ NoUpdate)

abbrev pub StopsOutside : Type 0
StopsOutside =
    (m : Machine) (k : ℕ) (p : Processor) → Arises m → slice_get m.system.processors k ≡ Some p → StopsWhereOutside m k p
