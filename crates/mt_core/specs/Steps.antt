-- What a step answers and leaves (own).
use Rattle.std.specs.Prelude.{ℕ, if◌then◌else◌, List, slice_get, Option, None, Some}
use Rattle.std.specs.Option.{option_map_or}
use Rattle.mt_machine.specs.declared.phase.Phase.{Phase}
use Rattle.mt_machine.specs.declared.phase.Phase.TheVariants.{Arrived, Arrived2}
use Rattle.mt_machine.specs.System.{Processor, System}
use Rattle.mt_machine.specs.Machine.{BarrierCount, Machine, Order, Steps, due_at, first_barrier_count, is_cancelled, next, second_barrier_count}
use Rattle.mt_core.specs.declared.stepped.Stepped.{Stepped}
use Rattle.mt_core.specs.declared.stepped.Stepped.TheVariants.{Did, NoUpdate, Waits}

abbrev pub under_way : Order → System → Machine
under_way o s = record { system = s; order = Some o }

-- the count that a processor in this phase waits for, where it is at a barrier
abbrev pub count_at : Order → List Processor → Phase → Option BarrierCount
count_at o ps Arrived = if is_cancelled o.go then None else Some (first_barrier_count o ps)
count_at o ps Arrived2 = Some (second_barrier_count o ps)
count_at o ps other = None

-- the answer in this phase where no event is due
abbrev pub pause : Order → List Processor → Phase → Stepped
pause o ps ph = option_map_or (λ c. Waits c.arrived c.awaited) (count_at o ps ph) NoUpdate

abbrev pub pause_at : Machine → ℕ → Stepped
pause_at m k =
    option_map_or
    (λ o. option_map_or (λ p. pause o m.system.processors p.phase) (slice_get m.system.processors k) NoUpdate)
    m.order
    NoUpdate

-- the event that is due, or else why there is none
abbrev pub step_answer : Machine → ℕ → Stepped
step_answer m k = option_map_or Did (due_at m k) (pause_at m k)

-- nothing changes where no event is due
abbrev pub step_after : Machine → ℕ → Machine
step_after m k = option_map_or (λ e. next m (Steps k e)) (due_at m k) m
