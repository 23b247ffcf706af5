-- What holds in each state that arises.
use Rattle.std.specs.Prelude.{◌≡◌, ◌⊎◌, ◌<◌, ◌≤◌, ◌+◌, ℕ, true, false, not, ◌&&◌, ◌||◌, List, [], ◌∷◌, ◌++◌, length, slice_get, None, Some}
use Rattle.std.specs.List.{list_all}
use Rattle.mt_machine.specs.declared.phase.Phase.TheVariants.{Arrived, Arrived2}
use Rattle.mt_machine.specs.declared.event.Event.TheVariants.{Pass, Release, Take}
use Rattle.mt_machine.specs.System.{Processor, System}
use Rattle.mt_machine.specs.Machine.{AreEnabled, BarrierCount, IsEnabled, Machine, MachineEvent, Order, Steps, first_barrier_count, is_cancelled, next, second_barrier_count}
use Rattle.mt_machine.specs.Start.{IsQuiet}
use Rattle.mt_machine.specs.Update.{IsHeld, is_call, is_release, is_step_of}
use Rattle.mt_laws.specs.Barriers.{BarriersHold, NoneActsInChange, NoneRunsInChange}
use Rattle.mt_laws.specs.Counts.{IsCounted}
use Rattle.mt_laws.specs.Kept.{OrderHolds, is_of_update, is_take_step}
use Rattle.mt_laws.specs.Settled.{IsFirstRelease}
use Rattle.mt_core.specs.declared.stepped.Stepped.TheVariants.{Waits}
use Rattle.mt_core.specs.Arises.{Arises}
use Rattle.mt_core.specs.Since.{HaveNoBuffers, IsSettledSince, KeepsWord}
use Rattle.mt_core.specs.Steps.{step_answer}

-- from each release on, up to the next call, each processor's file is the goal, and nothing is held that is older than the update
abbrev pub SettledFromRelease : Type 0
SettledFromRelease =
    (m : Machine) (o : Order) (k : ℕ) (since : List MachineEvent) → Arises m → m.order ≡ Some o
    → IsEnabled m (Steps k Release) → AreEnabled (next m (Steps k Release)) since → list_all (λ e. not (is_call e)) since ≡ true
    → IsSettledSince (next m (Steps k Release)) o.from_era o.goal since

-- each word that no access stored since the first release is in memory as it was before the first pass
abbrev pub HeldFromFirstRelease : Type 0
HeldFromFirstRelease =
    (p r : Machine) (o : Order) (since : List MachineEvent) → Arises p → IsFirstRelease p r o → AreEnabled r since → IsHeld p.system r since

-- where some processor may pass the first barrier, none has a buffer
abbrev pub NoBuffersWhereOnePasses : Type 0
NoBuffersWhereOnePasses = (p : Machine) (k : ℕ) → Arises p → IsEnabled p (Steps k Pass) → HaveNoBuffers p.system.processors

abbrev pub IsQuietWithoutOrder : Type 0
IsQuietWithoutOrder = (m : Machine) → Arises m → m.order ≡ None → IsQuiet m

-- as many processors, and no era is more than one above what it was
pub record HasRisenByOne (s t : System) : Type 0 where
  pub same_number : length t.processors ≡ length s.processors
  pub eras : (k : ℕ) (p q : Processor) → slice_get s.processors k ≡ Some p → slice_get t.processors k ≡ Some q → q.era ≤ p.era + 1

abbrev pub ErasRise : Type 0
ErasRise = (m : Machine) (e : MachineEvent) → IsEnabled m e → HasRisenByOne m.system (next m e).system

-- ---- what holds of each reached state holds of each that arises

abbrev pub BarriersHoldThroughout : Type 0
BarriersHoldThroughout = (m : Machine) → Arises m → BarriersHold m

abbrev pub NoneRunsThroughout : Type 0
NoneRunsThroughout = (m : Machine) → Arises m → NoneRunsInChange m

abbrev pub NoneActsThroughout : Type 0
NoneActsThroughout = (m : Machine) → Arises m → NoneActsInChange m

abbrev pub OrdersHoldThroughout : Type 0
OrdersHoldThroughout = (m : Machine) (o : Order) → Arises m → m.order ≡ Some o → OrderHolds m o

-- no event of an update but Take changes a word's value
abbrev pub StepsKeepThroughout : Type 0
StepsKeepThroughout =
    (m : Machine) (e : MachineEvent) (address : ℕ) → Arises m → IsEnabled m e → is_of_update e ≡ true → is_take_step e ≡ false
    → KeepsWord m.system (next m e).system address

-- from a take to the release that follows it, with no other take of the processor between
abbrev pub StepsCountThroughout : Type 0
StepsCountThroughout =
    (m : Machine) (k : ℕ) (between : List MachineEvent) → Arises m
    → AreEnabled m (Steps k Take ∷ (between ++ Steps k Release ∷ []))
    → list_all (λ e. not (is_step_of k e && (is_take_step e || is_release e))) between ≡ true
    → IsCounted m k between

-- ---- where a step waits

abbrev pub IsBelowFull : BarrierCount → Type 0
IsBelowFull c = c.arrived < c.awaited

-- it stands at the first barrier of an update that isn't cancelled, or at the second, and this count is not full there
abbrev pub WaitsFor : Order → List Processor → Processor → BarrierCount → Type 0
WaitsFor o ps p c =
    ((p.phase ≡ Arrived) × (is_cancelled o.go ≡ false) × (c ≡ first_barrier_count o ps) × IsBelowFull c)
    ⊎ ((p.phase ≡ Arrived2) × (c ≡ second_barrier_count o ps) × IsBelowFull c)

-- so it waits in an update that is under way
abbrev pub WaitsIn : Machine → Processor → BarrierCount → Type 0
WaitsIn m p c = (o : Order) × (m.order ≡ Some o) × WaitsFor o m.system.processors p c

-- a step of processor k answers Waits with this count exactly where p waits for it
abbrev pub WaitsWhereFor : Machine → ℕ → Processor → BarrierCount → Type 0
WaitsWhereFor m k p c =
    (step_answer m k ≡ Waits c.arrived c.awaited → WaitsIn m p c)
    × ((o : Order) → m.order ≡ Some o → WaitsFor o m.system.processors p c → step_answer m k ≡ Waits c.arrived c.awaited)

abbrev pub WaitsAtBarriers : Type 0
WaitsAtBarriers =
    (m : Machine) (k : ℕ) (p : Processor) (c : BarrierCount) → slice_get m.system.processors k ≡ Some p → WaitsWhereFor m k p c
