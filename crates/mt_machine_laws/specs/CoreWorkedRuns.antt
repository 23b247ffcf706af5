-- Machines of worked examples.
use Rattle.std.specs.Prelude.{ℕ, List, [], ◌∷◌, ◌++◌, map}
use Rattle.mt_machine.specs.declared.event.Event.TheVariants.{Arrive, Pass, Release, Take}
use Rattle.mt_machine.specs.declared.phase.Phase.TheVariants.{Arrived, Arrived2}
use Rattle.mt_machine.specs.Machine.{BarrierCount, Goes, MachineEvent, Steps}
use Rattle.mt_machine.specs.System.{Processor}
use Rattle.mt_machine_laws.specs.MachineWorkedRuns.{idle}
use Rattle.mt_machine_laws.specs.RunWorkedRuns.{between_of_bare, pair_between, way_on}

abbrev pub count : ℕ → ℕ → BarrierCount
count arrived awaited = record { arrived = arrived; awaited = awaited }

-- at the first barrier, and at the second
abbrev pub come : Processor
come = record idle { phase = Arrived }

abbrev pub come_again : Processor
come_again = record idle { phase = Arrived2 }

-- a whole update of one processor by events, without the step to the barrier, and of two up to the first release
abbrev pub events_of_bare : List MachineEvent
events_of_bare = Goes ∷ Steps 0 Take ∷ (between_of_bare ++ Steps 0 Release ∷ [])

abbrev pub without_arrive : List MachineEvent
without_arrive = Goes ∷ Steps 0 Take ∷ (map (Steps 0) (Pass ∷ way_on) ++ Steps 0 Release ∷ [])

abbrev pub to_first_release : List MachineEvent
to_first_release =
    Goes ∷ Steps 0 Take ∷ Steps 0 Arrive ∷ Steps 1 Take ∷ Steps 1 Arrive ∷ Steps 0 Pass ∷ (pair_between ++ Steps 1 Release ∷ [])
