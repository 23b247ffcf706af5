-- A worked update of two processors without pairs and fixed ranges.
use Rattle.std.specs.Prelude.{List, [], ◌∷◌, ◌++◌, map}
use Rattle.mt_machine.specs.declared.event.Event.{Event}
use Rattle.mt_machine.specs.declared.event.Event.TheVariants.{Arrive, Pass, SetNoFill, DropLines, FlushTlb, Disable, Write, Enable, SetNormal, RestorePge, ArriveAgain, Release}
use Rattle.mt_machine.specs.declared.go.Go.TheVariants.{Given}
use Rattle.mt_machine.specs.Machine.{Machine, Order, MachineEvent, Calls, Goes, Steps, run}
use Rattle.mt_machine.specs.Start.{start_machine}
use Rattle.mt_machine_laws.specs.MachineWorkedRuns.{bare, bare_file, bare_snooper, walk}

abbrev pub pair_order : Order
pair_order = record { goal = bare_file 0x806; from_era = 0; go = Given }

-- two processors at their start, and two whose files differ
abbrev pub pair : Machine
pair = start_machine (bare_file 0x800 ∷ bare_file 0x800 ∷ []) []

abbrev pub unlike_pair : Machine
unlike_pair = start_machine (bare_file 0x800 ∷ bare_file 0x801 ∷ []) []

-- both have arrived, and the go is given
abbrev pub pair_arrived : Machine
pair_arrived = walk 2 1 (walk 2 0 (run pair (Calls (bare_file 0x806) ∷ Goes ∷ [])))

-- a processor's events from its pass to the second barrier
abbrev pub way_on : List Event
way_on = SetNoFill ∷ DropLines ∷ FlushTlb ∷ Disable ∷ Write 0 ∷ Enable ∷ DropLines ∷ FlushTlb ∷ SetNormal ∷ RestorePge ∷ ArriveAgain ∷ []

-- after the first has passed it goes on to the second barrier, and then the other does
abbrev pub pair_between : List MachineEvent
pair_between = map (Steps 0) way_on ++ map (Steps 1) (Pass ∷ way_on)

-- then the other releases
abbrev pub pair_released : Machine
pair_released = run pair_arrived (Steps 0 Pass ∷ pair_between ++ Steps 1 Release ∷ [])

-- one processor without pairs and fixed ranges whose go was given, and its events between its take and its release
abbrev pub bare_called : Machine
bare_called = run bare (Calls (bare_file 0x806) ∷ Goes ∷ [])

-- the same of a self-snooping one, and its way to the second barrier
abbrev pub snooper_called : Machine
snooper_called = run bare_snooper (Calls (bare_file 0x806) ∷ Goes ∷ [])

abbrev pub way_of_snooper : List Event
way_of_snooper = SetNoFill ∷ FlushTlb ∷ Disable ∷ Write 0 ∷ Enable ∷ DropLines ∷ FlushTlb ∷ SetNormal ∷ RestorePge ∷ ArriveAgain ∷ []

abbrev pub between_of_snooper : List MachineEvent
between_of_snooper = map (Steps 0) (Arrive ∷ Pass ∷ way_of_snooper)

abbrev pub between_of_bare : List MachineEvent
between_of_bare = map (Steps 0) (Arrive ∷ Pass ∷ way_on)
