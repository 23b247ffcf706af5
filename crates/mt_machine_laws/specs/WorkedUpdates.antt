-- Worked updates of one processor with a buffer, and with a cached line that is dirty.
use Rattle.std.specs.Prelude.{List, [], ◌∷◌, ◌++◌, drop, map, take}
use Rattle.mt_machine.specs.declared.event.Event.{Event}
use Rattle.mt_machine.specs.declared.event.Event.TheVariants.{Arrive, ArriveAgain, Disable, DropLines, Enable, FlushTlb, Pass, Release, RestorePge, SetNoFill, SetNormal, Take, Write, WriteBack}
use Rattle.mt_machine.specs.declared.go.Go.TheVariants.{Given}
use Rattle.mt_machine.specs.declared.phase.Phase.TheVariants.{Taken}
use Rattle.mt_machine.specs.Machine.{Machine, MachineEvent, Order, Goes, Steps, next, run}
use Rattle.mt_machine_laws.specs.MachineWorkedRuns.{alone, bare_file, call_order, calling, ready, whole}
use Rattle.mt_machine_laws.specs.RunWorkedRuns.{pair_between, way_on}

-- its buffer has words 1 and 2 of the window
abbrev pub buffered : Machine
buffered = alone (record whole { lines = [] })

-- from its call to its release
abbrev pub by_buffered : List MachineEvent
by_buffered = Steps 0 Take ∷ Goes ∷ map (Steps 0) (Arrive ∷ Pass ∷ way_on ++ Release ∷ [])

-- it has taken, and its cache has these words
abbrev pub dirty_taken : Machine
dirty_taken = calling call_order (record whole { phase = Taken; buffers = [] } ∷ [])

-- up to the first flush, which writes both words back
abbrev pub to_flush : List MachineEvent
to_flush = Goes ∷ map (Steps 0) (Arrive ∷ Pass ∷ SetNoFill ∷ [])

abbrev pub write_backs : List Event
write_backs = WriteBack 0x100008 6 ∷ WriteBack 0x100010 7 ∷ []

-- and up to its release; and from its pass on
abbrev pub to_release : List MachineEvent
to_release = Goes ∷ map (Steps 0) (Arrive ∷ Pass ∷ SetNoFill ∷ write_backs ++ DropLines ∷ FlushTlb ∷ Disable ∷ Write 0 ∷ Enable ∷ DropLines ∷ FlushTlb ∷ SetNormal ∷ RestorePge ∷ ArriveAgain ∷ [])

abbrev pub dirty_way : List MachineEvent
dirty_way = drop 3 to_release

-- two that have taken
abbrev pub ready_pair : Machine
ready_pair = calling call_order (ready ∷ ready ∷ [])

-- their update up to the release of the second, while the first is at the second barrier
abbrev pub pair_to_release : List MachineEvent
pair_to_release = Goes ∷ Steps 0 Arrive ∷ Steps 1 Arrive ∷ Steps 0 Pass ∷ (pair_between ++ Steps 1 Release ∷ [])

-- the one with the dirty line at its pass, and released
abbrev pub given_order : Order
given_order = record call_order { go = Given }

abbrev pub to_pass : List MachineEvent
to_pass = Goes ∷ Steps 0 Arrive ∷ []

abbrev pub at_pass : Machine
at_pass = run dirty_taken to_pass

abbrev pub dirty_released : Machine
dirty_released = next (run dirty_taken to_release) (Steps 0 Release)

-- two that have taken, of which the second has other registers, an entry and the dirty line
abbrev pub two_taken : Machine
two_taken = calling call_order (ready ∷ record whole { file = bare_file 0x801; phase = Taken; buffers = [] } ∷ [])

-- up to the first pass, and on to where the first has written its first register and the second is to write its words back
abbrev pub two_to_pass : List MachineEvent
two_to_pass = Goes ∷ Steps 1 Arrive ∷ Steps 0 Arrive ∷ []

abbrev pub two_to_change : List MachineEvent
two_to_change = two_to_pass ++ (Steps 1 Pass ∷ Steps 1 SetNoFill ∷ map (Steps 0) (Pass ∷ take 5 way_on))

abbrev pub two_in_change : Machine
two_in_change = run two_taken two_to_change
