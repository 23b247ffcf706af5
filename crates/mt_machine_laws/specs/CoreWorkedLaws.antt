-- States at which laws are shown to speak of something: two processors in era 3, of which none is like the other.
use Rattle.std.specs.Prelude.{false, true, List, [], ◌∷◌, ◌++◌, drop, map}
use Rattle.mt_machine.specs.declared.control.Control.TheVariants.{Pge}
use Rattle.mt_machine.specs.declared.event.Event.TheVariants.{Arrive, Pass, Release, SetNoFill, Take, WriteBack}
use Rattle.mt_machine.specs.declared.op.Op.TheVariants.{Fence}
use Rattle.mt_machine.specs.Machine.{Accesses, Calls, Controls, Goes, Machine, MachineEvent, Steps, next, run}
use Rattle.mt_machine.specs.System.{Processor, start_processor}
use Rattle.mt_machine_laws.specs.MachineWorkedRuns.{bare_file, entry, line_of, load, machine_of, mapping, store}
use Rattle.mt_machine_laws.specs.WorkedSetups.{second_word}
use Rattle.mt_machine_laws.specs.RunWorkedRuns.{way_of_snooper, way_on}

-- it has a line with dirty words, and combines words 1 and 2 of the line before it
abbrev pub first_of_unlike : Processor
first_of_unlike = record (start_processor (bare_file 0x801)) { lines = line_of 0x4001 3 ∷ []; buffers = line_of 0x4000 3 ∷ []; era = 3 }

-- it combines word 1 too, with a value of its own, and is self-snooping
abbrev pub second_of_unlike : Processor
second_of_unlike = record (start_processor (bare_file 0x800)) {
  mappings = mapping 1 0x100 0 ∷ [];
  buffers = record second_word { era = 3 } ∷ [];
  entries = record (entry 1 false) { era = 3 } ∷ [];
  era = 3;
  self_snoop = true;
}

abbrev pub two_unlike : Machine
two_unlike = machine_of (first_of_unlike ∷ second_of_unlike ∷ [])

-- the go of their update is given, and both have arrived
abbrev pub unlike_given : Machine
unlike_given = run two_unlike (Calls (bare_file 0x806) ∷ Goes ∷ [])

abbrev pub unlike_arrived : Machine
unlike_arrived = run unlike_given (map (Steps 0) (Take ∷ Arrive ∷ []) ++ map (Steps 1) (Take ∷ Arrive ∷ []))

-- the second passes, and goes on to the second barrier, and then the first does
abbrev pub behind_pass : List MachineEvent
behind_pass = map (Steps 1) way_of_snooper ++ map (Steps 0) (Pass ∷ SetNoFill ∷ WriteBack 0x100048 6 ∷ WriteBack 0x100050 7 ∷ drop 1 way_on)

abbrev pub unlike_passed : Machine
unlike_passed = run unlike_arrived (Steps 1 Pass ∷ behind_pass)

-- the second releases
abbrev pub unlike_released : Machine
unlike_released = next unlike_passed (Steps 1 Release)

-- from there on, up to the next call
abbrev pub behind_release : List MachineEvent
behind_release = load 1 0x1008 ∷ Steps 0 Release ∷ Controls 0 (Pge true) ∷ []

-- behind an update without a call
abbrev pub uncalled : List MachineEvent
uncalled = load 1 0x1008 ∷ Controls 0 (Pge true) ∷ store 1 0x1010 5 ∷ []

-- between the take of the second and its release, the first first does a fence
abbrev pub unlike_between : List MachineEvent
unlike_between = Accesses 0 Fence ∷ Steps 1 Arrive ∷ Steps 0 Take ∷ Steps 0 Arrive ∷ Steps 1 Pass ∷ behind_pass
