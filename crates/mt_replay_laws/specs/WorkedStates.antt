-- States and machines of worked instances.
use Rattle.std.specs.Prelude.{ℕ, true, false, List, [], ◌∷◌, codes, replicate, slice_set, Some}
use Rattle.mt_dump.specs.Dumps.{dump_of}
use Rattle.mt_flat.specs.Flat.{Flat}
use Rattle.mt_machine.specs.Memory.{Memory}
use Rattle.mt_machine.specs.System.{Processor}
use Rattle.mt_machine.specs.Machine.{Machine, MachineEvent, Calls, run}
use Rattle.mt_machine.specs.Update.{updated}
use Rattle.mt_machine_laws.specs.MachineWorkedRuns.{bare_file, idle, machine_of, mapping, palette, store}
use Rattle.mt_script.specs.Situation.{Situation, at_start}
use Rattle.mt_script.specs.declared.command.Command.TheVariants as command
use Rattle.mt_script.specs.declared.command.Newcomer.TheVariants.{Join}
use Rattle.mt_script.specs.declared.command.Stage.{Stage}
use Rattle.mt_script.specs.declared.command.Stage.TheVariants.{Commands, InDump, InUpdate}
use Rattle.mt_replay.specs.ReplayState.{ReplayState, first_state, machine_after}

abbrev pub two_processors : Stage → Situation
two_processors stage = record { stage = stage; cpus = 2; dump = Some (dump_of (bare_file 0x800)); windows = (0x100000, 64) ∷ []; seen = []; moving = false }

-- two processors with this machine, whose goal has no fault
abbrev pub state_of : Stage → Machine → ReplayState
state_of stage m = record { now = two_processors stage; machine = m; goal = bare_file 0x800 }

-- so many processors at rest, behind one that came or went
abbrev pub crowd : ℕ → ReplayState
crowd count = record { now = record (two_processors Commands) { moving = true }; machine = machine_of (replicate count idle); goal = bare_file 0x800 }

-- with an update under way
abbrev pub crowd_in_update : ℕ → ReplayState
crowd_in_update count = record (crowd count) { machine = run (machine_of (replicate count idle)) (Calls (bare_file 0x800) ∷ []) }

-- one page is mapped five times
abbrev pub painted : ReplayState
painted = state_of Commands palette

-- after these events
abbrev pub painted_by : List MachineEvent → ReplayState
painted_by es = state_of Commands (run palette es)

-- both have an accepted file, and no update is under way
abbrev pub resting : Stage → ReplayState
resting stage = state_of stage (machine_of (idle ∷ idle ∷ []))

-- one is
abbrev pub busy : Stage → ReplayState
busy stage = state_of stage (run (machine_of (idle ∷ idle ∷ [])) (Calls (bare_file 0x800) ∷ []))

-- each word is nine, and nothing is pending
abbrev pub nines : Flat
nines = record { values = λ address. 9; pending = λ k. [] }

-- with another memory
abbrev pub over : Memory → Machine → Machine
over memory m = record m { system = record m.system { memory = memory } }

-- with another first processor
abbrev pub with_first : Processor → Machine → Machine
with_first p m = record m { system = record m.system { processors = slice_set m.system.processors 0 p } }

-- ---- after whole updates

-- the word at 100000H is dirty in a cache, at the end of a section
abbrev pub at_end : ReplayState
at_end = state_of InUpdate (run palette (store 0 0x1000 7 ∷ []))

-- the machine after its update
abbrev pub after_end : Machine
after_end = updated at_end.machine.system (0 ∷ 1 ∷ []) (bare_file 0x800)

-- a whole update of two processors, of which nothing is dirty
abbrev pub after_rest : Machine
after_rest = updated (resting InUpdate).machine.system (0 ∷ 1 ∷ []) (bare_file 0x800)

-- a processor behind an update
abbrev pub risen : Processor
risen = record idle { era = 1 }

-- the second processor has finished more updates than the first, and has a page mapped; and a machine that is settled for the first one's era
abbrev pub late_at_end : ReplayState
late_at_end = state_of InUpdate (machine_of (idle ∷ record idle { mappings = mapping 1 0x100 0 ∷ []; era = 5 } ∷ []))

abbrev pub late_after_end : Machine
late_after_end = machine_of (risen ∷ risen ∷ [])

-- ---- after joins

abbrev pub after_join : ReplayState → Machine
after_join s = machine_after s (command.Newcomer Join)

-- a word is dirty in a cache
abbrev pub stored : ReplayState
stored = painted_by (store 0 0x1000 7 ∷ [])

-- the second of two has finished more updates
abbrev pub unlike_eras : ReplayState
unlike_eras = record (crowd 2) { machine = late_at_end.machine }

-- ---- dumps

-- a script that is no more than its dump, and its first state
abbrev pub small_dump : List ℕ
small_dump = codes "cpus 1\ndump\n0fe 400\n2ff 806\nend\n"

abbrev pub just_dumped : ReplayState
just_dumped = first_state (record at_start { stage = InDump; cpus = 1 }) (dump_of (bare_file 0x806))

-- the second section has a type that there is not
abbrev pub later_refused : List ℕ
later_refused = codes "cpus 2\ndump\nversion 2\ncpu 0\n0fe 400\n2ff 806\ncpu 1\n2ff 803\nend\n"
