-- Steps of worked instances: a section of `begin` without lines, its end, a pass and a release; and what an update keeps.
use Rattle.std.specs.Prelude.{ℕ, false, List, [], ◌∷◌, ◌==◌, if◌then◌else◌, replicate, None}
use Rattle.mt_regs.specs.RegisterFile.{RegisterFile, blank_file}
use Rattle.mt_machine.specs.System.{Processor, start_processor}
use Rattle.mt_machine.specs.Machine.{Machine}
use Rattle.mt_machine_laws.specs.MachineWorkedRuns.{calling, line_of}
use Rattle.mt_machine_laws.specs.RunWorkedRuns.{pair_order}
use Rattle.mt_machine_laws.specs.CoreWorkedRuns.{come, come_again}
use Rattle.mt_script.specs.declared.command.Command.{Command}
use Rattle.mt_script.specs.declared.command.Command.TheVariants as command
use Rattle.mt_script.specs.declared.command.Section.TheVariants.{Begin, End}
use Rattle.mt_script.specs.declared.command.Ask.TheVariants as ask
use Rattle.mt_script.specs.declared.command.Stage.TheVariants.{Commands, InBegin}
use Rattle.mt_replay.specs.ReplayState.{ReplayState}
use Rattle.mt_replay_laws.specs.Headline.{KeepsUpdate}
use Rattle.mt_replay.specs.Steps.{ScriptStep}
use Rattle.mt_replay_laws.specs.WorkedStates.{busy, painted, resting, state_of}

abbrev pub step_of : Command → ReplayState → ScriptStep
step_of c s = record { number = 1; command = c; before = s }

abbrev pub stores : ℕ → ℕ → ℕ → Command
stores k address value = command.Ask k (ask.Store address value)

-- stores of two processors, of which the first maps its page anew between
abbrev pub stores_around_a_mapping : List Command
stores_around_a_mapping =
    stores 0 0x6000 1
    ∷ command.Ask 0 (ask.Map (record { address = 0x6000; physical = 0x100000; index = 0; global = false }))
    ∷ stores 0 0x6010 1
    ∷ command.Ask 0 (ask.Load 0x1008)
    ∷ stores 1 0x1000 2
    ∷ []

abbrev pub begins : ScriptStep
begins = step_of (command.Section Begin) (resting Commands)

abbrev pub calls : ScriptStep
calls = step_of (command.Section End) (resting InBegin)

-- the end of a section while an update is under way
abbrev pub is_late : ScriptStep
is_late = step_of (command.Section End) (busy InBegin)

abbrev pub passes_by : List Processor → ScriptStep
passes_by ps = step_of (command.Ask 0 ask.Step) (state_of Commands (calling pair_order ps))

abbrev pub passes : ScriptStep
passes = passes_by (come ∷ come ∷ [])

-- the other processor has a store in a buffer
abbrev pub passes_over_a_buffer : ScriptStep
passes_over_a_buffer = passes_by (come ∷ record come { buffers = line_of 0x4000 0 ∷ [] } ∷ [])

abbrev pub releases : ScriptStep
releases = passes_by (come_again ∷ come_again ∷ [])

abbrev pub first_store : ScriptStep
first_store = step_of (command.Ask 0 (ask.Store 0x1000 7)) painted

-- ---- what an update keeps

abbrev pub worked_file : RegisterFile
worked_file = blank_file 36 0x400

-- a machine of one processor, whose memory has one line of zeros
abbrev pub machine_of : Processor → Machine
machine_of p = record { system = record { processors = p ∷ []; memory = record { windows = record { base = 0x100000; lines = 1 } ∷ []; words = replicate 8 0 } }; order = None }

-- a processor behind its first update
abbrev pub updated_processor : Processor
updated_processor = record (start_processor worked_file) { era = 1 }

-- the machine keeps what the headline promises of an update to this file, the first, behind which these words were stored
abbrev pub IsKept : (ℕ → ℕ) → List ℕ → Processor → Type 0
IsKept value stored p = KeepsUpdate worked_file 1 value stored (machine_of p)

-- the first word was stored, the others are zeros
abbrev pub seven_stored : ℕ → ℕ
seven_stored address = if address == 0x100000 then 7 else 0

-- the second word was stored, the others are zeros
abbrev pub second_is_seven : ℕ → ℕ
second_is_seven address = if address == 0x100008 then 7 else 0
