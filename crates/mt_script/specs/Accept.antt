-- Which commands a situation admits, and what they make of it (own).
--     Fits now command      what holds of each command that a line is read as
--     accepted now command      the situation after the command
--     finished now dump      the situation after the dump's end
use Rattle.std.specs.Prelude.{ℕ, nat_eq, ◌≡◌, ◌≤◌, ◌<◌, ◌^◌, ◌%◌, true, false, [], ◌∷◌, ◌++◌, Some, ⊤}
use Rattle.std.specs.Set.{is_member}
use Rattle.mt_kinds.specs.Sizes.{most_lines, page_bytes}
use Rattle.mt_dump.specs.Dumps.{Dump}
use Rattle.mt_script.specs.Situation.{Situation, file_of, most_processors}
use Rattle.mt_script.specs.Numbers.{has_room, is_register, is_writable, address_limit}
use Rattle.mt_script.specs.Stages.{takes_cpus, takes_dump, takes_windows, takes_commands, is_in_dump, takes_registers, takes_end}
use Rattle.mt_script.specs.declared.command.Stage.{Stage}
use Rattle.mt_script.specs.declared.command.Stage.TheVariants.{NeedDump, InDump, Rams, Commands, InUpdate, InBegin}
use Rattle.mt_script.specs.declared.command.Command.{Command}
use Rattle.mt_script.specs.declared.command.Command.TheVariants as command
use Rattle.mt_script.specs.declared.command.Section.TheVariants.{Update, Begin, Register, End}
use Rattle.mt_script.specs.declared.command.Ask.{Ask}
use Rattle.mt_script.specs.declared.command.Ask.TheVariants as ask

-- commands may be given, this one to this processor
abbrev pub IsFor : Situation → ℕ → Type 0
IsFor now k = (takes_commands now.stage ≡ true) × (k < most_processors now)

-- an address is a multiple of a step and below a limit
abbrev pub IsAligned : ℕ → ℕ → ℕ → Type 0
IsAligned step limit address = (address % step ≡ 0) × (address < limit)

-- what may be asked of a processor
abbrev pub FitsAsk : Situation → Ask → Type 0
FitsAsk now (ask.Load address) = IsAligned 8 (2 ^ 48) address
FitsAsk now (ask.Store address value) = IsAligned 8 (2 ^ 48) address × (value < 2 ^ 64)
FitsAsk now (ask.Map m) = IsAligned page_bytes (2 ^ 48) m.address × IsAligned page_bytes (address_limit (file_of now)) m.physical × (m.index ≤ 7)
FitsAsk now (ask.Invlpg address) = IsAligned 1 (2 ^ 48) address
FitsAsk now (ask.Msr msr) = is_register (file_of now) msr ≡ true
FitsAsk now other = ⊤

abbrev pub Fits : Situation → Command → Type 0
Fits now command.Blank = is_in_dump now.stage ≡ false
Fits now (command.Cpus n) = (takes_cpus now.stage ≡ true) × (1 ≤ n) × (n ≤ 16)
Fits now command.Dump = takes_dump now.stage ≡ true
Fits now command.DumpLine = is_in_dump now.stage ≡ true
Fits now (command.Ram base lines) = (takes_windows now.stage ≡ true) × (base % 64 ≡ 0) × (1 ≤ lines) × (lines ≤ most_lines) × (has_room now base lines ≡ true)
Fits now (command.Selfsnoop k) = (takes_windows now.stage ≡ true) × (k < most_processors now)
Fits now (command.Section (Register msr value)) =
    (takes_registers now.stage ≡ true) × (is_writable (file_of now) msr ≡ true) × (is_member nat_eq now.seen msr ≡ false)
Fits now (command.Section End) = takes_end now.stage ≡ true
Fits now (command.Ask k a) = IsFor now k × FitsAsk now a
Fits now (command.Word address) = (takes_commands now.stage ≡ true) × IsAligned 8 (address_limit (file_of now)) address
Fits now other = takes_commands now.stage ≡ true

abbrev pub in_commands : Situation → Situation
in_commands now = record now { stage = Commands }

-- a processor may come or go
abbrev pub in_motion : Situation → Situation
in_motion now = record (in_commands now) { moving = true }

-- a section begins, in which no register is given yet
abbrev pub in_section_of : Stage → Situation → Situation
in_section_of stage now = record now { stage = stage; seen = [] }

abbrev pub accepted : Situation → Command → Situation
accepted now command.Blank = now
accepted now (command.Cpus n) = record now { stage = NeedDump; cpus = n }
accepted now command.Dump = record now { stage = InDump }
accepted now command.DumpLine = now
accepted now (command.Ram base lines) = record now { windows = now.windows ++ (base, lines) ∷ [] }
accepted now (command.Selfsnoop k) = now
accepted now (command.Section Update) = in_section_of InUpdate now
accepted now (command.Section Begin) = in_section_of InBegin now
accepted now (command.Section (Register msr value)) = record now { seen = now.seen ++ msr ∷ [] }
accepted now (command.Section End) = in_section_of Commands now
accepted now (command.Newcomer n) = in_motion now
accepted now command.Retire = in_motion now
accepted now other = in_commands now

abbrev pub finished : Situation → Dump → Situation
finished now dump = record now { stage = Rams; dump = Some dump; seen = [] }
