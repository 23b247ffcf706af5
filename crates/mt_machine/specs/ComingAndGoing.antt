-- Processors that come up and go (own). A hardware reset clears only V and E and leaves the other bits of the range registers undefined,
-- and CR0.NW is left out, so the state in which a processor comes up is this project's.
use Rattle.std.specs.Prelude.{ℕ, ◌-◌, true, [], ◌∷◌, ◌++◌, length, take, slice_get}
use Rattle.std.specs.Option.{option_map_or}
use Rattle.std.specs.List.{fold}
use Rattle.mt_regs.specs.RegisterFile.{blank_file}
use Rattle.mt_machine.specs.Memory.{write_back}
use Rattle.mt_machine.specs.System.{Processor, System, lines_of, start_processor}
use Rattle.mt_machine.specs.Bus.{drain}
use Rattle.mt_machine.specs.Machine.{Machine}

-- a processor as it comes up: its file is blank, its cache is in no-fill mode, and it runs and holds nothing
abbrev pub newcomer : ℕ → ℕ → ℕ → Processor
newcomer width capabilities era = record (start_processor (blank_file width capabilities)) { cache_disabled = true; era = era }

-- with another's width, capabilities and era
abbrev pub newcomer_beside : Processor → Processor
newcomer_beside p = newcomer p.file.width p.file.capabilities p.era

-- one processor more, behind the others; these have one width, one value of the capabilities and one era. Beside none, none comes
abbrev pub reset : System → System
reset s = option_map_or (λ p. record s { processors = s.processors ++ newcomer_beside p ∷ [] }) (slice_get s.processors 0) s

-- processor k, the last, is taken away, once the dirty words of its lines are in memory
abbrev pub taken_away : ℕ → System → System
taken_away k s = record { processors = take k s.processors; memory = fold write_back s.memory (lines_of s k) }

abbrev pub last_number : System → ℕ
last_number s = length s.processors - 1

-- the last processor goes: its buffers are emptied, oldest first, its dirty words are written to memory, and it is taken away
abbrev pub gone : System → System
gone s = taken_away (last_number s) (drain (last_number s) s)

-- the same of a machine. No event does this: a core allows it while no update is under way (own)
abbrev pub with_newcomer : Machine → Machine
with_newcomer m = record m { system = reset m.system }

abbrev pub without_last : Machine → Machine
without_last m = record m { system = gone m.system }
