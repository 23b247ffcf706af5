-- What may stand in each stage of a script (own).
use Rattle.std.specs.Prelude.{ℕ, ◌≡◌, ◌≤◌, Bool, true, false}
use Rattle.mt_script.specs.declared.row.Turn.{Turn}
use Rattle.mt_script.specs.declared.row.Turn.TheVariants as turn
use Rattle.mt_script.specs.declared.command.Stage.{Stage}
use Rattle.mt_script.specs.declared.command.Stage.TheVariants.{NeedCpus, NeedDump, InDump, Rams, Commands, InUpdate, InBegin}

-- lines of this turn may be given
abbrev pub stands : Turn → Stage → Bool
stands turn.Cpus NeedCpus = true
stands turn.Dump NeedDump = true
stands turn.Windows Rams = true
stands turn.Commands Rams = true
stands turn.Commands Commands = true
stands other stage = false

-- the number of processors may be told
abbrev pub takes_cpus : Stage → Bool
takes_cpus stage = stands turn.Cpus stage

-- the dump may begin
abbrev pub takes_dump : Stage → Bool
takes_dump stage = stands turn.Dump stage

-- windows may be added
abbrev pub takes_windows : Stage → Bool
takes_windows stage = stands turn.Windows stage

-- commands may be given; a script may end
abbrev pub takes_commands : Stage → Bool
takes_commands stage = stands turn.Commands stage

-- lines of the dump are read
abbrev pub is_in_dump : Stage → Bool
is_in_dump InDump = true
is_in_dump other = false

-- registers of a goal are read
abbrev pub takes_registers : Stage → Bool
takes_registers InUpdate = true
takes_registers InBegin = true
takes_registers other = false

-- a section may end
abbrev pub takes_end : Stage → Bool
takes_end InDump = true
takes_end InUpdate = true
takes_end InBegin = true
takes_end other = false

-- the dump has been read
abbrev pub is_past_dump : Stage → Bool
is_past_dump NeedCpus = false
is_past_dump NeedDump = false
is_past_dump InDump = false
is_past_dump other = true

-- no window may be added any more
abbrev pub is_past_windows : Stage → Bool
is_past_windows Commands = true
is_past_windows InUpdate = true
is_past_windows InBegin = true
is_past_windows other = false

-- how many processors there may be: none before they are told, and then 1 to 16
abbrev pub HasCpus : Stage → ℕ → Type 0
HasCpus NeedCpus cpus = cpus ≡ 0
HasCpus other cpus = (1 ≤ cpus) × (cpus ≤ 16)
