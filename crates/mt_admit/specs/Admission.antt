-- What is left where a processor is brought up and admitted (own).
use Rattle.std.specs.Prelude.{slice_get}
use Rattle.std.specs.Option.{option_map_or}
use Rattle.mt_regs.specs.RegisterFile.{RegisterFile, blank_file}
use Rattle.mt_machine.specs.System.{System}
use Rattle.mt_machine.specs.Machine.{Calls, Machine, next}
use Rattle.mt_machine.specs.ComingAndGoing.{with_newcomer}
use Rattle.mt_machine.specs.Update.{updated}
use Rattle.mt_core.specs.Rounds.{in_order}

-- processor 0's registers. A system without processors has none, and a blank file stands for them
abbrev pub first_file : System → RegisterFile
first_file s = option_map_or (λ p. p.file) (slice_get s.processors 0) (blank_file 36 0)

-- one processor more, and an update called to processor 0's registers
abbrev pub brought_up : Machine → Machine
brought_up m = next (with_newcomer m) (Calls (first_file m.system))

-- one processor more, and the whole update to processor 0's registers
abbrev pub admitted : Machine → Machine
admitted m = updated (with_newcomer m).system (in_order (with_newcomer m)) (first_file m.system)
