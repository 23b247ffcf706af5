-- What the lines of a script so far have set up (own).
--     file_of now      processor 0's file, once the dump is finished
--     most_processors now      how many processors a line may name
use Rattle.std.specs.Prelude.{ℕ, Bool, false, List, [], if◌then◌else◌, Option, None}
use Rattle.std.specs.Option.{option_map}
use Rattle.mt_regs.specs.RegisterFile.{RegisterFile}
use Rattle.mt_dump.specs.Dumps.{Dump, first_file}
use Rattle.mt_script.specs.declared.command.Stage.{Stage}
use Rattle.mt_script.specs.declared.command.Stage.TheVariants.{NeedCpus}

pub record Situation : Type 0 where
  pub stage : Stage  -- which lines may stand next
  pub cpus : ℕ  -- how many processors there are at the start, 0 before they are told
  pub dump : Option Dump  -- the dump, once it is finished
  pub windows : List (ℕ × ℕ)  -- base and lines of each window of memory
  pub seen : List ℕ  -- the registers that the present section has given
  pub moving : Bool  -- an `up`, `join` or `retire` line was accepted, so that processors may have come or gone

abbrev pub at_start : Situation
at_start = record { stage = NeedCpus; cpus = 0; dump = None; windows = []; seen = []; moving = false }

abbrev pub file_of : Situation → Option RegisterFile
file_of now = option_map first_file now.dump

-- Those told at the start, or the most there may ever be where some may have come or gone: whether one of these is there is known to a run alone.
abbrev pub most_processors : Situation → ℕ
most_processors now = if now.moving then 16 else now.cpus
