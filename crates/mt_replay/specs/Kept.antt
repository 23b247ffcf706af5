-- What holds of each state that a script comes to (own).
use Rattle.std.specs.Prelude.{ℕ, ◌≡◌, ◌+◌, ◌≤◌, true, false, List, length, map, Some}
use Rattle.mt_laws.specs.Kept.{flags_of}
use Rattle.mt_laws.specs.Settled.{IsFresh}
use Rattle.std.specs.List.{All}
use Rattle.mt_regs.specs.RegisterFile.{IsRegisterFile}
use Rattle.mt_regs.specs.StartFiles.{AreStartFiles}
use Rattle.mt_ram.specs.Windows.{window}
use Rattle.mt_machine.specs.Memory.{Window}
use Rattle.mt_machine.specs.Machine.{FitsGoal, Machine, Reached}
use Rattle.mt_machine.specs.Start.{IsQuiet, start_machine, start_with}
use Rattle.mt_core.specs.Arises.{Arises}
use Rattle.mt_dump.specs.Dumps.{Dump, first_file}
use Rattle.mt_dump.specs.ForProcessors.{files_for}
use Rattle.mt_script.specs.Situation.{Situation}
use Rattle.mt_script.specs.Kept.{IsSituation}
use Rattle.mt_script.specs.Stages.{is_past_dump, takes_windows}
use Rattle.mt_script.specs.Accept.{Fits}
use Rattle.mt_script.specs.declared.command.Command.{Command}
use Rattle.mt_replay.specs.ReplayState.{ReplayState, state_after}

abbrev pub windows_of : Situation → List Window
windows_of now = map (λ w. window w.0 w.1) now.windows

-- the processors with this dump's files, over zero words
abbrev pub start_of : Situation → Dump → Machine
start_of now dump = start_machine (files_for now.cpus dump) (windows_of now)

-- the same, where a processor is self-snooping exactly where it is so now
abbrev pub start_like : ReplayState → Dump → Machine
start_like s dump = start_with (flags_of s.machine.system) (files_for s.now.cpus dump) (windows_of s.now)

-- The machine is reached by events from one at rest, that arose: no update was under way, and nothing that was held was older than its
-- processor.
pub record CameFromRest (m : Machine) : Type 0 where
  pub rest : Machine
  pub quiet : IsQuiet rest
  pub arises : Arises rest
  pub no_older : All IsFresh rest.system.processors
  pub reached : Reached rest m

-- The machine arises, so that each law on what arises holds of it; and it was at rest when the last processor came or went. While no
-- processor is moving, it is reached by events from its start, the processors with the dump's files over zero words, which is quiet: so each law on
-- what is reached from a start holds of it too. Before the first command nothing has happened to it. Each processor has the width and
-- the capability value of the dump's first file.
pub record IsReplayState (s : ReplayState) : Type 0 where
  pub situation : IsSituation s.now
  pub past : is_past_dump s.now.stage ≡ true
  pub arises : Arises s.machine
  pub came : CameFromRest s.machine
  pub some : 1 ≤ length s.machine.system.processors
  pub few : length s.machine.system.processors ≤ 16
  pub count : s.now.moving ≡ false → length s.machine.system.processors ≡ s.now.cpus
  pub kind : (d : Dump) → s.now.dump ≡ Some d → All (FitsGoal (first_file d)) s.machine.system.processors
  pub goal_file : IsRegisterFile s.goal
  pub goal : All (FitsGoal s.goal) s.machine.system.processors
  pub windows : s.machine.system.memory.windows ≡ windows_of s.now
  pub quiet : s.now.moving ≡ false → (d : Dump) → s.now.dump ≡ Some d → IsQuiet (start_like s d)
  pub reached : s.now.moving ≡ false → (d : Dump) → s.now.dump ≡ Some d → Reached (start_like s d) s.machine
  pub fresh : (d : Dump) → s.now.dump ≡ Some d → takes_windows s.now.stage ≡ true → AreStartFiles (files_for s.now.cpus d) × (s.machine ≡ start_like s d)

-- no processor has finished more updates than this
abbrev pub HasEras : ℕ → ReplayState → Type 0
HasEras most s = All (λ p. p.era ≤ most) s.machine.system.processors

-- each command that fits keeps it, and finishes at most one update
abbrev pub CommandsKeep : Type 0
CommandsKeep = (s : ReplayState) (c : Command) → IsReplayState s → Fits s.now c → IsReplayState (state_after s c)

abbrev pub CommandsFinishOne : Type 0
CommandsFinishOne = (s : ReplayState) (c : Command) (most : ℕ) → IsReplayState s → Fits s.now c → HasEras most s → HasEras (most + 1) (state_after s c)
