-- The processors that requests change (own). No access is made: each of them runs, and holds nothing.
--     idling files count      a processor with each of these files, after so many updates
--     standing cpus now      so many processors with one file, after so many updates
--     served machine      the file and the number of updates of the first
--     changed machine applied      what a request leaves
use Rattle.std.specs.Prelude.{ℕ, ◌≡◌, ◌<◌, ◌≤◌, List, [], ◌∷◌, length, map, replicate, None}
use Rattle.std.specs.Option.{option_map_or}
use Rattle.mt_regs.specs.FirstFault.{first_fault}
use Rattle.mt_regs.specs.RegisterFile.{RegisterFile, blank_file}
use Rattle.mt_regs.specs.StartFiles.{AreStartFiles}
use Rattle.mt_machine.specs.Machine.{Machine}
use Rattle.mt_machine.specs.Start.{zero_memory}
use Rattle.mt_machine.specs.System.{Processor, start_processor}
use Rattle.mt_machine.specs.Update.{updated}
use Rattle.mt_core.specs.Rounds.{in_order}
use Rattle.mt_proc.specs.declared.applying.Applied.{Applied}
use Rattle.mt_proc.specs.declared.applying.Applied.TheVariants.{BadRange, Goal, NoneFree, NotUsed}
use Rattle.mt_proc.specs.After.{Served}

-- a processor that was updated so often, and made no access
abbrev pub idle : ℕ → RegisterFile → Processor
idle count file = record (start_processor file) { era = count }

abbrev pub idling : List RegisterFile → ℕ → Machine
idling files count = record { system = record { processors = map (idle count) files; memory = zero_memory [] }; order = None }

abbrev pub standing : ℕ → Served → Machine
standing cpus now = idling (replicate cpus now.file) now.count

abbrev pub served_of : List Processor → Served
served_of [] = record { file = blank_file 36 0; count = 0 }
served_of (p ∷ ps) = record { file = p.file; count = p.era }

abbrev pub served : Machine → Served
served m = served_of m.system.processors

abbrev pub files_of : Machine → List RegisterFile
files_of m = map (λ p. p.file) m.system.processors

-- The processors of a machine stand so, with no update under way. Until the first request that is carried out their files may differ; from then on they have one.
pub record Serves (m : Machine) : Type 0 where
  pub stands : m ≡ idling (files_of m) (served m).count
  pub some : 0 < length m.system.processors
  pub few : length m.system.processors ≤ 16
  pub start : AreStartFiles (files_of m)
  pub one_file : 0 < (served m).count → m ≡ standing (length m.system.processors) (served m)

-- an accepted goal is reached by a whole update, in which each processor takes, in ascending order; nothing else changes a processor
abbrev pub goal_after : Machine → RegisterFile → Machine
goal_after m goal = option_map_or (λ fault. m) (first_fault goal) (updated m.system (in_order m) goal)

abbrev pub changed : Machine → Applied → Machine
changed m (Goal goal n) = goal_after m goal
changed m BadRange = m
changed m NoneFree = m
changed m NotUsed = m
