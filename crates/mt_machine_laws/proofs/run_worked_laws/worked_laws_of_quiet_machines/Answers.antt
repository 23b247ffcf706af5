use Rattle.std.proofs.Common.{rules, ◌∷◌, [], false, true}
use Rattle.mt_regs.specs.StartFiles.{AreStartFiles}
use Rattle.mt_machine.specs.Machine.{Calls, IsEnabled}
use Rattle.mt_machine.specs.Memory.{IsMemory}
use Rattle.mt_machine.specs.Start.{IsQuiet, zero_memory}
use Rattle.mt_machine_laws.specs.MachineWorkedRuns.{alone, bare_file, one_window, whole}
use Rattle.mt_machine_laws.proofs.run_worked_laws.worked_laws_of_quiet_machines.Goals as goal

files : AreStartFiles (bare_file 0x800 ∷ bare_file 0x801 ∷ [])
files = search rules

memory : IsMemory (zero_memory one_window)
memory = search rules

quiet : IsQuiet (alone whole)
quiet = search rules

enabled : IsEnabled (alone whole) (Calls (bare_file 0x806))
enabled = search rules

pub returns-clause-start : goal.returns-clause-start
returns-clause-start c = λ law. law (bare_file 0x800 ∷ bare_file 0x801 ∷ []) one_window files memory

pub returns-clause-flagged : goal.returns-clause-flagged
returns-clause-flagged c = λ law. law (false ∷ true ∷ []) (bare_file 0x800 ∷ bare_file 0x801 ∷ []) one_window files memory

pub returns-clause-snooping : goal.returns-clause-snooping
returns-clause-snooping c = λ law. law (alone whole) 0 quiet

pub returns-clause-updated : goal.returns-clause-updated
returns-clause-updated c = λ law. law (alone whole) (bare_file 0x806) (0 ∷ []) quiet enabled
