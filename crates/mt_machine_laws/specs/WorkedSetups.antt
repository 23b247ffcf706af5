-- Parts of worked states.
use Rattle.std.specs.Prelude.{[], ◌∷◌}
use Rattle.mt_regs.specs.RegisterFile.{RegisterFile}
use Rattle.mt_cache.specs.declared.line.CacheLine.{CacheLine}
use Rattle.mt_machine.specs.Machine.{Order}
use Rattle.mt_machine_laws.specs.MachineWorkedRuns.{call_order, line_of}

-- a line whose second word alone is dirty
abbrev pub second_word : CacheLine
second_word = record (line_of 0x4000 0) { words = 0 ∷ 8 ∷ 0 ∷ 0 ∷ 0 ∷ 0 ∷ 0 ∷ 0 ∷ []; dirty = 2 }

-- a call for this goal
abbrev pub order_for : RegisterFile → Order
order_for goal = record call_order { goal = goal }
