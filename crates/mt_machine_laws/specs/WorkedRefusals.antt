-- Accesses and control instructions of one processor, and what is said of their answers, in worked examples.
use Rattle.std.specs.Prelude.{[], ◌∷◌, false}
use Rattle.mt_kinds.specs.declared.mem_type.MemType.TheVariants.{UC}
use Rattle.mt_tlb.specs.declared.entry.Entry.{Entry}
use Rattle.mt_machine.specs.declared.control.Control.{Control}
use Rattle.mt_machine.specs.declared.done.Done.{Done}
use Rattle.mt_machine.specs.declared.op.Op.{Op}
use Rattle.mt_machine.specs.declared.ruled.Ruled.{Ruled}
use Rattle.mt_machine.specs.System.{Processor}
use Rattle.mt_machine_laws.specs.MachineWorkedRuns.{alone, entry, idle, mapping, mappings_from}
use Rattle.mt_laws.specs.Parts.{answered, ruled}
use Rattle.mt_bus.specs.Refusals.{RefusesInOrder, RulesInOrder}

-- its page 1 is mapped to where there is no memory; and it has the translation
abbrev pub astray : Processor
astray = record idle { mappings = mapping 1 0x200 0 ∷ [] }

abbrev pub stray_entry : Entry
stray_entry = record (entry 1 false) { ppage = 0x200; kind = UC }

abbrev pub translated : Processor
translated = record astray { entries = stray_entry ∷ [] }

-- it has 64 mappings, of the pages from 1 on
abbrev pub crammed : Processor
crammed = record idle { mappings = mappings_from 1 64 }

-- an access of a processor that stands alone is answered so, and leaves another in its place
abbrev pub Refuses : Processor → Op → Done → Processor → Type 0
Refuses p op answer after = RefusesInOrder (alone p).system 0 p op (answered answer (alone after).system)

-- so is a control instruction
abbrev pub Rules : Processor → Control → Ruled → Processor → Type 0
Rules p c answer after = RulesInOrder (alone p).system 0 p c (ruled answer (alone after).system)
