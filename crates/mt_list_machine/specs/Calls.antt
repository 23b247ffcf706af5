-- What the calls of the machine over lists take and return (own).
use Rattle.std.specs.Prelude.{◌≡◌, ℕ, ◌<◌, ◌+◌, ◌-◌, ◌^◌, ◌==◌, ◌&&◌, nat_lt, Bool, if◌then◌else◌, slice_get, Some}
use Rattle.std.specs.List.{list_all}
use Rattle.mt_regs.specs.RegisterFile.{RegisterFile}
use Rattle.mt_tlb.specs.declared.mapping.Mapping.{Mapping}
use Rattle.mt_tlb.specs.Entries.{is_full_for, set_mapping}
use Rattle.mt_machine.specs.declared.event.Event.{Event}
use Rattle.mt_machine.specs.declared.event.Event.TheVariants.{Write}
use Rattle.mt_machine.specs.declared.control.Control.{Control}
use Rattle.mt_machine.specs.declared.control.Control.TheVariants.{Map}
use Rattle.mt_machine.specs.declared.done.Done.{Done}
use Rattle.mt_machine.specs.declared.op.Op.{Op}
use Rattle.mt_machine.specs.declared.ruled.Ruled.{Ruled}
use Rattle.mt_machine.specs.declared.ruled.Ruled.TheVariants.{Full, Okay}
use Rattle.mt_machine.specs.System.{Processor, System, change}
use Rattle.mt_machine.specs.Access.{access_at}
use Rattle.mt_machine.specs.Control.{control_at}
use Rattle.mt_laws.specs.Parts.{answered, ruled}

-- an index of a PAT entry
abbrev pub HasIndex : Control → Type 0
HasIndex (Map m) = m.index < 8
HasIndex other = Unit {0}

-- the next register's place fits 32 bits
abbrev pub HasPlace : Event → Type 0
HasPlace (Write i) = i + 1 < 2 ^ 32
HasPlace other = Unit {0}

-- the goal is of the processor's kind, its era fits 64 bits after an update too, and its lines are within the physical addresses
abbrev pub is_fit : RegisterFile → Processor → Bool
is_fit goal p =
    (goal.width == p.file.width) && (goal.capabilities == p.file.capabilities) && nat_lt p.era (2 ^ 64 - 1)
    && list_all (λ l. nat_lt l.number (2 ^ 46)) p.lines

-- ---- accesses and control instructions, whatever the phase

-- what is done is the access of the processor that the first system has at that place, and the second system is the one after it
abbrev pub IsAccess : System → ℕ → Op → Done → System → Type 0
IsAccess s k op done t = (p : Processor) → slice_get s.processors k ≡ Some p → answered done t ≡ access_at s k p op

-- the same of a control instruction
abbrev pub IsControl : System → ℕ → Control → Ruled → System → Type 0
IsControl s k c r t = (p : Processor) → slice_get s.processors k ≡ Some p → ruled r t ≡ control_at s k p c

-- what a mapping that is set returns, and the processor that has it
abbrev pub answer_to_map : Mapping → Processor → Ruled
answer_to_map m p = if is_full_for m p.mappings then Full else Okay

abbrev pub with_mapping : Mapping → Processor → Processor
with_mapping m p = record p { mappings = set_mapping m p.mappings }

abbrev pub after_map : Mapping → Processor → Processor
after_map m p = if is_full_for m p.mappings then p else with_mapping m p

-- that of processor k is set
abbrev pub IsMapped : Mapping → ℕ → System → System → Type 0
IsMapped m k s t = (p : Processor) → slice_get s.processors k ≡ Some p → t ≡ (if is_full_for m p.mappings then s else change (with_mapping m) k s)
