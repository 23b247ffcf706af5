-- When an access and a control instruction are refused, and what then changes.
use Rattle.std.specs.Prelude.{◌≡◌, ◌↔◌, ℕ, ◌/◌, Bool, true, false, None, Some, slice_get}
use Rattle.mt_kinds.specs.Sizes.{page_bytes}
use Rattle.mt_tlb.specs.declared.entry.Entry.{Entry}
use Rattle.mt_tlb.specs.declared.mapping.Mapping.{Mapping}
use Rattle.mt_tlb.specs.Entries.{find_mapping, is_full_for}
use Rattle.mt_machine.specs.declared.op.Op.{Op}
use Rattle.mt_machine.specs.declared.op.Op.TheVariants.{Load, Store, Fence}
use Rattle.mt_machine.specs.declared.done.Done.TheVariants.{Busy, NoRam, Unmapped}
use Rattle.mt_machine.specs.declared.control.Control.{Control}
use Rattle.mt_machine.specs.declared.control.Control.TheVariants.{Map}
use Rattle.mt_machine.specs.declared.ruled.Ruled.TheVariants as ruled
use Rattle.mt_machine.specs.Memory.{place}
use Rattle.mt_machine.specs.System.{IsSound, Processor, System, change}
use Rattle.mt_machine.specs.Access.{Answered, access, address_of, entry_of, is_running, keep_entry, physical}
use Rattle.mt_machine.specs.Control.{RuledAfter, control}

abbrev pub has_address : Op → Bool
has_address (Load address) = true
has_address (Store address value) = true
has_address Fence = false

-- an access of p, which is processor k of s: a processor in an update first, then a page without a mapping, then an address
-- without memory, where nothing but a translation is kept
pub record RefusesInOrder (s : System) (k : ℕ) (p : Processor) (op : Op) (r : Answered) : Type 0 where
  pub busy : (r.answer ≡ Busy) ↔ (is_running p.phase ≡ false)
  pub unmapped : (r.answer ≡ Unmapped) ↔ ((is_running p.phase ≡ true) × (has_address op ≡ true) × (find_mapping (address_of op / page_bytes) p.mappings ≡ None))
  pub no_memory : (r.answer ≡ NoRam) ↔ ((is_running p.phase ≡ true) × (has_address op ≡ true) × ((e : Entry) × (entry_of p (address_of op / page_bytes) ≡ Some e) × (place s.memory (physical e (address_of op)) ≡ None)))
  pub busy_keeps : r.answer ≡ Busy → r.after ≡ s
  pub unmapped_keeps : r.answer ≡ Unmapped → r.after ≡ s
  pub no_memory_keeps : (e : Entry) → entry_of p (address_of op / page_bytes) ≡ Some e → r.answer ≡ NoRam → r.after ≡ change (keep_entry e) k s

abbrev pub AccessesRefuseInOrder : Type 0
AccessesRefuseInOrder = (s : System) (k : ℕ) (p : Processor) (op : Op) → IsSound s → slice_get s.processors k ≡ Some p → RefusesInOrder s k p op (access s k op)

-- a control instruction of p, which is processor k of s: a processor in an update, or a mapping for which there is no room
pub record RulesInOrder (s : System) (k : ℕ) (p : Processor) (c : Control) (r : RuledAfter) : Type 0 where
  pub busy : (r.answer ≡ ruled.Busy) ↔ (is_running p.phase ≡ false)
  pub full : (r.answer ≡ ruled.Full) ↔ ((is_running p.phase ≡ true) × ((m : Mapping) × (c ≡ Map m) × (is_full_for m p.mappings ≡ true)))
  pub busy_keeps : r.answer ≡ ruled.Busy → r.after ≡ s
  pub full_keeps : r.answer ≡ ruled.Full → r.after ≡ s

abbrev pub ControlsRefuseInOrder : Type 0
ControlsRefuseInOrder = (s : System) (k : ℕ) (p : Processor) (c : Control) → slice_get s.processors k ≡ Some p → RulesInOrder s k p c (control s k c)
