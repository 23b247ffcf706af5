-- The control instructions of one processor.
-- Intel SDM volume 3A, chapter Memory Cache Control, sections "Invalidating the Translation Lookaside Buffers (TLBs)" and
-- "Cache Control Registers and Bits". Each but a change of the mappings is serializing, so it empties the processor's
-- buffers first.
use Rattle.std.specs.Prelude.{ℕ, ◌/◌, Bool, true, false, not, [], if◌then◌else◌, slice_get}
use Rattle.std.specs.Option.{option_map_or}
use Rattle.mt_kinds.specs.Sizes.{page_bytes}
use Rattle.mt_tlb.specs.Entries.{global_entries, is_full_for, set_mapping, without_page}
use Rattle.mt_machine.specs.declared.control.Control.{Control}
use Rattle.mt_machine.specs.declared.control.Control.TheVariants.{Map, Invlpg, Cr3, Pge, Cd}
use Rattle.mt_machine.specs.declared.ruled.Ruled.{Ruled}
use Rattle.mt_machine.specs.declared.ruled.Ruled.TheVariants.{Okay, Full, Busy}
use Rattle.mt_machine.specs.System.{Processor, System, change}
use Rattle.mt_machine.specs.Bus.{drain}
use Rattle.mt_machine.specs.Access.{is_running}

abbrev pub drop_page : ℕ → Processor → Processor
drop_page page p = record p { entries = without_page page p.entries }

-- the entries that are not global go
abbrev pub reload_cr3 : Processor → Processor
reload_cr3 p = record p { entries = global_entries p.entries }

abbrev pub same_bool : Bool → Bool → Bool
same_bool true b = b
same_bool false b = not b

-- a change drops all entries
abbrev pub set_page_global : Bool → Processor → Processor
set_page_global on p = if same_bool on p.page_global then p else record p { page_global = on; entries = [] }

pub record RuledAfter : Type 0 where
  pub answer : Ruled
  pub after : System

-- of a processor that runs; Invlpg has a virtual address, whose page's entry goes
abbrev pub control_at : System → ℕ → Processor → Control → RuledAfter
control_at s k p (Map m) =
    if is_full_for m p.mappings then record { answer = Full; after = s }
    else record { answer = Okay; after = change (λ q. record q { mappings = set_mapping m q.mappings }) k s }
control_at s k p (Invlpg address) = record { answer = Okay; after = change (drop_page (address / page_bytes)) k (drain k s) }
control_at s k p Cr3 = record { answer = Okay; after = change reload_cr3 k (drain k s) }
control_at s k p (Pge on) = record { answer = Okay; after = change (set_page_global on) k (drain k s) }
control_at s k p (Cd on) = record { answer = Okay; after = change (λ q. record q { cache_disabled = on }) k (drain k s) }

-- busy where the processor is in an update, and where k is no processor's number (own)
abbrev pub control : System → ℕ → Control → RuledAfter
control s k c =
    option_map_or
    (λ p. if is_running p.phase then control_at s k p c else record { answer = Busy; after = s })
    (slice_get s.processors k)
    (record { answer = Busy; after = s })
