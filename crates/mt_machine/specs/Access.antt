-- One access of one processor, with all its snoops.
-- Intel SDM volume 3A, chapter Memory Cache Control, sections "Methods of Caching Available", "Cache Control Protocol" and
-- "Buffering of Write Combining Memory Locations". What hits, misses and fills do while CD is set (section "Cache Control
-- Registers and Bits", no-fill mode), and that a write-back store which hits a line held elsewhere takes it over without an
-- update of memory, are this project's profile (own).
use Rattle.std.specs.Prelude.{ℕ, ◌+◌, ◌*◌, ◌/◌, ◌%◌, Bool, true, false, not, ◌&&◌, if◌then◌else◌, slice_index, slice_get, Option, None, Some, is_some}
use Rattle.std.specs.Option.{option_map_or, option_map}
use Rattle.mt_kinds.specs.Sizes.{page_bytes}
use Rattle.mt_kinds.specs.declared.mem_type.MemType.{MemType}
use Rattle.mt_kinds.specs.declared.mem_type.MemType.TheVariants.{UC, WC, WT, WP, WB}
use Rattle.mt_kinds.specs.EffectiveType.{effective_type}
use Rattle.mt_kinds.specs.Pat.{pat_entry}
use Rattle.mt_regs.specs.PageTypes.{defined_type, page_type}
use Rattle.mt_cache.specs.declared.line.CacheLine.{CacheLine}
use Rattle.mt_cache.specs.Lines.{change_line, find_line, write_clean, write_dirty}
use Rattle.mt_tlb.specs.declared.entry.Entry.{Entry}
use Rattle.mt_tlb.specs.declared.mapping.Mapping.{Mapping}
use Rattle.mt_tlb.specs.Entries.{add_entry, find_entry, find_mapping}
use Rattle.mt_machine.specs.declared.phase.Phase.{Phase}
use Rattle.mt_machine.specs.declared.phase.Phase.TheVariants.{Running}
use Rattle.mt_machine.specs.declared.op.Op.{Op}
use Rattle.mt_machine.specs.declared.op.Op.TheVariants.{Load, Store, Fence}
use Rattle.mt_machine.specs.declared.done.Done.{Done}
use Rattle.mt_machine.specs.declared.done.Done.TheVariants.{Value, Stored, Fenced, Unmapped, NoRam, Busy}
use Rattle.mt_machine.specs.Memory.{line_of, place, word_at, word_of}
use Rattle.mt_machine.specs.System.{Processor, System, change, lines_of}
use Rattle.mt_machine.specs.Bus.{bus_read, combine, drain, drain_line, fill_line, invalidate, invalidate_others, store_in_memory, with_lines, write_back_others}

abbrev pub is_running : Phase → Bool
is_running Running = true
is_running other = false

-- ---- translation

abbrev pub new_entry : Processor → Mapping → Entry
new_entry p m = record {
  vpage = m.vpage;
  ppage = m.ppage;
  kind = effective_type (defined_type (page_type p.file m.ppage)) (pat_entry p.file.pat m.index);
  global = m.global && p.page_global;
  era = p.era;
}

-- the entry of a page: the one that stands, or else the one that its mapping makes
abbrev pub entry_of : Processor → ℕ → Option Entry
entry_of p page = option_map_or Some (find_entry page p.entries) (option_map (new_entry p) (find_mapping page p.mappings))

-- the entry is filled where its page has none
abbrev pub keep_entry : Entry → Processor → Processor
keep_entry e p = if is_some (find_entry e.vpage p.entries) then p else record p { entries = add_entry e p.entries }

abbrev pub physical : Entry → ℕ → ℕ
physical e address = page_bytes * e.ppage + address % page_bytes

-- ---- loads and stores of a physical word

-- what a load and a store do before anything else
abbrev pub first_of_load : MemType → ℕ → ℕ → System → System
first_of_load UC k n s = drain k s
first_of_load other k n s = drain_line k n s

abbrev pub first_of_store : MemType → ℕ → ℕ → System → System
first_of_store UC k n s = drain k s
first_of_store WC k n s = s
first_of_store other k n s = drain_line k n s

abbrev pub is_cached : MemType → Bool
is_cached UC = false
is_cached WC = false
is_cached other = true

abbrev pub cache_disabled_of : System → ℕ → Bool
cache_disabled_of s k = option_map_or (λ p. p.cache_disabled) (slice_get s.processors k) true

-- the line that a load of this type hits
abbrev pub hit_of : MemType → ℕ → ℕ → System → Option CacheLine
hit_of t k n s = if is_cached t then find_line n (lines_of s k) else None

-- the value, and the system after the load
abbrev pub load_after : MemType → ℕ → ℕ → System → ℕ × System
load_after t k address s =
    let n = line_of address in
    let read = bus_read n s in
    option_map_or
    (λ l. (slice_index l.words (word_of address), s))
    (hit_of t k n s)
    (word_at read.memory address, (if is_cached t && not (cache_disabled_of s k) then fill_line k n read else read))

abbrev pub load : MemType → ℕ → ℕ → System → ℕ × System
load t k address s = load_after t k address (first_of_load t k (line_of address) s)

-- a store to write-back memory that hits a line, one that misses, and one that misses and fills no line
abbrev pub store_hit : ℕ → ℕ → ℕ → System → System
store_hit k address value s =
    let n = line_of address in
    change (with_lines (change_line n (write_dirty (word_of address) value))) k (invalidate_others k n (write_back_others k n s))

abbrev pub store_filling : ℕ → ℕ → ℕ → System → System
store_filling k address value s =
    let n = line_of address in
    change (with_lines (change_line n (write_dirty (word_of address) value))) k (fill_line k n (invalidate_others k n (bus_read n s)))

abbrev pub store_past : ℕ → ℕ → ℕ → System → System
store_past k address value s =
    let n = line_of address in store_in_memory address value (invalidate_others k n (bus_read n s))

-- no cache keeps the line
abbrev pub store_uncached : ℕ → ℕ → System → System
store_uncached address value s =
    let n = line_of address in store_in_memory address value (invalidate n (bus_read n s))

abbrev pub store_after : MemType → ℕ → ℕ → ℕ → System → System
store_after UC k address value s = store_uncached address value s
store_after WC k address value s = combine k (line_of address) (word_of address) value s
store_after WT k address value s =
    let n = line_of address in
    change (with_lines (change_line n (write_clean (word_of address) value))) k (store_past k address value s)
store_after WP k address value s = store_uncached address value s
store_after WB k address value s =
    if is_some (find_line (line_of address) (lines_of s k)) then store_hit k address value s
    else (if cache_disabled_of s k then store_past k address value s else store_filling k address value s)

abbrev pub store : MemType → ℕ → ℕ → ℕ → System → System
store t k address value s = store_after t k address value (first_of_store t k (line_of address) s)

-- ---- accesses

pub record Answered : Type 0 where
  pub answer : Done
  pub after : System

abbrev pub value_answer : MemType → ℕ × System → Answered
value_answer t r = record { answer = Value r.0 t; after = r.1 }

-- what is done at a physical address whose entry stands; s has the entry
abbrev pub translated : System → ℕ → Entry → Op → Answered
translated s k e (Load address) =
    if is_some (place s.memory (physical e address)) then value_answer e.kind (load e.kind k (physical e address) s)
    else record { answer = NoRam; after = s }
translated s k e (Store address value) =
    if is_some (place s.memory (physical e address))
    then record { answer = Stored e.kind; after = store e.kind k (physical e address) value s }
    else record { answer = NoRam; after = s }
translated s k e Fence = record { answer = Fenced; after = s }

abbrev pub address_of : Op → ℕ
address_of (Load address) = address
address_of (Store address value) = address
address_of Fence = 0

-- of a processor that runs
abbrev pub access_at : System → ℕ → Processor → Op → Answered
access_at s k p Fence = record { answer = Fenced; after = drain k s }
access_at s k p op =
    option_map_or
    (λ e. translated (change (keep_entry e) k s) k e op)
    (entry_of p (address_of op / page_bytes))
    (record { answer = Unmapped; after = s })

-- busy where the processor is in an update, and where k is no processor's number (own)
abbrev pub access : System → ℕ → Op → Answered
access s k op =
    option_map_or
    (λ p. if is_running p.phase then access_at s k p op else record { answer = Busy; after = s })
    (slice_get s.processors k)
    (record { answer = Busy; after = s })
