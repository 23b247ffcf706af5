-- The state of all processors and the memory, and what holds of it at all times. What a processor has: Intel SDM, volume 3A, chapter Memory Cache Control,
-- sections "Cache Control Registers and Bits" and "Buffering of Write Combining Memory Locations"; coherence: section "Cache Control
-- Protocol". Eras, phases, mappings in place of page tables, and how many of each there are, are this project's (own).
use Rattle.std.specs.Prelude.{◌≡◌, ◌≢◌, ℕ, ◌<◌, ◌≤◌, ◌==◌, Bool, true, false, ◌&&◌, List, [], ◌∷◌, length, slice_index, slice_get, slice_set, Option, None, Some, IsTrue, IsSome, IsNone}
use Rattle.std.specs.Option.{option_map_or, option_map, option_or}
use Rattle.std.specs.List.{find, All}
use Rattle.mt_cache.specs.declared.line.CacheLine.{CacheLine}
use Rattle.mt_cache.specs.Lines.{AreDistinct, IsLine, find_line, is_dirty}
use Rattle.mt_tlb.specs.declared.entry.Entry.{Entry}
use Rattle.mt_tlb.specs.declared.mapping.Mapping.{Mapping}
use Rattle.mt_tlb.specs.Entries.{AreEntriesApart, AreMappingsApart, is_mapped}
use Rattle.mt_regs.specs.RegisterFile.{RegisterFile, IsRegisterFile, page_count}
use Rattle.mt_regs.specs.Registers.{writable}
use Rattle.mt_regs.specs.Faults.{IsAccepted}
use Rattle.mt_machine.specs.declared.phase.Phase.{Phase}
use Rattle.mt_machine.specs.declared.phase.Phase.TheVariants.{Running, TlbFlushed, Writing, Enabled, Flushed2, TlbFlushed2, Normal}
use Rattle.mt_machine.specs.Memory.{Memory, IsMemory, word_at, place, line_of, word_of, word_address}

pub record Processor : Type 0 where
  pub file : RegisterFile
  pub cache_disabled : Bool  -- CR0.CD
  pub page_global : Bool  -- CR4.PGE
  pub remembered_global : Bool  -- the PGE that an update found
  pub mappings : List Mapping
  pub lines : List CacheLine  -- of its cache
  pub buffers : List CacheLine  -- for write combining
  pub entries : List Entry  -- of its TLB
  pub phase : Phase
  pub era : ℕ  -- the number of updates that it has finished
  pub self_snoop : Bool  -- CPUID.1:EDX bit 27, which no event changes

pub record System : Type 0 where
  pub processors : List Processor
  pub memory : Memory

-- a processor at the start
abbrev pub start_processor : RegisterFile → Processor
start_processor f = record {
  file = f;
  cache_disabled = false;
  page_global = false;
  remembered_global = false;
  mappings = [];
  lines = [];
  buffers = [];
  entries = [];
  phase = Running;
  era = 0;
  self_snoop = false;
}

-- processor k as f makes it
abbrev pub change : (Processor → Processor) → ℕ → System → System
change f k s = option_map_or (λ p. record s { processors = slice_set s.processors k (f p) }) (slice_get s.processors k) s

-- processor k is a self-snooping one from here on. No event does this: a core allows it while no update is under way (own)
abbrev pub snooping : Processor → Processor
snooping p = record p { self_snoop = true }

abbrev pub with_self_snoop : ℕ → System → System
with_self_snoop k s = change snooping k s

abbrev pub lines_of : System → ℕ → List CacheLine
lines_of s k = option_map_or (λ p. p.lines) (slice_get s.processors k) []

abbrev pub buffers_of : System → ℕ → List CacheLine
buffers_of s k = option_map_or (λ p. p.buffers) (slice_get s.processors k) []

-- the dirty word that a cache has of this address
abbrev pub dirty_word : List CacheLine → ℕ → Option ℕ
dirty_word ls address =
    option_map (λ l. slice_index l.words (word_of address))
    (find (λ l. (l.number == line_of address) && is_dirty l (word_of address)) ls)

abbrev pub dirty_word_in : List Processor → ℕ → Option ℕ
dirty_word_in [] address = None
dirty_word_in (p ∷ ps) address = option_or (dirty_word p.lines address) (dirty_word_in ps address)

-- the dirty cached word where there is one, else the word in memory
abbrev pub now : System → ℕ → ℕ
now s address = option_map_or (λ v. v) (dirty_word_in s.processors address) (word_at s.memory address)

-- a clean cached word is memory's, and where a cache has a dirty word of a line no other cache has that line
pub record IsCoherent (s : System) : Type 0 where
  pub clean : All (λ p. All (λ l. (word : ℕ) → word < 8 → is_dirty l word ≡ false → slice_index l.words word ≡ word_at s.memory (word_address l.number word)) p.lines) s.processors
  pub sole : (i j : ℕ) (p q : Processor) → i ≢ j → slice_get s.processors i ≡ Some p → slice_get s.processors j ≡ Some q
      → All (λ l. l.dirty ≢ 0 → IsNone (find_line l.number q.lines)) p.lines

abbrev pub is_writing : Phase → Option ℕ
is_writing (Writing i) = Some i
is_writing other = None

-- the phases from the first flush of the TLB on, up to the return of PGE
abbrev pub is_tlb_flushed : Phase → Bool
is_tlb_flushed TlbFlushed = true
is_tlb_flushed (Writing i) = true
is_tlb_flushed Enabled = true
is_tlb_flushed Flushed2 = true
is_tlb_flushed TlbFlushed2 = true
is_tlb_flushed Normal = true
is_tlb_flushed other = false

-- what a processor keeps at all times
pub record IsProcessor (p : Processor) : Type 0 where
  pub register_file : IsRegisterFile p.file
  pub accepted : is_writing p.phase ≡ None → IsAccepted p.file
  pub in_range : (i : ℕ) → is_writing p.phase ≡ Some i → i < length (writable p.file)
  pub indexes : All (λ m. m.index < 8) p.mappings
  pub mapped_pages : All (λ m. m.ppage < page_count p.file) p.mappings
  pub few_mappings : length p.mappings ≤ 64
  pub distinct_mappings : AreMappingsApart p.mappings
  pub local_entries : p.page_global ≡ false → All (λ e. e.global ≡ false) p.entries
  pub mapped : All (λ e. IsTrue (is_mapped e.vpage p.mappings)) p.entries
  pub entry_pages : All (λ e. e.ppage < page_count p.file) p.entries
  pub flushed : is_tlb_flushed p.phase ≡ true → p.entries ≡ []
  pub few_entries : length p.entries ≤ 64
  pub distinct_entries : AreEntriesApart p.entries
  pub few_lines : length p.lines ≤ 64
  pub distinct_lines : AreDistinct p.lines
  pub whole_lines : All IsLine p.lines
  pub few_buffers : length p.buffers ≤ 4
  pub distinct_buffers : AreDistinct p.buffers
  pub whole_buffers : All IsLine p.buffers

pub record IsSound (s : System) : Type 0 where
  pub memory : IsMemory s.memory
  pub coherent : IsCoherent s
  pub lines_in_memory : All (λ p. All (λ l. IsSome (place s.memory (word_address l.number 0))) p.lines) s.processors
  pub buffers_in_memory : All (λ p. All (λ l. IsSome (place s.memory (word_address l.number 0))) p.buffers) s.processors
  pub each : All IsProcessor s.processors
