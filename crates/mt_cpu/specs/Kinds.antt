-- Translation where a table says each page's type in place of the registers. The entry is the machine's where the two
-- agree. Effective types: Intel SDM, volume 3A, chapter Memory Cache Control, section "Page Attribute Table (PAT)".
use Rattle.std.specs.Prelude.{◌≡◌, ℕ, ◌<◌, ◌&&◌, Option, Some}
use Rattle.std.specs.Option.{option_map, option_map_or}
use Rattle.mt_kinds.specs.declared.mem_type.MemType.{MemType}
use Rattle.mt_kinds.specs.EffectiveType.{effective_type}
use Rattle.mt_kinds.specs.Pat.{pat_entry}
use Rattle.mt_regs.specs.PageTypes.{defined_type, page_type}
use Rattle.mt_regs.specs.RegisterFile.{RegisterFile, page_count}
use Rattle.mt_tlb.specs.declared.entry.Entry.{Entry}
use Rattle.mt_tlb.specs.declared.mapping.Mapping.{Mapping}
use Rattle.mt_tlb.specs.Entries.{find_entry, find_mapping}
use Rattle.mt_machine.specs.System.{Processor}

-- the entry that a mapping makes
abbrev pub new_entry_by : (ℕ → MemType) → Processor → Mapping → Entry
new_entry_by kinds p m = record {
  vpage = m.vpage;
  ppage = m.ppage;
  kind = effective_type (kinds m.ppage) (pat_entry p.file.pat m.index);
  global = m.global && p.page_global;
  era = p.era;
}

-- the entry of a page: the one that stands, or else the one that its mapping makes
abbrev pub entry_by : (ℕ → MemType) → Processor → ℕ → Option Entry
entry_by kinds p page = option_map_or Some (find_entry page p.entries) (option_map (new_entry_by kinds p) (find_mapping page p.mappings))

-- the table has the file's type of each page
abbrev pub AgreesWith : (ℕ → MemType) → RegisterFile → Type 0
AgreesWith kinds f = (page : ℕ) → page < page_count f → kinds page ≡ defined_type (page_type f page)
