-- Worked lines (own).
--     Shows format line first last kind      the line shows this range
--     ShowsFault format line fault      it shows this fault
--     called format      what logs of a format call each kind
--     AreNamed format      these names have these kinds
--     ComesTo which lines ranges overlap      a log of these lines shows a map of these ranges
use Rattle.std.specs.Prelude.{ℕ, ◌≡◌, codes, List, [], ◌∷◌, map, Option, Some, None, Ok, Err}
use Rattle.std.specs.List.{AllByRecursion}
use Rattle.mt_dump.specs.Canon.{ended}
use Rattle.mt_text.specs.declared.place.Place.{Place}
use Rattle.mt_memory.specs.declared.format.Format.{Format}
use Rattle.mt_memory.specs.declared.format.Format.TheVariants.{E820, Efi, Coreboot, Iomem}
use Rattle.mt_memory.specs.declared.format.MapFault.{MapFault}
use Rattle.mt_memory.specs.declared.format.Overlap.{Overlap}
use Rattle.mt_memory.specs.declared.format.Shown.{Shown}
use Rattle.mt_memory.specs.declared.format.Shown.TheVariants.{Nothing, Range, Fault}
use Rattle.mt_memory.specs.declared.format.WhichMap.{WhichMap}
use Rattle.mt_memory_kinds.specs.declared.kind.MemoryKind.{MemoryKind}
use Rattle.mt_memory_kinds.specs.declared.kind.MemoryKind.TheVariants.{Ram, Reserved, Device, Acpi, Nvs, Unusable}
use Rattle.mt_memory_kinds.specs.declared.kind.MemoryRange.{MemoryRange}
use Rattle.mt_memory.specs.Finding.{first_named}
use Rattle.mt_memory.specs.Log.{log_map}
use Rattle.mt_memory.specs.Showing.{shown_in, table_of}

abbrev pub range_in : Shown → Option MemoryRange
range_in Nothing = None
range_in (Range claim) = Some claim.range
range_in (Fault fault) = None

abbrev pub Shows : Format → List ℕ → ℕ → ℕ → MemoryKind → Type 0
Shows format line first last kind = range_in (shown_in format 1 line) ≡ Some (record { first = first; last = last; kind = kind })

abbrev pub ShowsFault : Format → List ℕ → MapFault → Type 0
ShowsFault format line fault = shown_in format 1 line ≡ Fault fault

abbrev pub at_column : ℕ → Place
at_column column = record { line = 1; column = column }

abbrev pub called : Format → List (MemoryKind × List (List ℕ))
called E820 =
    (Ram, codes "usable" ∷ codes "(usable)" ∷ [])
    ∷ (Reserved, codes "reserved" ∷ codes "(reserved)" ∷ codes "soft reserved" ∷ codes "persistent (type 7)" ∷ codes "type 20" ∷ [])
    ∷ (Acpi, codes "ACPI data" ∷ codes "(ACPI data)" ∷ [])
    ∷ (Nvs, codes "ACPI NVS" ∷ codes "(ACPI NVS)" ∷ [])
    ∷ (Unusable, codes "unusable" ∷ codes "(unusable)" ∷ [])
    ∷ []
called Efi =
    (Ram, codes "[Conventional Memory|" ∷ codes "[Loader Code" ∷ codes "[Boot Data" ∷ codes "[Unaccepted|" ∷ codes "Available" ∷ codes "LoaderData" ∷ codes "BS_Code" ∷ codes "Unaccepted" ∷ [])
    ∷ (Reserved, codes "[Reserved" ∷ codes "[Runtime Code" ∷ codes "[PAL Code" ∷ codes "[Persistent" ∷ codes "[type=0x80000000" ∷ [])
    ∷ (Reserved, codes "Reserved" ∷ codes "RT_Data" ∷ codes "PalCode" ∷ codes "Persistent" ∷ [])
    ∷ (Device, codes "[MMIO Port" ∷ codes "[Memory Mapped I/O" ∷ codes "MMIO_Port" ∷ [])
    ∷ (Acpi, codes "[ACPI Reclaim Memory" ∷ codes "ACPI_Recl" ∷ [])
    ∷ (Nvs, codes "[ACPI Memory NVS|" ∷ codes "[ACPI Mem NVS" ∷ codes "ACPI_NVS" ∷ [])
    ∷ (Unusable, codes "[Unusable Memory" ∷ codes "Unusable" ∷ [])
    ∷ []
called Coreboot =
    (Ram, codes "RAM" ∷ codes "RAMSTAGE" ∷ codes "PAYLOAD" ∷ [])
    ∷ (Reserved, codes "RESERVED" ∷ codes "VENDOR RESERVED" ∷ codes "SOFT RESERVED" ∷ codes "CONFIGURATION TABLES" ∷ codes "BL31" ∷ codes "OPENSBI" ∷ [])
    ∷ (Acpi, codes "ACPI" ∷ [])
    ∷ (Nvs, codes "NVS" ∷ [])
    ∷ (Unusable, codes "UNUSABLE" ∷ [])
    ∷ []
called Iomem =
    (Ram, codes ": System RAM" ∷ [])
    ∷ (Reserved, codes ": Reserved" ∷ codes ": reserved" ∷ codes ": Soft Reserved" ∷ codes ": RAM buffer" ∷ codes ": Unknown E820 type" ∷ codes ": Persistent Memory" ∷ [])
    ∷ (Device, codes ": PCI Bus 0000:00" ∷ [])
    ∷ (Acpi, codes ": ACPI Tables" ∷ [])
    ∷ (Nvs, codes ": ACPI Non-volatile Storage" ∷ [])
    ∷ (Unusable, codes ": Unusable memory" ∷ [])
    ∷ []

abbrev pub AreNamed : Format → Type 0
AreNamed format = AllByRecursion (λ row. map (first_named (table_of format).names) row.1 ≡ map (λ name. Some row.0) row.1) (called format)

-- by the format that the lines tell, which is E820
abbrev pub ComesTo : WhichMap → List (List ℕ) → List MemoryRange → Option Overlap → Type 0
ComesTo which lines ranges overlap = log_map None which (ended lines) ≡ Ok (record { format = E820; ranges = record { items = ranges }; overlap = overlap; broken = 0 })

abbrev pub Refuses : WhichMap → List (List ℕ) → MapFault → Type 0
Refuses which lines fault = log_map None which (ended lines) ≡ Err fault

abbrev pub range : ℕ → ℕ → MemoryKind → MemoryRange
range first last kind = record { first = first; last = last; kind = kind }

-- a log in which a line shows bytes of the line before it
abbrev pub overlapping : List (List ℕ)
overlapping = codes "BIOS-e820: [mem 0x0000000000001000-0x0000000000004fff] usable" ∷ codes "nothing" ∷ codes "BIOS-e820: [mem 0x0000000000002000-0x0000000000002fff] reserved" ∷ []

-- a log that begins anew at line 2, and breaks off at line 3
abbrev pub starting_over : List (List ℕ)
starting_over =
    codes "BIOS-e820: [mem 0x0000000000001000-0x0000000000001fff] usable" ∷ codes "BIOS-e820: [mem 0x0000000000000000-0x0000000000000fff] usable"
    ∷ codes "BIOS-e820: [mem 0x00000000000020" ∷ []

-- a log with two maps, at lines 2 and 4
abbrev pub two_maps : List (List ℕ)
two_maps =
    codes "BIOS-provided physical RAM map:" ∷ codes "BIOS-e820: [mem 0x0000000000001000-0x0000000000001fff] usable" ∷ codes "BIOS-provided physical RAM map:"
    ∷ codes "BIOS-e820: [mem 0x0000000000002000-0x0000000000002fff] usable" ∷ codes "BIOS-e820: [mem 0x0000000000003000-0x0000000000003fff] usable" ∷ []
