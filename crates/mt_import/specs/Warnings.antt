-- Lines that warn: a kernel's on what it found, and signs that the processor's rules aren't Intel's (own).
--     warning_of line      what a line warns of, by its words
--     warned_by reading warned      what lines warn of, behind what one more shows of a register
--     warning_lines warned      the lines on standard error
use Rattle.std.specs.Prelude.{ℕ, ◌==◌, ◌&&◌, ◌||◌, not, nat_lt, bit_and, is_some, codes, decimal, Bool, List, [], ◌++◌, if◌then◌else◌, Option, Some, None}
use Rattle.mt_text.specs.Text.{words_of}
use Rattle.mt_text.specs.Words.{text_of}
use Rattle.mt_output.specs.Lines.{line}
use Rattle.mt_import.specs.declared.shape.Reading.{Reading}
use Rattle.mt_import.specs.declared.shape.Warned.{Warned}
use Rattle.mt_import.specs.declared.shape.Warning.{Warning}
use Rattle.mt_import.specs.declared.shape.Warning.TheVariants.{Unlike, WrongMask, LostMemory, TopOfMemory, Syscfg, MemoryBits}
use Rattle.mt_import.specs.Pieces.{behind, is_text}
use Rattle.mt_import.specs.LineWords.{kernel_end, words_behind}

-- ---- words

-- `mtrr: your CPUs had inconsistent variable MTRR settings`, `mtrr: your BIOS has configured an incorrect mask, fixing it.`
abbrev pub kernel_warning : List (ℕ × List ℕ) → Option Warning
kernel_warning words =
    if is_text (codes "CPUs") (text_of words 2) && is_text (codes "inconsistent") (text_of words 4) then Some Unlike
    else if is_text (codes "incorrect") (text_of words 6) && is_text (codes "mask,") (text_of words 7) then Some WrongMask
    else None

-- `WARNING: BIOS bug: CPU MTRRs don't cover all of memory, losing 240MB of RAM.`
abbrev pub is_lost : List (ℕ × List ℕ) → Bool
is_lost words = is_text (codes "MTRRs") (text_of words 4) && is_text (codes "cover") (text_of words 6) && is_text (codes "losing") (text_of words 10)

abbrev pub names_syscfg : List ℕ → Bool
names_syscfg word = is_some (behind (codes "SYSCFG") word)

-- `[Firmware Warn]: MTRR: CPU 0: SYSCFG[MtrrFixDramModEn] not cleared by BIOS, clearing this bit`, or `MTRR: CPU0: SYSCFG[..`
abbrev pub is_syscfg : List (ℕ × List ℕ) → Bool
is_syscfg words =
    names_syscfg (text_of words 0)
    || (is_text (codes "[Firmware") (text_of words 0) && names_syscfg (text_of words 5))
    || (is_some (behind (codes "MTRR") (text_of words 0)) && is_some (behind (codes "CPU") (text_of words 1)) && names_syscfg (text_of words 2))

-- `TOM2: 0000000830000000 aka 33536M` of Linux, `TOM2: 0000000830000000 (WB)` of Xen, `Tom2ForceMemTypeWB`
abbrev pub is_top_of_memory : List ℕ → Bool
is_top_of_memory word = is_some (behind (codes "TOM2") word) || is_some (behind (codes "Tom2") word)

abbrev pub warning_in : List (ℕ × List ℕ) → Option Warning
warning_in words =
    if is_text (codes "mtrr:") (text_of words 0) then kernel_warning words
    else if is_text (codes "WARNING:") (text_of words 0) && is_lost words then Some LostMemory
    else if is_top_of_memory (text_of words 0) then Some TopOfMemory
    else if is_syscfg words then Some Syscfg
    else None

-- a warning of Linux or Xen, or a sign that a firmware prints
abbrev pub warning_of : List ℕ → Option Warning
warning_of line = warning_in (words_behind (kernel_end (words_of line)) line)

-- ---- registers

-- A reading that shows RdMem or WrMem, bits 4:3 of a fixed range's byte: AMD64 Architecture Programmer's Manual, volume 2, section Extended Fixed-Range MTRR Type-Field Encodings.
abbrev pub has_memory_bits : Reading → Bool
has_memory_bits reading = nat_lt 0x24f reading.number && nat_lt reading.number 0x270 && not (bit_and reading.value 0x1818181818181818 == 0)

-- ---- all lines

abbrev pub none_warned : Warned
none_warned = record { unlike = None; wrong_mask = None; lost_memory = None; top_of_memory = None; syscfg = None; memory_bits = None }

-- behind a line of this number that warns
abbrev pub warned_with : Warning → ℕ → Warned → Warned
warned_with Unlike number warned = record warned { unlike = Some number }
warned_with WrongMask number warned = record warned { wrong_mask = Some number }
warned_with LostMemory number warned = record warned { lost_memory = Some number }
warned_with TopOfMemory number warned = record warned { top_of_memory = Some number }
warned_with Syscfg number warned = record warned { syscfg = Some number }
warned_with MemoryBits number warned = record warned { memory_bits = Some number }

abbrev pub warned_by : Reading → Warned → Warned
warned_by reading warned = if has_memory_bits reading then warned_with MemoryBits reading.place.line warned else warned

-- ---- what is told

abbrev pub warning_text : Warning → List ℕ
warning_text Unlike = codes "the kernel found that the processors' MTRRs differ"
warning_text WrongMask = codes "the kernel corrected a mask, so the registers may have another than it prints"
warning_text LostMemory = codes "the kernel leaves out RAM, since these ranges don't make all of it WB"
warning_text TopOfMemory = codes "TOM2: AMD's rules may make RAM from 4 GB to TOM2 WB, and Intel's, which mtrr has, don't"
warning_text Syscfg = codes "SYSCFG: AMD's rules may read bits 4:3 of fixed ranges, which Intel's, which mtrr has, reserve"
warning_text MemoryBits = codes "a fixed range has AMD's RdMem or WrMem, bits 4:3, and by Intel's rules, which mtrr has, no type"

-- the last line that warns of this
abbrev pub line_warned : Warned → Warning → Option ℕ
line_warned warned Unlike = warned.unlike
line_warned warned WrongMask = warned.wrong_mask
line_warned warned LostMemory = warned.lost_memory
line_warned warned TopOfMemory = warned.top_of_memory
line_warned warned Syscfg = warned.syscfg
line_warned warned MemoryBits = warned.memory_bits

-- `warning: line 7: ..`
abbrev pub warning_line : Warning → Option ℕ → List ℕ
warning_line warning None = []
warning_line warning (Some number) = line (codes "warning: line " ++ decimal number ++ codes ": " ++ warning_text warning)

abbrev pub line_on : Warned → Warning → List ℕ
line_on warned warning = warning_line warning (line_warned warned warning)

-- a line for each kind that lines warn of
abbrev pub warning_lines : Warned → List ℕ
warning_lines warned =
    line_on warned Unlike ++ (line_on warned WrongMask ++ (line_on warned LostMemory ++ (line_on warned TopOfMemory ++ (line_on warned Syscfg ++ line_on warned MemoryBits))))
