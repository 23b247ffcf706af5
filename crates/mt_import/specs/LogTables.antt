-- The tables of a log, and what is read of it where one of them is asked for (own).
--     is_part format line said      a line of a table
--     is_read pick whole now      the table that the last heading begins is one that is read
--     facts_of_tables pick format text      the facts of the lines of the tables that are read, and of all lines outside of tables
use Rattle.std.specs.Prelude.{ℕ, ◌+◌, ◌==◌, ◌&&◌, ◌||◌, not, nat_le, nat_lt, codes, decimal, Bool, true, false, List, [], ◌∷◌, ◌++◌, if◌then◌else◌, Option, Some, None, is_some, unwrap_or, slice_get}
use Rattle.mt_ports.specs.Causes.{one_more}
use Rattle.mt_output.specs.Lines.{line}
use Rattle.mt_text.specs.Text.{is_too_long, lines_of, words_of}
use Rattle.mt_text.specs.Words.{text_of}
use Rattle.mt_import.specs.declared.fault.ImportFault.{ImportFault}
use Rattle.mt_import.specs.declared.fault.ImportFault.TheVariants.{BadLine, BadProcessor, TooManyPairs, BadWidth, Contradiction, WidthContradiction}
use Rattle.mt_import.specs.declared.fault.Rival.{Rival}
use Rattle.mt_import.specs.declared.fault.Rival.TheVariants.{Line, Word, CapabilityLine, CapabilityWord, RegisterLine}
use Rattle.mt_import.specs.declared.format.Format.{Format}
use Rattle.mt_import.specs.declared.format.Format.TheVariants.{Rdmsr, X86info, Inteltool, Coreboot, Edk2, Linux, Xen, Chipsec, Windbg, Plain}
use Rattle.mt_import.specs.declared.reading.Context.{Context}
use Rattle.mt_import.specs.declared.reading.LineSays.{LineSays}
use Rattle.mt_import.specs.declared.reading.LineSays.TheVariants.{Nothing, Announces, Value, Turns, Shows, Lists, Begins, FixedRanges, VariableRanges, Width, Warns, Bad}
use Rattle.mt_import.specs.declared.shape.Failure.{Failure}
use Rattle.mt_import.specs.declared.shape.Pick.{Pick}
use Rattle.mt_import.specs.declared.shape.Pick.TheVariants.{Each, Number, Last}
use Rattle.mt_import.specs.declared.shape.Shown.{Shown}
use Rattle.mt_import.specs.declared.shape.Tables.{Tables}
use Rattle.mt_import.specs.declared.shape.Told.{Told}
use Rattle.mt_import.specs.declared.shape.Way.{Way}
use Rattle.mt_import.specs.LineWords.{head_end, words_behind}
use Rattle.mt_import.specs.Pieces.{behind}
use Rattle.mt_import.specs.Readings.{Fact, context_after, line_facts, starts}
use Rattle.mt_import.specs.Shown.{said_in, unmarked}
use Rattle.mt_import.specs.Slot.{all_bits}

-- ---- the lines of a table

-- the i-th register that a line shows
abbrev pub shown_at : List (Option Shown) → ℕ → Option Shown
shown_at shows i = unwrap_or (slice_get shows i) None

abbrev pub shows_default : Option Shown → Bool
shows_default None = false
shows_default (Some shown) = shown.number == 0x2ff

-- `regNN:` of `/proc/mtrr`, or `reg N,` of the cleanup
abbrev pub is_region : List ℕ → Bool
is_region line = is_some (behind (codes "reg") (text_of (words_behind (head_end (words_of line)) line) 0))

-- Linux's table has neither the PAT nor the capability register.
abbrev pub is_in_table : Option Shown → Bool
is_in_table None = true
is_in_table (Some shown) = not (shown.number == 0x277) && not (shown.number == 0xfe)

abbrev pub are_some_bits : Option Shown → Bool
are_some_bits None = false
are_some_bits (Some shown) = not (shown.bits == all_bits)

-- A line that shows registers is of a table, where it can be of nothing else. Coreboot also sets and displays registers one by one: of its
-- table are the lines that show two, or a part of one.
abbrev pub shows_part_in : Format → List ℕ → List (Option Shown) → Bool
shows_part_in Edk2 line shows = true
shows_part_in Xen line shows = true
shows_part_in Linux line shows = not (is_region line) && is_in_table (shown_at shows 0)
shows_part_in Coreboot line shows = is_some (shown_at shows 1) || are_some_bits (shown_at shows 0)
shows_part_in Rdmsr line shows = false
shows_part_in X86info line shows = false
shows_part_in Inteltool line shows = false
shows_part_in Chipsec line shows = false
shows_part_in Windbg line shows = false
shows_part_in Plain line shows = false

abbrev pub shows_part : Option Format → List ℕ → List (Option Shown) → Bool
shows_part None line shows = false
shows_part (Some format) line shows = shows_part_in format line shows

-- a line of a table
abbrev pub is_part : Option Format → List ℕ → LineSays → Bool
is_part format line (Begins shows) = true
is_part format line (FixedRanges enabled alone place) = true
is_part format line (VariableRanges enabled place) = true
is_part format line (Shows processor shows) = shows_part format line shows
is_part format line Nothing = false
is_part format line (Announces processor number) = false
is_part format line (Value value place) = false
is_part format line (Turns turn) = false
is_part format line (Width width place) = false
is_part format line (Warns warning number) = false
is_part format line (Lists processor shown) = false
is_part format line (Bad why place) = false

-- what a line says in this format
abbrev pub told_by : Option Format → ℕ → List ℕ → Told
told_by format number line = record { number = number; format = format; said = said_in format number line; is_part = is_part format (unmarked line) (said_in format number line) }

-- ---- headings

abbrev pub is_edk2 : Option Format → Bool
is_edk2 None = false
is_edk2 (Some Edk2) = true
is_edk2 (Some Rdmsr) = false
is_edk2 (Some X86info) = false
is_edk2 (Some Inteltool) = false
is_edk2 (Some Coreboot) = false
is_edk2 (Some Linux) = false
is_edk2 (Some Xen) = false
is_edk2 (Some Chipsec) = false
is_edk2 (Some Windbg) = false
is_edk2 (Some Plain) = false

-- The heading of a table: EDK2's is the line of its default type.
abbrev pub is_heading_in : Option Format → LineSays → Bool
is_heading_in format (Begins shows) = true
is_heading_in format (Shows processor shows) = is_edk2 format && shows_default (shown_at shows 0)
is_heading_in format (FixedRanges enabled alone place) = false
is_heading_in format (VariableRanges enabled place) = false
is_heading_in format Nothing = false
is_heading_in format (Announces processor number) = false
is_heading_in format (Value value place) = false
is_heading_in format (Turns turn) = false
is_heading_in format (Width width place) = false
is_heading_in format (Warns warning number) = false
is_heading_in format (Lists processor shown) = false
is_heading_in format (Bad why place) = false

abbrev pub begins_table : Told → Bool
begins_table told = is_heading_in told.format told.said

abbrev pub no_tables : Tables
no_tables = record { count = 0; first = 0; last = 0 }

-- those behind a heading in the line of this number
abbrev pub tables_with : Tables → ℕ → Tables
tables_with tables number = record { count = one_more tables.count; first = if tables.count == 0 then number else tables.first; last = number }

abbrev pub tables_behind : Tables → Told → Tables
tables_behind tables told = if begins_table told then tables_with tables told.number else tables

-- ---- all lines

abbrev pub way_from : Option Format → Way
way_from format = record { format = format; tables = no_tables }

abbrev pub way_behind : Way → Told → Way
way_behind way told = record { format = told.format; tables = tables_behind way.tables told }

-- Behind lines, of which the first has this number. Nothing is read behind one that is too long.
abbrev pub way_at_end : Way → ℕ → List (List ℕ) → Way
way_at_end way number [] = way
way_at_end way number (line ∷ lines) = if is_too_long line then way else way_at_end (way_behind way (told_by way.format number line)) (number + 1) lines

-- the tables of a log, whose format may be known
abbrev pub tables_of : Option Format → List ℕ → Tables
tables_of format text = (way_at_end (way_from format) 1 (lines_of text)).tables

-- The table that the last heading begins is read. The log has `whole`, of which `now` have begun.
abbrev pub is_read : Pick → Tables → Tables → Bool
is_read Each whole now = true
is_read (Number number) whole now = now.count == number
is_read Last whole now = now.last == whole.last

-- a line of a table that isn't read says nothing
abbrev pub kept : Bool → Told → LineSays
kept read told = if told.is_part && not read then Nothing else told.said

abbrev pub facts_told : Bool → Context → Told → List Fact
facts_told read context told = line_facts told.number told.format context (kept read told)

abbrev pub context_told : Bool → Context → Told → Context
context_told read context told = context_after context told.format (kept read told)

-- the facts of lines, of which the first has this number, where tables are read behind which this holds
abbrev pub facts_alone : (Tables → Bool) → Way → Context → ℕ → List (List ℕ) → List Fact
facts_alone read way context number [] = []
facts_alone read way context number (line ∷ lines) =
    let told = told_by way.format number line in
    let behind = way_behind way told in
    facts_told (read behind.tables) context told ++ facts_alone read behind (context_told (read behind.tables) context told) (number + 1) lines

-- those of a log
abbrev pub facts_of_tables : Pick → Option Format → List ℕ → List Fact
facts_of_tables pick format text = facts_alone (is_read pick (tables_of format text)) (way_from format) (starts format) 1 (lines_of text)

-- ---- the same as a log of its own

-- a line of a table that isn't read is empty
abbrev pub line_kept : Bool → Told → List ℕ → List ℕ
line_kept read told line = if told.is_part && not read then [] else line

abbrev pub lines_alone : (Tables → Bool) → Way → ℕ → List (List ℕ) → List (List ℕ)
lines_alone read way number [] = []
lines_alone read way number (line ∷ lines) =
    let told = told_by way.format number line in
    let behind = way_behind way told in
    line_kept (read behind.tables) told line ∷ lines_alone read behind (number + 1) lines

-- ---- what is told of tables

abbrev pub has_picked : Pick → Tables → Bool
has_picked Each tables = true
has_picked (Number number) tables = nat_le number tables.count
has_picked Last tables = nat_lt 0 tables.count

-- what is between the lines of the first and the last of so many tables
abbrev pub between : ℕ → List ℕ
between count = if count == 2 then codes " and " else codes ", .., "

-- `2 tables, at lines 1 and 18`
abbrev pub tables_text : Tables → List ℕ
tables_text tables =
    if tables.count == 0 then codes "no tables"
    else if tables.count == 1 then codes "1 table, at line " ++ decimal tables.first
    else decimal tables.count ++ codes " tables, at lines " ++ decimal tables.first ++ between tables.count ++ decimal tables.last

abbrev pub pick_text : Pick → List ℕ
pick_text Each = codes "all"
pick_text (Number number) = decimal number
pick_text Last = codes "last"

abbrev pub missing_table : Pick → Tables → List ℕ
missing_table pick tables = line (codes "missing table=" ++ pick_text pick ++ codes ": " ++ tables_text tables)

abbrev pub is_line : Rival → Bool
is_line (Line number) = true
is_line (CapabilityLine number) = true
is_line (RegisterLine number) = true
is_line Word = false
is_line CapabilityWord = false

-- Lines contradict each other in a register that tables show.
abbrev pub is_between_lines : ImportFault → Bool
is_between_lines (Contradiction place number rival) = is_line rival && not (number == 0x277)
is_between_lines (BadLine why place) = false
is_between_lines (BadProcessor place) = false
is_between_lines (TooManyPairs place) = false
is_between_lines (BadWidth place) = false
is_between_lines (WidthContradiction place rival) = false

abbrev pub is_all : Pick → Bool
is_all Each = true
is_all (Number number) = false
is_all Last = false

-- what is told behind a fault, where tables may contradict each other
abbrev pub table_hint : Pick → Failure → List ℕ
table_hint pick failure =
    if is_all pick && nat_lt 1 failure.tables.count && is_between_lines failure.stop.fault
    then line (tables_text failure.tables ++ codes ": table=last takes the last")
    else []
