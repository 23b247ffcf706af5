-- What the lines of a log show, in each format (own).
--     said_of format number line      what a line says, whatever the others say
--     format_told number line      the first format that a line tells
--     facts_from context number lines      the facts of lines, of which the first has this number
use Rattle.std.specs.Prelude.{ℕ, ◌+◌, ◌==◌, ◌&&◌, nat_lt, Bool, true, false, List, [], ◌∷◌, ◌++◌, if◌then◌else◌, Option, Some, None}
use Rattle.mt_text.specs.Text.{is_too_long, lines_of, past_limit}
use Rattle.mt_import.specs.declared.format.Choice.{Choice}
use Rattle.mt_import.specs.declared.format.Choice.TheVariants.{Auto, Only}
use Rattle.mt_import.specs.declared.format.Format.{Format}
use Rattle.mt_import.specs.declared.format.Format.TheVariants.{Rdmsr, X86info, Inteltool, Coreboot, Edk2, Linux, Xen, Chipsec, Windbg, Plain}
use Rattle.mt_import.specs.declared.fault.Reason.TheVariants.{LongLine}
use Rattle.mt_import.specs.declared.reading.Context.{Context}
use Rattle.mt_import.specs.declared.reading.LineSays.{LineSays}
use Rattle.mt_import.specs.declared.reading.LineSays.TheVariants.{Nothing, Announces, Value, Turns, Shows, Lists, Begins, FixedRanges, VariableRanges, Width, Warns, Bad}
use Rattle.mt_import.specs.declared.reading.Turn.{Turn}
use Rattle.mt_import.specs.declared.shape.Warning.{Warning}
use Rattle.mt_import.specs.declared.reading.Turn.TheVariants.{To, Unread, UnreadCall}
use Rattle.mt_import.specs.Chipsec.{chipsec_said}
use Rattle.mt_import.specs.Coreboot.{coreboot_said}
use Rattle.mt_import.specs.Inteltool.{inteltool_said}
use Rattle.mt_import.specs.Plain.{plain_said}
use Rattle.mt_import.specs.Rdmsr.{rdmsr_said}
use Rattle.mt_import.specs.Tables.{each_said}
use Rattle.mt_import.specs.Windbg.{windbg_said}
use Rattle.mt_import.specs.X86info.{sizes_said, x86info_said}
use Rattle.mt_import.specs.Edk2.{edk2_said}
use Rattle.mt_import.specs.Linux.{linux_said}
use Rattle.mt_import.specs.Xen.{xen_said}
use Rattle.mt_import.specs.Readings.{Fact, context_after, line_facts, starts}
use Rattle.mt_import.specs.Warnings.{warning_of}

abbrev pub said_by_line : Format → ℕ → List ℕ → LineSays
said_by_line Rdmsr number line = rdmsr_said number line
said_by_line X86info number line = x86info_said number line
said_by_line Inteltool number line = inteltool_said number line
said_by_line Coreboot number line = coreboot_said number line
said_by_line Edk2 number line = edk2_said number line
said_by_line Linux number line = linux_said number line
said_by_line Xen number line = xen_said number line
said_by_line Chipsec number line = chipsec_said number line
said_by_line Windbg number line = windbg_said number line
said_by_line Plain number line = plain_said number line

-- A byte-order mark of UTF-8 at a line's front is no part of it.
abbrev pub unmarked : List ℕ → List ℕ
unmarked (a ∷ b ∷ c ∷ rest) = if a == 239 && b == 187 && c == 191 then rest else a ∷ b ∷ c ∷ rest
unmarked line = line

abbrev pub first_said : LineSays → LineSays → LineSays
first_said Nothing other = other
first_said (Announces processor register) other = Announces processor register
first_said (Value value place) other = Value value place
first_said (Turns turn) other = Turns turn
first_said (Shows processor shows) other = Shows processor shows
first_said (Lists processor shown) other = Lists processor shown
first_said (Begins shows) other = Begins shows
first_said (FixedRanges enabled alone place) other = FixedRanges enabled alone place
first_said (VariableRanges enabled place) other = VariableRanges enabled place
first_said (Width width place) other = Width width place
first_said (Warns warning number) other = Warns warning number
first_said (Bad why place) other = Bad why place

abbrev pub warns_or : Option Warning → ℕ → LineSays → LineSays
warns_or None number said = said
warns_or (Some warning) number said = Warns warning number

-- what a line says in each format: what it warns of, the width by the sizes of addresses, or that it is UTF-16
abbrev pub said_in_each : ℕ → List ℕ → LineSays
said_in_each number line = warns_or (warning_of line) number (first_said (sizes_said number line) (each_said number line))

abbrev pub said_or_sizes : LineSays → ℕ → List ℕ → LineSays
said_or_sizes said number line = first_said said (said_in_each number line)

-- A line of more than 4,096 bytes isn't read.
abbrev pub said_of : Format → ℕ → List ℕ → LineSays
said_of format number line =
    if is_too_long line then Bad LongLine (past_limit number)
    else said_or_sizes (said_by_line format number (unmarked line)) number (unmarked line)

-- ---- the format that a line tells

-- A line that turns to processor 0 tells no format, nor does one that turns to a processor whose number can't be read.
abbrev pub tells_turn : Turn → Bool
tells_turn (To processor) = nat_lt 0 processor
tells_turn Unread = false
tells_turn UnreadCall = true

-- A value alone tells no format.
abbrev pub is_telling : LineSays → Bool
is_telling (Announces processor register) = true
is_telling (Shows processor shows) = true
is_telling (Begins shows) = true
is_telling (FixedRanges enabled alone place) = true
is_telling (VariableRanges enabled place) = true
is_telling Nothing = false
is_telling (Value value place) = false
is_telling (Turns turn) = tells_turn turn
is_telling (Width width place) = true
is_telling (Warns warning number) = false
is_telling (Lists processor shown) = true
is_telling (Bad why place) = false

unfoldable pub tells : Format → ℕ → List ℕ → Bool
tells format number line = is_telling (said_by_line format number (unmarked line))

abbrev pub format_told : ℕ → List ℕ → Option Format
format_told number line =
    if is_too_long line then None
    else if tells Xen number line then Some Xen
    else if tells Linux number line then Some Linux
    else if tells Coreboot number line then Some Coreboot
    else if tells Edk2 number line then Some Edk2
    else if tells Inteltool number line then Some Inteltool
    else if tells X86info number line then Some X86info
    else if tells Rdmsr number line then Some Rdmsr
    else if tells Chipsec number line then Some Chipsec
    else if tells Windbg number line then Some Windbg
    else if tells Plain number line then Some Plain
    else None

-- what a line says in a format, where one is known
abbrev pub said_in : Option Format → ℕ → List ℕ → LineSays
said_in (Some format) number line = said_of format number line
said_in None number line = if is_too_long line then Bad LongLine (past_limit number) else said_in_each number (unmarked line)

-- ---- all lines

-- the facts of a line behind lines that lead to this
abbrev pub facts_of_line : Context → ℕ → List ℕ → List Fact
facts_of_line context number line = line_facts number context.format context (said_in context.format number line)

abbrev pub context_behind : Context → ℕ → List ℕ → Context
context_behind context number line = context_after context context.format (said_in context.format number line)

abbrev pub facts_from : Context → ℕ → List (List ℕ) → List Fact
facts_from context number [] = []
facts_from context number (line ∷ lines) = facts_of_line context number line ++ facts_from (context_behind context number line) (number + 1) lines

abbrev pub shown : Option Format → List ℕ → List Fact
shown format text = facts_from (starts format) 1 (lines_of text)

abbrev pub is_auto : Choice → Bool
is_auto Auto = true
is_auto (Only format) = false
