-- The format that `auto` takes: the one of which most lines show registers (own).
--     census_of text      the lines of a log by format
--     taken census      the format that is taken
--     format_of choice text      the format by which a log is read
--     passed_over census      what is told of the lines of other formats
use Rattle.std.specs.Prelude.{ℕ, ◌+◌, ◌==◌, ◌||◌, nat_lt, codes, decimal, Bool, true, false, List, [], ◌∷◌, ◌++◌, replicate, slice_set, if◌then◌else◌, Option, Some, None}
use Rattle.std.specs.List.{slice_index_or}
use Rattle.std.specs.Option.{option_or}
use Rattle.mt_ports.specs.Causes.{one_more}
use Rattle.mt_text.specs.Text.{is_too_long, lines_of}
use Rattle.mt_output.specs.Lines.{line}
use Rattle.mt_import.specs.declared.format.Choice.{Choice}
use Rattle.mt_import.specs.declared.format.Choice.TheVariants.{Auto, Only}
use Rattle.mt_import.specs.declared.format.Format.{Format}
use Rattle.mt_import.specs.declared.format.Format.TheVariants.{Rdmsr, X86info, Inteltool, Coreboot, Edk2, Linux, Xen, Chipsec, Windbg, Plain}
use Rattle.mt_import.specs.declared.reading.LineSays.{LineSays}
use Rattle.mt_import.specs.declared.reading.LineSays.TheVariants.{Nothing, Announces, Value, Turns, Shows, Lists, Begins, FixedRanges, VariableRanges, Width, Warns, Bad}
use Rattle.mt_import.specs.declared.shape.Best.{Best}
use Rattle.mt_import.specs.declared.shape.Census.{Census}
use Rattle.mt_import.specs.declared.shape.Shown.{Shown}
use Rattle.mt_import.specs.Outcome.{Outcome, format_name}
use Rattle.mt_import.specs.Readings.{is_match, is_register}
use Rattle.mt_import.specs.Shown.{format_told, said_of}

-- ---- lines that show registers

abbrev pub has_register : Option Shown → Bool
has_register None = false
has_register (Some shown) = is_register shown.number

abbrev pub have_register : List (Option Shown) → Bool
have_register [] = false
have_register (shown ∷ shows) = if has_register shown then true else have_register shows

-- The line shows or calls a register that some dump has. Lines on ranges show IA32_MTRR_DEF_TYPE.
abbrev pub shows_register : LineSays → Bool
shows_register (Announces processor number) = is_register number
shows_register (Shows processor shows) = have_register shows
shows_register (Lists processor shown) = is_register shown.number
shows_register (Begins shows) = have_register shows
shows_register (FixedRanges enabled alone place) = true
shows_register (VariableRanges enabled place) = true
shows_register Nothing = false
shows_register (Value value place) = false
shows_register (Turns turn) = false
shows_register (Width width place) = false
shows_register (Warns warning number) = false
shows_register (Bad why place) = false

-- ---- lines by format

-- before all lines
abbrev pub no_census : Census
no_census = record { first = None; counts = replicate 10 0 }

-- in the order of `format_told`
abbrev pub place_of : Format → ℕ
place_of Xen = 0
place_of Linux = 1
place_of Coreboot = 2
place_of Edk2 = 3
place_of Inteltool = 4
place_of X86info = 5
place_of Rdmsr = 6
place_of Chipsec = 7
place_of Windbg = 8
place_of Plain = 9

abbrev pub lines_in : Census → Format → ℕ
lines_in census format = slice_index_or census.counts (place_of format) 0

-- behind a line of this format that says this
abbrev pub census_with : Format → LineSays → Census → Census
census_with format said census = record {
  first = option_or census.first (Some format);
  counts = if shows_register said then slice_set census.counts (place_of format) (one_more (lines_in census format)) else census.counts;
}

-- The format of a line: the first one, if the line says something in it, or else the first that it tells.
abbrev pub format_at : Option Format → ℕ → List ℕ → Option Format
format_at None number line = format_told number line
format_at (Some first) number line = if is_match (said_of first number line) then Some first else format_told number line

abbrev pub census_by : Option Format → ℕ → List ℕ → Census → Census
census_by None number line census = census
census_by (Some format) number line census = census_with format (said_of format number line) census

-- behind one more line
unfoldable pub census_behind : Census → ℕ → List ℕ → Census
census_behind census number line = census_by (format_at census.first number line) number line census

-- Behind lines, of which the first has this number. Nothing is read behind one that is too long.
abbrev pub census_after : Census → ℕ → List (List ℕ) → Census
census_after census number [] = census
census_after census number (line ∷ lines) = if is_too_long line then census else census_after (census_behind census number line) (number + 1) lines

abbrev pub census_of : List ℕ → Census
census_of text = census_after no_census 1 (lines_of text)

-- ---- the format that is taken

-- `plain` is the last resort, whose lines don't count.
abbrev pub counts_first : Census → Option Format → ℕ
counts_first census None = 0
counts_first census (Some format) = if place_of format == 9 then 0 else lines_in census format

abbrev pub best_with : Format → Census → Best → Best
best_with format census best = if nat_lt best.lines (lines_in census format) then record { lines = lines_in census format; format = Some format } else best

abbrev pub first_best : Census → Best
first_best census = record { lines = counts_first census census.first; format = census.first }

-- The first format is taken, unless more lines of another show registers.
abbrev pub best_of : Census → Best
best_of census =
    best_with Windbg census (best_with Chipsec census (best_with Rdmsr census (best_with X86info census (best_with Inteltool census
    (best_with Edk2 census (best_with Coreboot census (best_with Linux census (best_with Xen census (first_best census)))))))))

unfoldable pub taken : Census → Option Format
taken census = (best_of census).format

-- by which a log is read
abbrev pub format_of : Choice → List ℕ → Option Format
format_of Auto text = taken (census_of text)
format_of (Only format) text = Some format

-- ---- what is told of other formats

abbrev pub is_taken : Option Format → Format → Bool
is_taken None format = false
is_taken (Some other) format = place_of other == place_of format

abbrev pub lines_text : ℕ → List ℕ
lines_text count = if count == 1 then codes " line of " else codes " lines of "

-- `passed over 2 lines of linux`
abbrev pub passed_line : Option Format → Format → ℕ → List ℕ
passed_line own format count =
    if is_taken own format || count == 0 then [] else line (codes "passed over " ++ decimal count ++ lines_text count ++ format_name (Some format))

abbrev pub passed_by : Option Format → Census → Format → List ℕ
passed_by own census format = passed_line own format (lines_in census format)

abbrev pub passed_lines : Option Format → Census → List ℕ
passed_lines own census =
    passed_by own census Xen ++ passed_by own census Linux ++ passed_by own census Coreboot ++ passed_by own census Edk2 ++ passed_by own census Inteltool
    ++ passed_by own census X86info ++ passed_by own census Rdmsr ++ passed_by own census Chipsec ++ passed_by own census Windbg ++ passed_by own census Plain

-- a line for each other format of which lines show registers
unfoldable pub passed_over : Census → List ℕ
passed_over census = passed_lines (taken census) census

-- what is told in front of all reasons
abbrev pub front_of : Choice → List ℕ → List ℕ
front_of Auto text = passed_over (census_of text)
front_of (Only format) text = []

abbrev pub beside : List ℕ → Outcome → Outcome
beside front told = record told { reasons = front ++ told.reasons }
