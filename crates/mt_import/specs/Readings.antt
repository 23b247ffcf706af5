-- What the lines of a log say, each by itself, and the facts that they come to (own).
--     said_facts context said      what a line shows, behind lines that lead to this
--     context_after context format said      what the line leads to
use Rattle.std.specs.Prelude.{ℕ, ◌+◌, ◌==◌, ◌&&◌, ◌||◌, not, nat_le, nat_lt, Bool, true, false, List, [], ◌∷◌, ◌++◌, if◌then◌else◌, Option, Some, None, is_some, unwrap_or}
use Rattle.mt_ports.specs.Causes.{one_more}
use Rattle.mt_regs.specs.RegisterFile.{RegisterFile, blank_file}
use Rattle.mt_regs.specs.Registers.{number_limit, value_at}
use Rattle.mt_text.specs.declared.place.Place.{Place}
use Rattle.mt_import.specs.declared.fault.ImportFault.{ImportFault}
use Rattle.mt_import.specs.declared.fault.ImportFault.TheVariants.{BadLine, Contradiction}
use Rattle.mt_import.specs.declared.fault.Reason.TheVariants.{MixedNumbers}
use Rattle.mt_import.specs.declared.fault.Rival.TheVariants.{Line}
use Rattle.mt_import.specs.declared.format.Format.{Format}
use Rattle.mt_import.specs.declared.reading.Context.{Context}
use Rattle.mt_import.specs.declared.reading.LineSays.{LineSays}
use Rattle.mt_import.specs.declared.reading.LineSays.TheVariants.{Nothing, Announces, Value, Turns, Shows, Lists, Begins, FixedRanges, VariableRanges, Width, Warns, Bad}
use Rattle.mt_import.specs.declared.reading.Turn.{Turn}
use Rattle.mt_import.specs.declared.reading.Turn.TheVariants.{To, Unread, UnreadCall}
use Rattle.mt_import.specs.declared.shape.Announced.{Announced}
use Rattle.mt_import.specs.declared.shape.FixedLine.{FixedLine}
use Rattle.mt_import.specs.declared.shape.Reading.{Reading}
use Rattle.mt_import.specs.declared.shape.Shown.{Shown}
use Rattle.mt_import.specs.declared.shape.Warning.{Warning}
use Rattle.mt_import.specs.Pieces.{shown_as, shown_bits, unread_processor}

-- a file that has each register that some file has: 32 pairs, and FIX
unfoldable pub all_registers : RegisterFile
all_registers = blank_file 36 0x120

-- a register that some dump has
abbrev pub is_register : ℕ → Bool
is_register number = nat_lt number number_limit && is_some (value_at all_registers number)

-- the same by their numbers: the capability register, 32 pairs, fixed ranges, the PAT and the default type
abbrev pub is_listed : ℕ → Bool
is_listed number =
    number == 0xfe || (nat_le 0x200 number && nat_le number 0x23f) || number == 0x250 || number == 0x258 || number == 0x259
    || (nat_le 0x268 number && nat_le number 0x26f) || number == 0x277 || number == 0x2ff

-- A line with the format that is known behind it and whether the line is of that format, bits of a register, the address width and its place, what a line of this number warns of, or why a log shows no dump.
pub data Fact : Type 0 where
  is_line : ℕ → Option Format → Bool → Fact
  is_register_value : Reading → Fact
  is_width : ℕ → Place → Fact
  is_warning : Warning → ℕ → Fact
  is_fault : ImportFault → Fact

-- before all lines
abbrev pub starts : Option Format → Context
starts format = record { format = format; announced = None; processor = Some 0; table = 0; fixed = None; lists_processors = None }

abbrev pub is_match : LineSays → Bool
is_match Nothing = false
is_match (Announces processor number) = true
is_match (Value value place) = true
is_match (Turns turn) = true
is_match (Shows processor shows) = true
is_match (Begins shows) = true
is_match (FixedRanges enabled alone place) = true
is_match (VariableRanges enabled place) = true
is_match (Width width place) = true
is_match (Warns warning number) = true
is_match (Lists processor shown) = true
is_match (Bad why place) = true

-- ---- registers

-- Registers that no dump has are passed over.
abbrev pub reading_facts : ℕ → ℕ → Shown → List Fact
reading_facts processor table shown =
    if is_register shown.number
    then is_register_value (record { processor = processor; table = table; number = shown.number; bits = shown.bits; value = shown.value; place = shown.place }) ∷ []
    else []

abbrev pub shown_facts : ℕ → ℕ → Option Shown → List Fact
shown_facts processor table None = []
shown_facts processor table (Some shown) = reading_facts processor table shown

abbrev pub shows_facts : ℕ → ℕ → List (Option Shown) → List Fact
shows_facts processor table [] = []
shows_facts processor table (shown ∷ shows) = shown_facts processor table shown ++ shows_facts processor table shows

abbrev pub two_shown : Option Shown → Option Shown → List (Option Shown)
two_shown a b = a ∷ b ∷ None ∷ None ∷ None ∷ None ∷ None ∷ None ∷ None ∷ None ∷ None ∷ []

abbrev pub one_shown : Option Shown → List (Option Shown)
one_shown a = two_shown a None

-- the processor that a line names, or else the one that lines are of, or else one that no dump has
abbrev pub named_processor : Option ℕ → Option ℕ → ℕ
named_processor (Some processor) current = processor
named_processor None current = unwrap_or current unread_processor

-- A value belongs to the register that the line just before announces.
abbrev pub value_facts : Option Announced → ℕ → ℕ → Place → List Fact
value_facts None table value place = []
value_facts (Some announced) table value place = shown_facts announced.processor table (shown_as announced.number value place)

-- ---- IA32_MTRR_DEF_TYPE in a kernel's table: FE in bit 10, E in bit 11

-- Linux from 4.3 on calls fixed ranges disabled also where E is clear, so that `disabled:` shows FE only in Xen's lines.
abbrev pub flag_shown : Bool → Bool → Place → Option Shown
flag_shown enabled alone place = if enabled || alone then shown_bits 0x2ff 0x400 (if enabled then 0x400 else 0) place else None

-- The line shows FIX of the capability register too: it is printed only with FIX.
abbrev pub fixed_shows : Bool → Bool → Place → List (Option Shown)
fixed_shows enabled alone place = two_shown (flag_shown enabled alone place) (shown_bits 0xfe 0x100 0x100 place)

abbrev pub is_off : Option FixedLine → ℕ → Bool
is_off None table = false
is_off (Some line) table = not line.is_enabled && line.table == table

-- Fixed ranges that aren't enabled in this table, where E is set, show that FE is clear.
abbrev pub variable_bits : Context → Bool → ℕ
variable_bits context enabled = if enabled && is_off context.fixed context.table then 0xc00 else 0x800

abbrev pub variable_shows : Context → Bool → Place → List (Option Shown)
variable_shows context enabled place = one_shown (shown_bits 0x2ff (variable_bits context enabled) (if enabled then 0x800 else 0) place)

abbrev pub unlike : Bool → Bool → Bool
unlike true on = not on
unlike false on = on

-- the line on fixed ranges before, where it says something else
abbrev pub fixed_clash : Option FixedLine → Bool → Option ℕ
fixed_clash None enabled = None
fixed_clash (Some line) enabled = if unlike line.is_enabled enabled then Some line.line else None

-- Lines on fixed ranges have to agree.
abbrev pub unless_clash : Option ℕ → Place → List Fact → List Fact
unless_clash None place facts = facts
unless_clash (Some line) place facts = is_fault (Contradiction place 0x2ff (Line line)) ∷ []

abbrev pub fixed_facts : Context → Bool → Bool → Place → List Fact
fixed_facts context enabled alone place = unless_clash (fixed_clash context.fixed enabled) place (shows_facts 0 context.table (fixed_shows enabled alone place))

-- ---- a list

-- the lines of a list before name processors where this one doesn't, or the other way round
abbrev pub is_mixed : Option Bool → Bool → Bool
is_mixed None names = false
is_mixed (Some before) names = unlike before names

-- A line that names no processor is of processor 0.
abbrev pub listed_facts : Context → Option ℕ → Shown → List Fact
listed_facts context processor shown =
    if is_mixed context.lists_processors (is_some processor) then is_fault (BadLine MixedNumbers shown.place) ∷ []
    else reading_facts (named_processor processor (Some 0)) context.table shown

-- ---- a line

-- what a line comes to behind lines that lead to this
abbrev pub said_facts : Context → LineSays → List Fact
said_facts context Nothing = []
said_facts context (Announces processor number) = []
said_facts context (Value value place) = value_facts context.announced context.table value place
said_facts context (Turns turn) = []
said_facts context (Shows processor shows) = shows_facts (named_processor processor context.processor) context.table shows
said_facts context (Begins shows) = shows_facts 0 (one_more context.table) shows
said_facts context (FixedRanges enabled alone place) = fixed_facts context enabled alone place
said_facts context (VariableRanges enabled place) = shows_facts 0 context.table (variable_shows context enabled place)
said_facts context (Width width place) = is_width width place ∷ []
said_facts context (Warns warning number) = is_warning warning number ∷ []
said_facts context (Lists processor shown) = listed_facts context processor shown
said_facts context (Bad why place) = is_fault (BadLine why place) ∷ []

-- the same with the line itself, which has this number
abbrev pub line_facts : ℕ → Option Format → Context → LineSays → List Fact
line_facts number format context said = is_line number format (is_match said) ∷ said_facts context said

-- the next processor's register, where the value of each follows
abbrev pub next_announced : Option Announced → Option Announced
next_announced None = None
next_announced (Some announced) =
    if announced.goes_on && nat_lt announced.processor 65535 then Some (record { processor = announced.processor + 1; number = announced.number; goes_on = true }) else None

abbrev pub announced_by : Option ℕ → ℕ → Announced
announced_by (Some processor) number = record { processor = processor; number = number; goes_on = false }
announced_by None number = record { processor = 0; number = number; goes_on = true }

-- what is announced by a line
abbrev pub announced_after : LineSays → Option Announced → Option Announced
announced_after (Announces processor number) before = Some (announced_by processor number)
announced_after (Value value place) before = next_announced before
announced_after Nothing before = None
announced_after (Turns turn) before = None
announced_after (Shows processor shows) before = None
announced_after (Begins shows) before = None
announced_after (FixedRanges enabled alone place) before = None
announced_after (VariableRanges enabled place) before = None
announced_after (Width width place) before = None
announced_after (Warns warning number) before = None
announced_after (Lists processor shown) before = None
announced_after (Bad why place) before = None

abbrev pub processor_turned_to : Turn → Option ℕ
processor_turned_to (To processor) = Some processor
processor_turned_to Unread = None
processor_turned_to UnreadCall = None

-- The processor that lines behind this line are of. Behind a call of all processors none is known.
abbrev pub processor_after : LineSays → Option ℕ → Option ℕ
processor_after (Turns turn) before = processor_turned_to turn
processor_after (Announces processor number) before = processor
processor_after Nothing before = before
processor_after (Value value place) before = before
processor_after (Shows processor shows) before = before
processor_after (Begins shows) before = before
processor_after (FixedRanges enabled alone place) before = before
processor_after (VariableRanges enabled place) before = before
processor_after (Width width place) before = before
processor_after (Warns warning number) before = before
processor_after (Lists processor shown) before = before
processor_after (Bad why place) before = before

-- how many tables have begun
abbrev pub table_behind : LineSays → ℕ → ℕ
table_behind (Begins shows) before = one_more before
table_behind Nothing before = before
table_behind (Announces processor number) before = before
table_behind (Value value place) before = before
table_behind (Turns turn) before = before
table_behind (Shows processor shows) before = before
table_behind (FixedRanges enabled alone place) before = before
table_behind (VariableRanges enabled place) before = before
table_behind (Width width place) before = before
table_behind (Warns warning number) before = before
table_behind (Lists processor shown) before = before
table_behind (Bad why place) before = before

-- the last line on fixed ranges
abbrev pub fixed_after : LineSays → ℕ → Option FixedLine → Option FixedLine
fixed_after (FixedRanges enabled alone place) table before = Some (record { is_enabled = enabled; table = table; line = place.line })
fixed_after Nothing table before = before
fixed_after (Announces processor number) table before = before
fixed_after (Value value place) table before = before
fixed_after (Turns turn) table before = before
fixed_after (Shows processor shows) table before = before
fixed_after (Begins shows) table before = before
fixed_after (VariableRanges enabled place) table before = before
fixed_after (Width width place) table before = before
fixed_after (Warns warning number) table before = before
fixed_after (Lists processor shown) table before = before
fixed_after (Bad why place) table before = before

-- whether the last line of a list names a processor
abbrev pub lists_after : LineSays → Option Bool → Option Bool
lists_after (Lists processor shown) before = Some (is_some processor)
lists_after Nothing before = before
lists_after (Announces processor number) before = before
lists_after (Value value place) before = before
lists_after (Turns turn) before = before
lists_after (Shows processor shows) before = before
lists_after (Begins shows) before = before
lists_after (FixedRanges enabled alone place) before = before
lists_after (VariableRanges enabled place) before = before
lists_after (Width width place) before = before
lists_after (Warns warning number) before = before
lists_after (Bad why place) before = before

abbrev pub context_after : Context → Option Format → LineSays → Context
context_after context format said = record {
  format = format;
  announced = announced_after said context.announced;
  processor = processor_after said context.processor;
  table = table_behind said context.table;
  fixed = fixed_after said context.table context.fixed;
  lists_processors = lists_after said context.lists_processors;
}
