-- What facts and supplied words come to: the texts and the status (own).
--     facts_outcome auto supplied seen facts      what facts come to that stand behind others
use Rattle.std.specs.Prelude.{ℕ, zero, suc, ◌+◌, ◌-◌, ◌*◌, ◌/◌, ◌%◌, ◌==◌, ◌&&◌, ◌||◌, nat_lt, not, max, bit_or, codes, decimal, Bool, true, false, List, [], ◌∷◌, ◌++◌, map, replicate, if◌then◌else◌, Option, Some, None, is_none, is_some, unwrap_or}
use Rattle.std.specs.Option.{option_or}
use Rattle.mt_ports.specs.Causes.{one_more}
use Rattle.mt_ports.specs.declared.status.Status.{Status}
use Rattle.mt_ports.specs.declared.status.Status.TheVariants.{Done, Refused, BadText}
use Rattle.mt_text.specs.declared.place.Place.{Place}
use Rattle.mt_regs.specs.RegisterFile.{RegisterFile, blank_file, low_byte}
use Rattle.mt_kinds.specs.Bits.{is_bit_set}
use Rattle.mt_regs.specs.Registers.{fixed_numbers, number_of, writable}
use Rattle.mt_dump.specs.Canon.{canon, number_text, value_text}
use Rattle.mt_dump.specs.Dumps.{Dump}
use Rattle.mt_output.specs.Lines.{bad_text, line}
use Rattle.mt_import.specs.declared.fault.ImportFault.{ImportFault}
use Rattle.mt_import.specs.declared.fault.ImportFault.TheVariants.{BadLine, BadProcessor, TooManyPairs, BadWidth, Contradiction, WidthContradiction}
use Rattle.mt_import.specs.declared.fault.Reason.{Reason}
use Rattle.mt_import.specs.declared.fault.Reason.TheVariants.{LongLine, BadNumber, MixedNumbers, Utf16}
use Rattle.mt_import.specs.declared.fault.Rival.{Rival}
use Rattle.mt_import.specs.declared.fault.Rival.TheVariants.{Line, Word, CapabilityLine, CapabilityWord, RegisterLine}
use Rattle.mt_import.specs.declared.format.Format.{Format}
use Rattle.mt_import.specs.declared.format.Format.TheVariants.{Rdmsr, X86info, Inteltool, Coreboot, Edk2, Linux, Xen, Chipsec, Windbg, Plain}
use Rattle.mt_import.specs.declared.shape.Known.{Known}
use Rattle.mt_import.specs.declared.shape.LastPair.{LastPair}
use Rattle.mt_import.specs.declared.shape.Pick.{Pick}
use Rattle.mt_import.specs.declared.shape.Pick.TheVariants.{Each, Number, Last}
use Rattle.mt_import.specs.declared.shape.Reading.{Reading}
use Rattle.mt_import.specs.declared.shape.Slot.{Slot}
use Rattle.mt_import.specs.declared.shape.Tally.{Tally}
use Rattle.mt_import.specs.declared.shape.Warned.{Warned}
use Rattle.mt_import.specs.declared.supplied.Assumed.{Assumed}
use Rattle.mt_import.specs.Pieces.{is_text}
use Rattle.mt_import.specs.Readings.{Fact, is_line, is_register_value, is_width, is_warning, is_fault}
use Rattle.mt_import.specs.Slot.{blank_slot, clashes, slot_with}
use Rattle.mt_import.specs.Supplied.{Supplied, all_assumed, bits_differ, differs, supplied_value}
use Rattle.mt_import.specs.Warnings.{none_warned, warned_by, warned_with, warning_lines}
use Rattle.mt_import.specs.Values.{assumed_value, firm_value, firm_width, is_pair_number, lacks_fix, masks_in, or_supplied, value_by, widest, width_by}

-- ---- what facts show

-- the width that facts show and the last line that shows it, their readings, of which the last stands first, and the tally
pub record Seen : Type 0 where
  pub width : Option ℕ
  pub line_of_width : ℕ
  pub readings : List Reading
  pub tally : Tally

-- before all lines of a log, where the format may be known
abbrev pub nothing_seen : Option Format → Seen
nothing_seen format = record { width = None; line_of_width = 0; readings = []; tally = record { format = format; lines = 0; matches = 0; warned = none_warned } }

abbrev pub one_if : Bool → ℕ → ℕ
one_if true count = one_more count
one_if false count = count

abbrev pub tally_with : Tally → ℕ → Option Format → Bool → Tally
tally_with tally number format matched = record { format = format; lines = number; matches = one_if matched tally.matches; warned = tally.warned }

abbrev pub tally_warned : Tally → Warned → Tally
tally_warned tally warned = record { format = tally.format; lines = tally.lines; matches = tally.matches; warned = warned }

abbrev pub seen_with : Seen → Fact → Seen
seen_with seen (is_line number format matched) = record seen { tally = tally_with seen.tally number format matched }
seen_with seen (is_register_value reading) = record seen { readings = reading ∷ seen.readings; tally = tally_warned seen.tally (warned_by reading seen.tally.warned) }
seen_with seen (is_width width place) = record seen { width = Some width; line_of_width = place.line }
seen_with seen (is_warning warning number) = record seen { tally = tally_warned seen.tally (warned_with warning number seen.tally.warned) }
seen_with seen (is_fault fault) = seen

abbrev pub seen_after : Seen → List Fact → Seen
seen_after seen [] = seen
seen_after seen (fact ∷ facts) = seen_after (seen_with seen fact) facts

-- what readings show of a processor's register
abbrev pub slot_shown : List Reading → ℕ → ℕ → Slot
slot_shown [] processor number = blank_slot
slot_shown (reading ∷ before) processor number =
    if reading.processor == processor && reading.number == number then slot_with (slot_shown before processor number) reading else slot_shown before processor number

-- the capability register's behind one more reading
abbrev pub capabilities_after : Reading → Slot → Slot
capabilities_after reading before = if reading.number == 0xfe then slot_with before reading else before

-- what readings of any processor show of the capability register
abbrev pub capabilities_shown : List Reading → Slot
capabilities_shown [] = blank_slot
capabilities_shown (reading ∷ before) = capabilities_after reading (capabilities_shown before)

-- The least VCNT that a reading allows: it counts the pair whose V, bit 11 of PhysMask, the reading shows as set.
abbrev pub least_count : Reading → ℕ
least_count reading = if is_pair_number reading.number && reading.number % 2 == 1 && is_bit_set reading.value 11 then (reading.number - 0x1ff) / 2 else 0

-- the least VCNT with this last pair
abbrev pub count_of : Option LastPair → ℕ
count_of None = 0
count_of (Some last) = last.count

-- the last pair whose V is shown as set, behind one more reading
abbrev pub last_after : Reading → Option LastPair → Option LastPair
last_after reading before = if nat_lt (count_of before) (least_count reading) then Some (record { count = least_count reading; line = reading.place.line }) else before

abbrev pub last_shown : List Reading → Option LastPair
last_shown [] = None
last_shown (reading ∷ before) = last_after reading (last_shown before)

-- A reading that shows that a fixed-range register isn't 0. No other register's number is between theirs.
abbrev pub shows_fixed : Reading → Bool
shows_fixed reading = nat_lt 0x24f reading.number && nat_lt reading.number 0x270 && nat_lt 0 reading.value

-- the line of the last such reading, behind one more
abbrev pub fixed_line_after : Reading → Option ℕ → Option ℕ
fixed_line_after reading before = if shows_fixed reading then Some reading.place.line else before

abbrev pub last_fixed_line : List Reading → Option ℕ
last_fixed_line [] = None
last_fixed_line (reading ∷ before) = fixed_line_after reading (last_fixed_line before)

-- how many processors there are: as many as are shown, and one at least
abbrev pub processors : List Reading → ℕ
processors [] = 1
processors (reading ∷ before) = max (reading.processor + 1) (processors before)

-- ---- faults

-- VCNT, bits 7:0 of the capability register, is less than this
abbrev pub counts_fewer : Option ℕ → ℕ → Bool
counts_fewer None pairs = false
counts_fewer (Some capabilities) pairs = nat_lt (low_byte capabilities) pairs

-- the capability register, where all bits of VCNT are shown
abbrev pub counted : Slot → Option ℕ
counted capabilities = if capabilities.bits % 256 == 255 then Some capabilities.value else None

-- a last pair that VCNT doesn't count
abbrev pub uncounted_rival : Option ℕ → Option LastPair → Option Rival
uncounted_rival capabilities None = None
uncounted_rival capabilities (Some last) = if counts_fewer capabilities last.count then Some (RegisterLine last.line) else None

-- A capability register that lines show before has other bits, or VCNT doesn't count a pair that they show as enabled.
abbrev pub capability_rival : Slot → Option LastPair → Reading → Option Rival
capability_rival capabilities last reading =
    if clashes capabilities reading then Some (Line capabilities.line) else uncounted_rival (counted (slot_with capabilities reading)) last

abbrev pub count_rival : Slot → Option LastPair → Reading → Option Rival
count_rival capabilities last reading =
    if counts_fewer (counted capabilities) (least_count reading) then Some (CapabilityLine capabilities.line)
    else if reading.number == 0xfe then capability_rival capabilities last reading
    else None

-- A word or a line before it gives other bits, or a VCNT without an enabled pair. All processors have one capability register's value.
abbrev pub rival : Supplied → List Reading → Reading → Option Rival
rival supplied before reading =
    if bits_differ (supplied_value supplied reading.number) reading.bits reading.value then Some Word
    else if counts_fewer (supplied_value supplied 0xfe) (least_count reading) then Some CapabilityWord
    else if clashes (slot_shown before reading.processor reading.number) reading then Some (Line (slot_shown before reading.processor reading.number).line)
    else count_rival (capabilities_shown before) (last_shown before) reading

-- the capability register, where FIX is shown
abbrev pub fix_shown : Slot → Option ℕ
fix_shown capabilities = if is_bit_set capabilities.bits 8 then Some capabilities.value else None

-- a word or lines before give a capability register without FIX
abbrev pub fixless_rival : Option ℕ → Slot → Option Rival
fixless_rival word capabilities =
    if lacks_fix word then Some CapabilityWord
    else if lacks_fix (fix_shown capabilities) then Some (CapabilityLine capabilities.line)
    else None

-- a reading that shows FIX as clear
abbrev pub shows_no_fix : Reading → Bool
shows_no_fix reading = reading.number == 0xfe && is_bit_set reading.bits 8 && not (is_bit_set reading.value 8)

-- a fixed-range register that lines before show
abbrev pub ranged_rival : Option ℕ → Option Rival
ranged_rival None = None
ranged_rival (Some line) = Some (RegisterLine line)

-- Fixed ranges and a capability register without FIX contradict each other: a dump would lack them.
abbrev pub fixed_rival : Option ℕ → List Reading → Reading → Option Rival
fixed_rival word before reading =
    if shows_fixed reading then fixless_rival word (capabilities_shown before)
    else if shows_no_fix reading then ranged_rival (last_fixed_line before)
    else None

abbrev pub contradiction : Reading → Option Rival → Option ImportFault
contradiction reading None = None
contradiction reading (Some other) = Some (Contradiction reading.place reading.number other)

-- a capability register, as this line and those before it show it, with more pairs than a dump may have
abbrev pub pairs_fault : List Reading → Reading → Option ImportFault
pairs_fault before reading =
    if reading.number == 0xfe && nat_lt 32 (low_byte (bit_or (slot_shown before reading.processor 0xfe).value reading.value)) then Some (TooManyPairs reading.place) else None

-- A contradiction comes before too many pairs: only bits that agree are put together.
abbrev pub reading_fault : Supplied → List Reading → Reading → Option ImportFault
reading_fault supplied before reading =
    if nat_lt 15 reading.processor then Some (BadProcessor reading.place)
    else option_or (contradiction reading (option_or (rival supplied before reading) (fixed_rival (supplied_value supplied 0xfe) before reading))) (pairs_fault before reading)

-- a width that a dump may have
abbrev pub is_fit_width : ℕ → Bool
is_fit_width width = nat_lt 31 width && nat_lt width 53

-- a word, or the width that lines before show and the last of these
abbrev pub width_rival : Option ℕ → Option ℕ → ℕ → ℕ → Option Rival
width_rival word shown line width =
    if differs word width then Some Word
    else if differs shown width then Some (Line line)
    else None

abbrev pub width_contradiction : Place → Option Rival → Option ImportFault
width_contradiction place None = None
width_contradiction place (Some other) = Some (WidthContradiction place other)

abbrev pub width_fault : Supplied → Seen → ℕ → Place → Option ImportFault
width_fault supplied seen width place =
    if not (is_fit_width width) then Some (BadWidth place)
    else width_contradiction place (width_rival supplied.width seen.width seen.line_of_width width)

abbrev pub fact_fault : Supplied → Seen → Fact → Option ImportFault
fact_fault supplied seen (is_line number format matched) = None
fact_fault supplied seen (is_register_value reading) = reading_fault supplied seen.readings reading
fact_fault supplied seen (is_width width place) = width_fault supplied seen width place
fact_fault supplied seen (is_warning warning number) = None
fact_fault supplied seen (is_fault fault) = Some fault

-- the first fault of facts
abbrev pub facts_fault : Supplied → Seen → List Fact → Option ImportFault
facts_fault supplied seen [] = None
facts_fault supplied seen (fact ∷ facts) = option_or (fact_fault supplied seen fact) (facts_fault supplied (seen_with seen fact) facts)

-- what lines warn of before the first fault
abbrev pub warned_till : Supplied → Seen → List Fact → Warned
warned_till supplied seen [] = seen.tally.warned
warned_till supplied seen (fact ∷ facts) = if is_some (fact_fault supplied seen fact) then seen.tally.warned else warned_till supplied (seen_with seen fact) facts

abbrev pub rival_text : Rival → List ℕ
rival_text (Line number) = codes ": line " ++ decimal number ++ codes " shows it otherwise"
rival_text Word = codes ": a word supplies it otherwise"
rival_text (CapabilityLine number) = codes ": line " ++ decimal number ++ codes " shows 0fe without it"
rival_text CapabilityWord = codes ": a word supplies 0fe without it"
rival_text (RegisterLine number) = codes ": line " ++ decimal number ++ codes " shows a register that it lacks"

abbrev pub contradiction_line : Place → ℕ → Rival → List ℕ
contradiction_line place number other = line (codes "contradiction " ++ decimal place.line ++ codes ":" ++ decimal place.column ++ codes " " ++ number_text number ++ rival_text other)

abbrev pub width_line : Place → Rival → List ℕ
width_line place other = line (codes "contradiction " ++ decimal place.line ++ codes ":" ++ decimal place.column ++ codes " maxphyaddr" ++ rival_text other)

abbrev pub reason_text : Reason → List ℕ
reason_text LongLine = codes "bad line"
reason_text BadNumber = codes "bad number"
reason_text MixedNumbers = codes "mixed numbers"
reason_text Utf16 = codes "UTF-16"

abbrev pub fault_line : ImportFault → List ℕ
fault_line (BadLine why place) = bad_text place (reason_text why)
fault_line (BadProcessor place) = bad_text place (codes "bad processor")
fault_line (TooManyPairs place) = bad_text place (codes "too many pairs")
fault_line (BadWidth place) = bad_text place (codes "bad width")
fault_line (Contradiction place number other) = contradiction_line place number other
fault_line (WidthContradiction place other) = width_line place other

-- ---- what is missing

abbrev pub is_empty : List ℕ → Bool
is_empty [] = true
is_empty (byte ∷ bytes) = false

-- the registers that a dump with this capability register has, in ascending order
abbrev pub needed : Option ℕ → List ℕ
needed None = 0xfe ∷ []
needed (Some capabilities) = 0xfe ∷ map number_of (writable (blank_file 36 capabilities))

-- one of so many processors hasn't this register
abbrev pub is_missing : (ℕ → ℕ → Option ℕ) → ℕ → ℕ → Bool
is_missing values zero number = false
is_missing values (suc count) number = is_missing values count number || is_none (values count number)

-- the assumption that gives a register this value
abbrev pub assumption_text : ℕ → ℕ → List ℕ
assumption_text number value =
    if number == 0x277 then codes "assume=pat"
    else if number == 0xfe then codes "assume=capabilities"
    else if is_pair_number number then (if value == 0 then codes "assume=pairs" else codes "assume=masks")
    else codes "assume=fixed"

-- the assumption that would supply processor 0's register
abbrev pub hint_text : ℕ → Option ℕ → List ℕ
hint_text number None = []
hint_text number (Some value) = codes " or " ++ assumption_text number value

-- all of so many processors lack the register
abbrev pub is_nowhere : (ℕ → ℕ → Option ℕ) → ℕ → ℕ → Bool
is_nowhere values zero number = true
is_nowhere values (suc count) number = is_nowhere values count number && is_none (values count number)

-- the processor before this one lacks the register
abbrev pub lacks_before : (ℕ → ℕ → Option ℕ) → ℕ → ℕ → Bool
lacks_before values zero number = false
lacks_before values (suc k) number = is_none (values k number)

-- the processor behind this one lacks it
abbrev pub lacks_behind : (ℕ → ℕ → Option ℕ) → ℕ → ℕ → ℕ → Bool
lacks_behind values count k number = nat_lt (k + 1) count && is_none (values (k + 1) number)

-- Numbers so far, and this one where a run of numbers begins or ends with it.
abbrev pub run_text : Bool → Bool → Bool → ℕ → List ℕ → List ℕ
run_text before false behind k text = text
run_text false true behind k text = text ++ (if is_empty text then codes " " else codes ",") ++ decimal k
run_text true true true k text = text
run_text true true false k text = text ++ codes "-" ++ decimal k

-- ` 0,2-4`: those of the first processors that lack the register
abbrev pub lacking_text : (ℕ → ℕ → Option ℕ) → ℕ → ℕ → ℕ → List ℕ
lacking_text values count number zero = []
lacking_text values count number (suc k) =
    run_text (lacks_before values k number) (is_none (values k number)) (lacks_behind values count k number) k (lacking_text values count number k)

-- ` of cpu 0,2-4`, unless all processors lack it
abbrev pub processors_text : (ℕ → ℕ → Option ℕ) → ℕ → ℕ → List ℕ
processors_text values count number = if is_nowhere values count number then [] else codes " of cpu" ++ lacking_text values count number count

-- `missing 200 of cpu 1-3: 200=VALUE or assume=pairs`
abbrev pub missing_line : ℕ → List ℕ → Option ℕ → List ℕ
missing_line number processors hint = line (codes "missing " ++ number_text number ++ processors ++ codes ": " ++ number_text number ++ codes "=VALUE" ++ hint_text number hint)

abbrev pub missing_lines : (ℕ → Option ℕ) → (ℕ → ℕ → Option ℕ) → ℕ → List ℕ → List ℕ
missing_lines hints values count [] = []
missing_lines hints values count (number ∷ numbers) =
    (if is_missing values count number then missing_line number (processors_text values count number) (hints number) else []) ++ missing_lines hints values count numbers

abbrev pub width_hint : Option ℕ → List ℕ
width_hint None = line (codes "missing maxphyaddr: maxphyaddr=N")
width_hint (Some width) = line (codes "missing maxphyaddr: maxphyaddr=N or assume=width")

-- where the width isn't known, with the one that the masks would have
abbrev pub missing_width : Option ℕ → Option ℕ → List ℕ
missing_width None hint = width_hint hint
missing_width (Some width) hint = []

-- ---- the dump

abbrev pub value_or_zero : (ℕ → Option ℕ) → ℕ → ℕ
value_or_zero values number = unwrap_or (values number) 0

-- the first so many pairs
abbrev pub first_pairs : (ℕ → Option ℕ) → ℕ → List (ℕ × ℕ)
first_pairs values zero = []
first_pairs values (suc n) = first_pairs values n ++ (value_or_zero values (0x200 + 2 * n), value_or_zero values (0x201 + 2 * n)) ∷ []

-- the fixed-range registers, which are 0 without FIX
abbrev pub fixed_of : (ℕ → Option ℕ) → Bool → List ℕ
fixed_of values true = map (value_or_zero values) fixed_numbers
fixed_of values false = replicate 11 0

-- the file of a processor whose registers have these values
abbrev pub file_of : (ℕ → Option ℕ) → ℕ → ℕ → RegisterFile
file_of values width capabilities = record {
  width = width;
  capabilities = capabilities;
  pairs = first_pairs values (low_byte capabilities);
  fixed = fixed_of values (is_bit_set capabilities 8);
  pat = value_or_zero values 0x277;
  default_type = value_or_zero values 0x2ff;
}

-- the files of so many processors
abbrev pub files_of : (ℕ → ℕ → Option ℕ) → ℕ → ℕ → ℕ → List RegisterFile
files_of values width capabilities zero = []
files_of values width capabilities (suc k) = files_of values width capabilities k ++ file_of (values k) width capabilities ∷ []

-- 1 for one processor, else 2
abbrev pub version_of : ℕ → ℕ
version_of count = if count == 1 then 1 else 2

abbrev pub dump_in : (ℕ → ℕ → Option ℕ) → ℕ → ℕ → ℕ → Dump
dump_in values count width capabilities = record { version = version_of count; files = files_of values width capabilities count }

-- ---- notes on what was assumed

-- the value that one of so many processors has by an assumption alone
abbrev pub noted : (ℕ → ℕ → Option ℕ) → (ℕ → ℕ → Option ℕ) → ℕ → ℕ → Option ℕ
noted firm values zero number = None
noted firm values (suc k) number = or_supplied (noted firm values k number) (if is_none (firm k number) then values k number else None)

abbrev pub is_value : Option ℕ → ℕ → Bool
is_value None value = false
is_value (Some other) value = other == value

-- processor k has this value by an assumption alone
abbrev pub is_noted : (ℕ → ℕ → Option ℕ) → (ℕ → ℕ → Option ℕ) → ℕ → ℕ → ℕ → Bool
is_noted firm values k number value = is_none (firm k number) && is_value (values k number) value

abbrev pub number_if : Bool → ℕ → List ℕ
number_if true k = codes " " ++ decimal k
number_if false k = []

-- the numbers of those of so many processors that have this value by an assumption alone
abbrev pub noted_of : (ℕ → ℕ → Option ℕ) → (ℕ → ℕ → Option ℕ) → ℕ → ℕ → ℕ → List ℕ
noted_of firm values zero number value = []
noted_of firm values (suc k) number value = noted_of firm values k number value ++ number_if (is_noted firm values k number value) k

-- `# assumed 20e 0000000000000000 of cpu 0 1 by assume=pairs`
abbrev pub note_by : ℕ → ℕ → List ℕ → List ℕ
note_by number value processors =
    if is_empty processors then []
    else line (codes "# assumed " ++ number_text number ++ codes " " ++ value_text value ++ codes " of cpu" ++ processors ++ codes " by " ++ assumption_text number value)

-- a register has two values by assumptions at most, of which 0 is one
abbrev pub note_line : ℕ → Option ℕ → (ℕ → List ℕ) → List ℕ
note_line number None processors = []
note_line number (Some value) processors = note_by number value (processors value) ++ (if value == 0 then [] else note_by number 0 (processors 0))

abbrev pub note_lines : (ℕ → ℕ → Option ℕ) → (ℕ → ℕ → Option ℕ) → ℕ → List ℕ → List ℕ
note_lines firm values count [] = []
note_lines firm values count (number ∷ numbers) = note_line number (noted firm values count number) (noted_of firm values count number) ++ note_lines firm values count numbers

abbrev pub width_note : Option ℕ → Option ℕ → List ℕ
width_note (Some width) assumed = []
width_note None None = []
width_note None (Some width) = line (codes "# assumed maxphyaddr " ++ decimal width ++ codes " by assume=width")

-- ---- the texts and the status

-- the texts for standard output, of which comments come first, and for standard error, and the status
pub record Outcome : Type 0 where
  pub notes : List ℕ
  pub dump : List ℕ
  pub reasons : List ℕ
  pub status : Status

abbrev pub format_name : Option Format → List ℕ
format_name None = codes "any format"
format_name (Some Rdmsr) = codes "rdmsr"
format_name (Some X86info) = codes "x86info"
format_name (Some Inteltool) = codes "inteltool"
format_name (Some Coreboot) = codes "coreboot"
format_name (Some Edk2) = codes "edk2"
format_name (Some Linux) = codes "linux"
format_name (Some Xen) = codes "xen"
format_name (Some Chipsec) = codes "chipsec"
format_name (Some Windbg) = codes "windbg"
format_name (Some Plain) = codes "plain"

-- `3 of 812 lines are of linux`
abbrev pub count_line : Tally → List ℕ
count_line tally = line (decimal tally.matches ++ codes " of " ++ decimal tally.lines ++ codes " lines are of " ++ format_name tally.format)

-- what is told beside a dump: of `auto` the format
abbrev pub remarks : Bool → Tally → List ℕ
remarks auto tally = (if auto then count_line tally else []) ++ warning_lines tally.warned

abbrev pub refusal : Tally → List ℕ → Outcome
refusal tally missing = record { notes = []; dump = []; reasons = count_line tally ++ (warning_lines tally.warned ++ missing); status = Refused }

abbrev pub Slots : Type 0
Slots = ℕ → ℕ → Slot

-- the width that lines show, and the format of the log
pub record WidthAndFormat : Type 0 where
  pub width : Option ℕ
  pub format : Option Format

-- what the lines of a log show: each processor's registers, how many processors there are, and the width and the format
pub record Findings : Type 0 where
  pub slots : Slots
  pub count : ℕ
  pub shown : WidthAndFormat

-- what is known of a log, of which lines may show the width
abbrev pub known_by : Supplied → Findings → Known
known_by supplied found = record { width = width_by supplied found.slots found.shown.width; format = found.shown.format; given = supplied_value supplied 0xfe }

-- the values of each processor's registers
unfoldable pub values_of : Supplied → Findings → ℕ → ℕ → Option ℕ
values_of supplied found k number = value_by supplied found.slots (known_by supplied found) k number

-- those that aren't assumed
unfoldable pub firm_of : Supplied → Findings → ℕ → ℕ → Option ℕ
firm_of supplied found k number = firm_value supplied (found.slots k) number

-- what processor 0's register would be if all were assumed
abbrev pub hint_by : Supplied → Findings → ℕ → Option ℕ
hint_by supplied found number =
    assumed_value all_assumed (found.slots 0) (record (known_by supplied found) { width = or_supplied (width_by supplied found.slots found.shown.width) (Some 52) }) number

-- the same words with all assumptions, and with the greatest width where none is supplied
abbrev pub allowing_all : Supplied → Supplied
allowing_all supplied = record supplied { width = or_supplied supplied.width (Some 52); assumed = all_assumed }

-- the same where no processor would lack it
unfoldable pub hint_of : Supplied → Findings → ℕ → Option ℕ
hint_of supplied found number = if is_missing (values_of (allowing_all supplied) found) found.count number then None else hint_by supplied found number

abbrev pub missing_of : Supplied → Findings → List ℕ
missing_of supplied found =
    missing_width (width_by supplied found.slots found.shown.width) (widest (masks_in supplied (found.slots 0) 32))
    ++ missing_lines (hint_of supplied found) (values_of supplied found) found.count (needed (values_of supplied found 0 0xfe))

abbrev pub notes_of : Supplied → Findings → List ℕ
notes_of supplied found =
    width_note (firm_width supplied found.shown.width) (width_by supplied found.slots found.shown.width)
    ++ note_lines (firm_of supplied found) (values_of supplied found) found.count (needed (values_of supplied found 0 0xfe))

-- ---- what to try

-- one word for two, where they are `assume=NAME` or empty
unfoldable pub joined : List ℕ → List ℕ → List ℕ
joined one other = if is_empty one then other else if is_empty other || is_text one other then one else codes "assume=all"

abbrev pub word_if : Bool → List ℕ → List ℕ
word_if true word = word
word_if false word = []

-- what is allowed already
abbrev pub allowed_text : Assumed → List ℕ
allowed_text assumed =
    joined (word_if assumed.pat (codes "assume=pat")) (joined (word_if assumed.pairs (codes "assume=pairs")) (joined (word_if assumed.masks (codes "assume=masks"))
    (joined (word_if assumed.fixed (codes "assume=fixed")) (joined (word_if assumed.width (codes "assume=width")) (word_if assumed.capabilities (codes "assume=capabilities"))))))

-- the assumption that would supply a register that is missing
abbrev pub help_on : Supplied → Findings → ℕ → List ℕ
help_on supplied found number =
    if is_missing (values_of supplied found) found.count number && not (is_missing (values_of (allowing_all supplied) found) found.count number)
    then assumption_text number (unwrap_or (hint_of supplied found number) 0)
    else []

-- the word that allows what so many words do, and what would supply these registers
abbrev pub helps_on : Supplied → Findings → List ℕ → List ℕ → List ℕ
helps_on supplied found allowed [] = allowed
helps_on supplied found allowed (number ∷ numbers) = helps_on supplied found (joined allowed (help_on supplied found number)) numbers

-- the width that a word gives, or the word that would supply it, where it is neither known nor that of the masks
abbrev pub width_word : Option ℕ → Option ℕ → Option ℕ → List ℕ
width_word (Some width) known hint = codes " maxphyaddr=" ++ decimal width
width_word None None None = codes " maxphyaddr=N"
width_word None None (Some width) = []
width_word None (Some width) hint = []

-- the assumption that would supply the width
abbrev pub help_on_width : Option ℕ → Option ℕ → List ℕ
help_on_width None (Some width) = codes "assume=width"
help_on_width None None = []
help_on_width (Some width) hint = []

-- ` 277=0007040600070406`
abbrev pub register_word : ℕ × ℕ → List ℕ
register_word register = codes " " ++ number_text register.0 ++ codes "=" ++ value_text register.1

abbrev pub register_words : List (ℕ × ℕ) → List ℕ
register_words [] = []
register_words (register ∷ registers) = register_word register ++ register_words registers

abbrev pub behind_blank : List ℕ → List ℕ
behind_blank word = if is_empty word then [] else codes " " ++ word

-- ` 200=VALUE`, where no assumption would supply it
abbrev pub value_word : Supplied → Findings → ℕ → List ℕ
value_word supplied found number = if is_missing (values_of (allowing_all supplied) found) found.count number then codes " " ++ number_text number ++ codes "=VALUE" else []

abbrev pub value_words : Supplied → Findings → List ℕ → List ℕ
value_words supplied found [] = []
value_words supplied found (number ∷ numbers) = value_word supplied found number ++ value_words supplied found numbers

-- the registers of a dump by all that is known, supplied or could be assumed
abbrev pub all_needed : Supplied → Findings → List ℕ
all_needed supplied found = needed (values_of (allowing_all supplied) found 0 0xfe)

abbrev pub width_of : Supplied → Findings → Option ℕ
width_of supplied found = width_by supplied found.slots found.shown.width

-- the width that the masks would have
abbrev pub width_hint_of : Supplied → Findings → Option ℕ
width_hint_of supplied found = widest (masks_in supplied (found.slots 0) 32)

-- the assumptions that are allowed, or would supply the width or these registers
abbrev pub help_words : Supplied → Findings → List ℕ → List ℕ
help_words supplied found numbers =
    helps_on supplied found (joined (allowed_text supplied.assumed) (help_on_width (width_of supplied found) (width_hint_of supplied found))) numbers

-- the word for the tables that are read
abbrev pub table_word : Pick → List ℕ
table_word Each = []
table_word (Number number) = codes " table=" ++ decimal number
table_word Last = codes " table=last"

-- the format's word
abbrev pub choice_word : Bool → Option Format → List ℕ
choice_word true format = codes "auto"
choice_word false format = format_name format

-- The words so far, with those that would supply all: `try: mtrr-import auto assume=all 2ff=VALUE`
abbrev pub advice_of : Bool → Supplied → Findings → List ℕ
advice_of auto supplied found =
    codes "try: mtrr-import " ++ choice_word auto found.shown.format ++ table_word supplied.table ++ width_word supplied.width (width_of supplied found) (width_hint_of supplied found)
    ++ register_words supplied.registers ++ behind_blank (help_words supplied found (all_needed supplied found)) ++ value_words supplied found (all_needed supplied found) ++ codes "\n"

-- what there is to tell at the end of a log
pub record Summary : Type 0 where
  pub missing : List ℕ  -- lines on what a dump needs and hasn't
  pub advice : List ℕ  -- the line with the words that would supply it
  pub notes : List ℕ  -- comments on what was assumed
  pub values : ℕ → ℕ → Option ℕ  -- each processor's registers
  pub count : ℕ  -- how many processors there are
  pub width : Option ℕ
  pub tally : Tally
  pub auto : Bool  -- The format was told by lines, and not by a word.

abbrev pub summary_of : Bool → Supplied → Findings → Tally → Summary
summary_of auto supplied found tally = record {
  missing = missing_of supplied found;
  advice = advice_of auto supplied found;
  notes = notes_of supplied found;
  values = values_of supplied found;
  count = found.count;
  width = width_by supplied found.slots found.shown.width;
  tally = tally;
  auto = auto;
}

-- the dump, where its width and its capability register are known, or else this refusal
abbrev pub dump_outcome : Outcome → Summary → Option ℕ → Option ℕ → Outcome
dump_outcome refused told (Some width) (Some capabilities) = record {
  notes = told.notes;
  dump = canon (dump_in told.values told.count width capabilities);
  reasons = remarks told.auto told.tally;
  status = Done;
}
dump_outcome refused told (Some width) None = refused
dump_outcome refused told None capabilities = refused

-- the dump, or what is missing
abbrev pub ended_by : Summary → Outcome
ended_by told = if is_empty told.missing then dump_outcome (refusal told.tally told.missing) told told.width (told.values 0 0xfe) else refusal told.tally (told.missing ++ told.advice)

abbrev pub findings_of : Seen → Findings
findings_of seen = record { slots = slot_shown seen.readings; count = processors seen.readings; shown = record { width = seen.width; format = seen.tally.format } }

abbrev pub ended : Bool → Supplied → Seen → Outcome
ended auto supplied seen = ended_by (summary_of auto supplied (findings_of seen) seen.tally)

-- a fault, behind what lines before it warn of, with what is told behind it
abbrev pub faulted : ImportFault → Warned → List ℕ → Outcome
faulted fault warned hint = record { notes = []; dump = []; reasons = warning_lines warned ++ (fault_line fault ++ hint); status = BadText }

-- the first fault, behind what lines before it warn of
abbrev pub unless : Option ImportFault → Warned → Outcome → Outcome
unless (Some fault) warned told = record { notes = []; dump = []; reasons = warning_lines warned ++ fault_line fault; status = BadText }
unless None warned told = told

abbrev pub facts_outcome : Bool → Supplied → Seen → List Fact → Outcome
facts_outcome auto supplied seen facts = unless (facts_fault supplied seen facts) (warned_till supplied seen facts) (ended auto supplied (seen_after seen facts))
