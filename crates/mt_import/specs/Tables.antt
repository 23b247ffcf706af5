-- What a line says by a table of rows (own).
--     each_said number line      what it says in each format
--     said_in rows number line      what a line of this number says, by the first row that reads it
use Rattle.std.specs.Prelude.{ℕ, ◌+◌, ◌-◌, ◌*◌, ◌&&◌, nat_le, nat_lt, List, [], ◌∷◌, if◌then◌else◌, Option, Some, None, Ok}
use Rattle.std.specs.Borrow.{Bor}
use Rattle.mt_ports.specs.Causes.{one_more}
use Rattle.mt_rows.specs.declared.row.Field.{Field}
use Rattle.mt_rows.specs.declared.row.Fields.{Fields}
use Rattle.mt_rows.specs.declared.row.Run.{Run}
use Rattle.mt_rows.specs.Scan.{Held, Part, parts_at, parts_in, scanned}
use Rattle.mt_text.specs.declared.place.Place.{Place}
use Rattle.mt_import.specs.declared.reading.LineSays.{LineSays}
use Rattle.mt_import.specs.declared.reading.LineSays.TheVariants.{Bad, Nothing, Lists, Turns, Width}
use Rattle.mt_import.specs.declared.reading.Turn.{Turn}
use Rattle.mt_import.specs.declared.reading.Turn.TheVariants.{To, Unread, UnreadCall}
use Rattle.mt_import.specs.declared.tables.Says.{Says}
use Rattle.mt_import.specs.declared.tables.TheConstants.{EACH}
use Rattle.mt_import.specs.declared.tables.Says.TheVariants as says
use Rattle.mt_import.specs.Pieces.{register_in, shows_one, unread_processor}
use Rattle.mt_import.specs.Readings.{is_register}
use Rattle.mt_import.specs.Slot.{all_bits}

-- ---- a row

-- the place of a number behind `0x`, which is that of the 0
abbrev pub place_of : ℕ → Field → Place
place_of number field = record { line = number; column = field.column - 1 }

-- the place of a number
abbrev pub bare_place : ℕ → Field → Place
bare_place number field = record { line = number; column = one_more field.column }

-- a processor of this number, or one that no dump has
abbrev pub processor_in : ℕ → ℕ
processor_in number = if nat_lt number 0x10000 then number else unread_processor

abbrev pub lists_one : ℕ → Option ℕ → Option ℕ → Field → LineSays
lists_one number processor None value = Nothing
lists_one number processor (Some register) value =
    if is_register register then Lists processor (record { number = register; bits = all_bits; value = value.value; place = bare_place number value }) else Nothing

-- a line of a list, of this processor: of a register that some dump has
abbrev pub listed : ℕ → Option ℕ → Fields → LineSays
listed number processor f = lists_one number processor (register_in (Ok f.second_last.value)) f.last

abbrev pub width_in : ℕ → Field → LineSays
width_in number field = if nat_lt field.value 256 then Width field.value (bare_place number field) else Nothing

-- a value by its upper and its lower half
abbrev pub halves_value : ℕ → ℕ → Option ℕ
halves_value high low = if nat_lt high 0x100000000 && nat_lt low 0x100000000 then Some (high * 0x100000000 + low) else None

-- the processor of a number, counted from the first, where there are 65,536
abbrev pub turned_from : ℕ → ℕ → Turn
turned_from first number = if nat_le first number && nat_lt (number - first) 0x10000 then To (number - first) else Unread

abbrev pub says_of : Says → ℕ → Fields → LineSays
says_of says.Register number f = shows_one None (register_in (Ok f.second_last.value)) (Some f.last.value) (place_of number f.last)
says_of says.Halves number f = shows_one None (register_in (Ok f.third_last.value)) (halves_value f.second_last.value f.last.value) (place_of number f.second_last)
says_of (says.Turn first) number f = Turns (turned_from first f.last.value)
says_of says.TurnToFirst number f = Turns (To 0)
says_of says.TurnToUnread number f = Turns Unread
says_of says.UnreadPrompt number f = Turns UnreadCall
says_of says.Bare number f = shows_one None (register_in (Ok f.second_last.value)) (Some f.last.value) (bare_place number f.last)
says_of says.BareHalves number f = shows_one None (register_in (Ok f.third_last.value)) (halves_value f.second_last.value f.last.value) (bare_place number f.second_last)
says_of says.OfProcessor number f = shows_one (Some (processor_in f.third_last.value)) (register_in (Ok f.second_last.value)) (Some f.last.value) (bare_place number f.last)
says_of says.ValueFirst number f = shows_one (Some (processor_in f.last.value)) (register_in (Ok f.second_last.value)) (Some f.third_last.value) (place_of number f.third_last)
says_of says.Lists number f = listed number None f
says_of says.ListsProcessor number f = listed number (Some (processor_in f.third_last.value)) f
says_of says.ListsUnread number f = listed number (Some unread_processor) f
says_of says.Width number f = width_in number f.last
says_of (says.Bad why) number f = Bad why (bare_place number f.last)

-- ---- rows

abbrev pub Row : Type 0
Row = List Part × Says

-- rows behind references
abbrev pub rows_at : List (Bor (List (Bor (List ℕ) × Run)) × Says) → List Row
rows_at [] = []
rows_at (row ∷ rows) = (parts_at row.0.now, row.1) ∷ rows_at rows

-- the same of a constant
abbrev pub rows_in : List (Held (List (Held (List ℕ) × Run)) × Says) → List Row
rows_in [] = []
rows_in (row ∷ rows) = (parts_in row.0.now, row.1) ∷ rows_in rows

abbrev pub said_or : Says → ℕ → Option Fields → LineSays → LineSays
said_or meaning number (Some fields) others = says_of meaning number fields
said_or meaning number None others = others

abbrev pub said_in : List Row → ℕ → List ℕ → LineSays
said_in [] number line = Nothing
said_in (row ∷ rows) number line = said_or row.1 number (scanned row.0 line) (said_in rows number line)

abbrev pub each_said : ℕ → List ℕ → LineSays
each_said number line = said_in (rows_in EACH) number line
