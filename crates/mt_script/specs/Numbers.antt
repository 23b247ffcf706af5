-- The numbers of a line, each with its range (own).
use Rattle.std.specs.Prelude.{ℕ, ◌+◌, ◌*◌, ◌^◌, ◌%◌, ◌==◌, ◌&&◌, ◌||◌, not, nat_le, nat_lt, Bool, false, List, [], ◌∷◌, length, if◌then◌else◌, Option, Some, None, is_some, Result, Ok, Err}
use Rattle.std.specs.List.{list_all}
use Rattle.mt_kinds.specs.Sizes.{most_lines}
use Rattle.mt_text.specs.Number.{hex_number, decimal_number}
use Rattle.mt_text.specs.declared.fault.NumberFault.{NumberFault}
use Rattle.mt_text.specs.declared.fault.NumberFault.TheVariants.{NotDigit, TooLarge}
use Rattle.mt_text.specs.declared.place.Place.{Place}
use Rattle.mt_regs.specs.RegisterFile.{RegisterFile}
use Rattle.mt_regs.specs.Registers.{value_at}
use Rattle.mt_script.specs.Situation.{Situation, file_of, most_processors}
use Rattle.mt_script.specs.Words.{text_of, place_of}
use Rattle.mt_script.specs.declared.fault.ScriptReason.{ScriptReason}
use Rattle.mt_script.specs.declared.fault.ScriptReason.TheVariants.{BadNumber, UnknownRegister, OutOfRange}
use Rattle.mt_script.specs.declared.fault.ScriptFault.{ScriptFault}

abbrev pub fault_at : ScriptReason → Place → ScriptFault
fault_at reason place = record { reason = reason; place = place }

-- a decimal number up to a limit
abbrev pub limited : Place → Result ℕ NumberFault → Result ℕ ScriptFault
limited place (Err NotDigit) = Err (fault_at BadNumber place)
limited place (Err TooLarge) = Err (fault_at OutOfRange place)
limited place (Ok number) = Ok number

-- a hexadecimal number
abbrev pub any : Place → Result ℕ NumberFault → Result ℕ ScriptFault
any place (Err fault) = Err (fault_at BadNumber place)
any place (Ok number) = Ok number

-- what a good value leads to
abbrev pub with : {T U E : Type 0} → Result T E → (T → Result U E) → Result U E
with (Err fault) next = Err fault
with (Ok value) next = next value

-- a number that passes a test, at the place of its word
abbrev pub tested : ScriptReason → Place → (ℕ → Bool) → ℕ → Result ℕ ScriptFault
tested reason place test number = if test number then Ok number else Err (fault_at reason place)

-- how many bytes of addresses there are, once the dump has told it
abbrev pub address_limit : Option RegisterFile → ℕ
address_limit None = 0
address_limit (Some file) = 2 ^ file.width

-- 0FEH or a writable register
abbrev pub is_register : Option RegisterFile → ℕ → Bool
is_register None number = false
is_register (Some file) number = is_some (value_at file number)

-- a register of the file other than 0FEH
abbrev pub is_writable : Option RegisterFile → ℕ → Bool
is_writable file number = not (number == 0xfe) && is_register file number

-- The numbers of a line of this number with these words, each by the number of its word.

-- a decimal number from first to last
abbrev pub count_in : ℕ → List (ℕ × List ℕ) → ℕ → ℕ → ℕ → Result ℕ ScriptFault
count_in line words i first last = with (limited (place_of line words i) (decimal_number (text_of words i) last)) (tested OutOfRange (place_of line words i) (nat_le first))

-- the number of a processor
abbrev pub processor_in : Situation → ℕ → List (ℕ × List ℕ) → ℕ → Result ℕ ScriptFault
processor_in now line words i =
    with (limited (place_of line words i) (decimal_number (text_of words i) 0xffffffffffffffff)) (tested OutOfRange (place_of line words i) (λ k. nat_lt k (most_processors now)))

abbrev pub value_in : ℕ → List (ℕ × List ℕ) → ℕ → Result ℕ ScriptFault
value_in line words i = any (place_of line words i) (hex_number (text_of words i))

-- a multiple of a step below a limit
abbrev pub aligned_in : ℕ → List (ℕ × List ℕ) → ℕ → ℕ → ℕ → Result ℕ ScriptFault
aligned_in line words i step limit = with (value_in line words i) (tested OutOfRange (place_of line words i) (λ address. address % step == 0 && nat_lt address limit))

-- a virtual address
abbrev pub virtual_in : ℕ → List (ℕ × List ℕ) → ℕ → ℕ → Result ℕ ScriptFault
virtual_in line words i step = aligned_in line words i step (2 ^ 48)

-- a physical address
abbrev pub physical_in : Situation → ℕ → List (ℕ × List ℕ) → ℕ → ℕ → Result ℕ ScriptFault
physical_in now line words i step = aligned_in line words i step (address_limit (file_of now))

abbrev pub register_in : Situation → ℕ → List (ℕ × List ℕ) → ℕ → Result ℕ ScriptFault
register_in now line words i = with (value_in line words i) (tested UnknownRegister (place_of line words i) (is_register (file_of now)))

-- the base of a window
abbrev pub base_in : ℕ → List (ℕ × List ℕ) → ℕ → Result ℕ ScriptFault
base_in line words i = with (value_in line words i) (tested OutOfRange (place_of line words i) (λ base. base % 64 == 0))

-- two windows share no byte
abbrev pub are_apart : ℕ → ℕ → ℕ × ℕ → Bool
are_apart base lines window = nat_le (base + 64 * lines) window.0 || nat_le (window.0 + 64 * window.1) base

-- the lines of windows together
abbrev pub lines_together : List (ℕ × ℕ) → ℕ
lines_together [] = 0
lines_together (window ∷ windows) = window.1 + lines_together windows

-- a window may be added
abbrev pub has_room : Situation → ℕ → ℕ → Bool
has_room now base lines =
    nat_le (base + 64 * lines) (address_limit (file_of now))
    && list_all (are_apart base lines) now.windows
    && nat_lt (length now.windows) 16
    && nat_le (lines_together now.windows + lines) most_lines
