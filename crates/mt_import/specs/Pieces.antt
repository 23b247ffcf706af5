-- Pieces of the words of a line, as many formats have them (own).
use Rattle.std.specs.Prelude.{ℕ, ◌-◌, ◌==◌, ◌&&◌, ◌||◌, nat_eq, nat_lt, Bool, false, List, [], ◌∷◌, length, take, drop, replicate, if◌then◌else◌, Option, Some, None, Result, Ok, Err}
use Rattle.std.specs.Cmp.Lexicographic.{pointwise}
use Rattle.mt_text.specs.Number.{hex_number}
use Rattle.mt_text.specs.declared.fault.NumberFault.{NumberFault}
use Rattle.mt_text.specs.declared.place.Place.{Place}
use Rattle.mt_regs.specs.Registers.{number_limit}
use Rattle.mt_import.specs.declared.reading.LineSays.{LineSays}
use Rattle.mt_import.specs.declared.reading.LineSays.TheVariants.{Nothing, Shows, Width}
use Rattle.mt_import.specs.declared.shape.Shown.{Shown}
use Rattle.mt_import.specs.Slot.{all_bits}

-- the word is this text
abbrev pub is_text : List ℕ → List ℕ → Bool
is_text text word = pointwise nat_eq word text

-- what stands behind a head, where the word begins with it
abbrev pub behind : List ℕ → List ℕ → Option (List ℕ)
behind head word = if pointwise nat_eq (take (length head) word) head then Some (drop (length head) word) else None

-- what stands before a tail, where the word ends with it
abbrev pub before : List ℕ → List ℕ → Option (List ℕ)
before tail word = if pointwise nat_eq (drop (length word - length tail) word) tail then Some (take (length word - length tail) word) else None

-- `0x` or `0X` stands at the front
abbrev pub is_prefixed : List ℕ → Bool
is_prefixed [] = false
is_prefixed (byte ∷ []) = false
is_prefixed (zero_digit ∷ mark ∷ digits) = zero_digit == 48 && (mark == 120 || mark == 88)

abbrev pub number_in : Result ℕ NumberFault → Option ℕ
number_in (Ok number) = Some number
number_in (Err fault) = None

-- a hexadecimal number behind `0x`
abbrev pub prefixed_number : List ℕ → Option ℕ
prefixed_number word = if is_prefixed word then number_in (hex_number word) else None

-- the same in a word of this length: a shorter one was cut
abbrev pub whole_number : ℕ → List ℕ → Option ℕ
whole_number size word = if length word == size then prefixed_number word else None

-- a hexadecimal number of sixteen digits
abbrev pub sixteen_digits : List ℕ → Option ℕ
sixteen_digits word = if length word == 16 then number_in (hex_number word) else None

-- the number, where it has three hexadecimal digits at most
abbrev pub register_in : Result ℕ NumberFault → Option ℕ
register_in (Ok number) = if nat_lt number number_limit then Some number else None
register_in (Err fault) = None

-- a register's number in hexadecimal behind `0x`
abbrev pub prefixed_register : List ℕ → Option ℕ
prefixed_register word = if is_prefixed word then register_in (hex_number word) else None

-- bits of a register
abbrev pub shown_bits : ℕ → ℕ → ℕ → Place → Option Shown
shown_bits number bits value place = Some (record { number = number; bits = bits; value = value; place = place })

-- a whole register
abbrev pub shown_as : ℕ → ℕ → Place → Option Shown
shown_as number value place = shown_bits number all_bits value place

-- a whole register, where its value is known
abbrev pub value_at : ℕ → Place → Option ℕ → Option Shown
value_at number place None = None
value_at number place (Some value) = shown_as number value place

-- A processor that no dump has. Registers of a processor that isn't known are of it.
abbrev pub unread_processor : ℕ
unread_processor = 65535

-- one register of a processor, or else of the one that the lines are of
abbrev pub shows_one : Option ℕ → Option ℕ → Option ℕ → Place → LineSays
shows_one processor None value place = Nothing
shows_one processor (Some number) None place = Nothing
shows_one processor (Some number) (Some value) place = Shows processor (shown_as number value place ∷ replicate 10 None)

abbrev pub shows_width : Result ℕ NumberFault → Place → LineSays
shows_width (Ok width) place = Width width place
shows_width (Err fault) place = Nothing
