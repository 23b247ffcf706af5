-- Lines of `set -x` over `rdmsr` of msr-tools (own).
--     rdmsr_said number line      what a line of this number says
use Rattle.std.specs.Prelude.{ℕ, zero, suc, ◌+◌, ◌==◌, ◌&&◌, ◌||◌, codes, Bool, false, List, [], ◌∷◌, length, if◌then◌else◌, Option, Some, None, Result, Ok, Err}
use Rattle.mt_text.specs.Text.{words_of}
use Rattle.mt_text.specs.Words.{text_of, place_of}
use Rattle.mt_text.specs.Number.{hex_number, decimal_number}
use Rattle.mt_text.specs.declared.fault.NumberFault.{NumberFault}
use Rattle.mt_text.specs.declared.place.Place.{Place}
use Rattle.mt_import.specs.declared.reading.LineSays.{LineSays}
use Rattle.mt_import.specs.declared.reading.Turn.{Turn}
use Rattle.mt_import.specs.declared.reading.Turn.TheVariants.{To, UnreadCall}
use Rattle.mt_import.specs.Pieces.{before, behind, is_prefixed, is_text, number_in, prefixed_register, register_in, shows_one}
use Rattle.mt_import.specs.declared.reading.LineSays.TheVariants.{Nothing, Announces, Turns, Value}

-- A register as `rdmsr` takes it: hexadecimal behind `0x`, else decimal. Each register's number has three decimal digits, so that a number that C takes as octal is none.
abbrev pub register_named : List ℕ → Option ℕ
register_named word =
    if is_prefixed word then register_in (hex_number word)
    else if length word == 3 then register_in (decimal_number word 999)
    else None

-- an option that leaves the value hexadecimal
abbrev pub is_hex_option : List ℕ → Bool
is_hex_option word = is_text (codes "-0") word || is_text (codes "-x") word || is_text (codes "-X") word || is_text (codes "-c") word

-- Columns behind a call that is read but for its register are of its processor, where it names one.
abbrev pub call_of : Option ℕ → Turn
call_of None = UnreadCall
call_of (Some processor) = To processor

abbrev pub announced : Option ℕ → Option ℕ → LineSays
announced processor None = Turns (call_of processor)
announced processor (Some number) = Announces processor number

-- a `0` with more behind it, which is octal
abbrev pub is_padded : List ℕ → Bool
is_padded [] = false
is_padded (byte ∷ []) = false
is_padded (zero_digit ∷ next ∷ digits) = zero_digit == 48

abbrev pub number_or_none : Result ℕ NumberFault → Option ℕ
number_or_none (Ok processor) = Some processor
number_or_none (Err fault) = None

-- A processor is read where it is written in decimal.
abbrev pub processor_named : List ℕ → Option ℕ
processor_named word = if is_padded word then None else number_or_none (decimal_number word 65535)

abbrev pub is_all : List ℕ → Bool
is_all word = is_text (codes "-a") word || is_text (codes "--all") word

abbrev pub digits_in : Option (List ℕ) → Option ℕ
digits_in None = None
digits_in (Some digits) = processor_named digits

-- an option: how many words it has, and the processor that the call is of behind it, or of none for all of them
abbrev pub with_processor : ℕ → Option ℕ → Option (ℕ × Option ℕ)
with_processor size None = None
with_processor size (Some processor) = Some (size, Some processor)

abbrev pub option_at : ℕ → Option ℕ → List (ℕ × List ℕ) → Option (ℕ × Option ℕ)
option_at at processor words =
    if is_hex_option (text_of words at) then Some (1, processor)
    else if is_all (text_of words at) then Some (1, None)
    else if is_text (codes "-p") (text_of words at) then with_processor 2 (processor_named (text_of words (at + 1)))
    else with_processor 1 (digits_in (behind (codes "-p") (text_of words at)))

-- what a call says behind an option, where the rest says something
abbrev pub call_behind : (ℕ → Option ℕ → LineSays) → Option (ℕ × Option ℕ) → LineSays
call_behind rest None = Turns UnreadCall
call_behind rest (Some found) = rest found.0 found.1

-- the words of a call from this one on: options, so many at most, and the register
abbrev pub call_from : ℕ → ℕ → Option ℕ → List (ℕ × List ℕ) → LineSays
call_from zero at processor words = if length words == at + 1 then announced processor (register_named (text_of words at)) else Turns UnreadCall
call_from (suc options) at processor words =
    if length words == at + 1 then announced processor (register_named (text_of words at))
    else call_behind (λ size next. call_from options (at + size) next words) (option_at at processor words)

abbrev pub said_value : Place → Result ℕ NumberFault → LineSays
said_value place (Ok value) = Value value place
said_value place (Err fault) = Nothing

-- `0x200 6` or `0x200: 6`, of a loop that prints register and value side by side, of the processor of the last call
abbrev pub column_register : Option (List ℕ) → List ℕ → Option ℕ
column_register (Some name) word = prefixed_register name
column_register None word = prefixed_register word

abbrev pub column_said : ℕ → List (ℕ × List ℕ) → LineSays
column_said number words =
    shows_one None (column_register (before (codes ":") (text_of words 0)) (text_of words 0)) (number_in (hex_number (text_of words 1))) (place_of number words 1)

-- `+`, or `++` in a subshell
abbrev pub is_traced : List ℕ → Bool
is_traced word = is_text (codes "+") word || is_text (codes "++") word

abbrev pub call_said : List (ℕ × List ℕ) → LineSays
call_said words =
    if is_text (codes "rdmsr") (text_of words 1) then call_from 3 2 (Some 0) words
    else if is_text (codes "sudo") (text_of words 1) && is_text (codes "rdmsr") (text_of words 2) then call_from 3 3 (Some 0) words
    else Nothing

abbrev pub said_by_words : ℕ → List (ℕ × List ℕ) → LineSays
said_by_words number words =
    if is_traced (text_of words 0) then call_said words
    else if length words == 1 then said_value (place_of number words 0) (hex_number (text_of words 0))
    else if length words == 2 then column_said number words
    else Nothing

abbrev pub rdmsr_said : ℕ → List ℕ → LineSays
rdmsr_said number line = said_by_words number (words_of line)
