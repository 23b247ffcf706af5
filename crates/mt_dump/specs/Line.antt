-- What one line of a dump says, whatever the other lines say (own).
--     said_of number line      what the line of this number says, or its offence
use Rattle.std.specs.Prelude.{ℕ, ◌+◌, ◌==◌, ◌&&◌, codes, nat_lt, nat_eq, Bool, List, [], ◌∷◌, if◌then◌else◌, Result, Ok, Err}
use Rattle.std.specs.Cmp.Lexicographic.{pointwise}
use Rattle.mt_text.specs.Text.{is_too_long, past_limit, words_of, without_ending}
use Rattle.mt_text.specs.Number.{hex_number, decimal_number}
use Rattle.mt_text.specs.declared.fault.NumberFault.{NumberFault}
use Rattle.mt_text.specs.declared.fault.NumberFault.TheVariants.{NotDigit, TooLarge}
use Rattle.mt_text.specs.declared.place.Place.{Place}
use Rattle.mt_regs.specs.RegisterFile.{low_byte}
use Rattle.mt_dump.specs.declared.fault.DumpReason.{DumpReason}
use Rattle.mt_dump.specs.declared.fault.DumpReason.TheVariants.{BadLine, BadNumber, BadWidth, TooManyPairs, BadVersion, BadSection}
use Rattle.mt_dump.specs.declared.fault.DumpFault.{DumpFault}
use Rattle.mt_dump.specs.declared.said.Said.{Said}
use Rattle.mt_dump.specs.declared.said.Said.TheVariants.{Nothing, Version, Section, Width, Register}

abbrev pub Reading : Type 0
Reading = Result Said DumpFault

abbrev pub fault_at : DumpReason → Place → DumpFault
fault_at reason place = record { reason = reason; place = place }

-- the place of a word of the line of this number
abbrev pub place_of : ℕ → ℕ × List ℕ → Place
place_of number word = record { line = number; column = word.0 + 1 }

abbrev pub is_word : List ℕ → List ℕ → Bool
is_word name word = pointwise nat_eq word name

abbrev pub said_width : Place → Place → Result ℕ NumberFault → Reading
said_width first second (Err NotDigit) = Err (fault_at BadNumber second)
said_width first second (Err TooLarge) = Err (fault_at BadWidth second)
said_width first second (Ok width) = if nat_lt width 32 then Err (fault_at BadWidth second) else Ok (Width width first second)

abbrev pub said_version : Place → Place → Result ℕ NumberFault → Reading
said_version first second (Err NotDigit) = Err (fault_at BadNumber second)
said_version first second (Err TooLarge) = Err (fault_at BadVersion second)
said_version first second (Ok version) = if version == 0 then Err (fault_at BadVersion second) else Ok (Version version first)

-- A number that passes 15 is no section's, whatever stands before.
abbrev pub said_section : Place → Place → Result ℕ NumberFault → Reading
said_section first second (Err NotDigit) = Err (fault_at BadNumber second)
said_section first second (Err TooLarge) = Err (fault_at BadSection first)
said_section first second (Ok number) = Ok (Section number first)

abbrev pub said_register : Place → Place → Result ℕ NumberFault → Result ℕ NumberFault → Reading
said_register first second (Err fault) value = Err (fault_at BadNumber first)
said_register first second (Ok number) (Err fault) = Err (fault_at BadNumber second)
said_register first second (Ok number) (Ok value) =
    if number == 0xfe && nat_lt 32 (low_byte value) then Err (fault_at TooManyPairs second)
    else Ok (Register number value first second)

abbrev pub said_pair : Place → Place → List ℕ → List ℕ → Reading
said_pair first second name value =
    if is_word (codes "maxphyaddr") name then said_width first second (decimal_number value 52)
    else if is_word (codes "version") name then said_version first second (decimal_number value 2)
    else if is_word (codes "cpu") name then said_section first second (decimal_number value 15)
    else said_register first second (hex_number name) (hex_number value)

-- One `:` at the end of the first word is no part of it.
abbrev pub said_words : ℕ → List (ℕ × List ℕ) → Reading
said_words number [] = Ok Nothing
said_words number (first ∷ []) = Err (fault_at BadLine (place_of number first))
said_words number (first ∷ second ∷ []) = said_pair (place_of number first) (place_of number second) (without_ending 58 first.1) second.1
said_words number (first ∷ second ∷ third ∷ more) = Err (fault_at BadLine (place_of number third))

abbrev pub said_of : ℕ → List ℕ → Reading
said_of number line =
    if is_too_long line then Err (fault_at BadLine (past_limit number))
    else said_words number (words_of line)
