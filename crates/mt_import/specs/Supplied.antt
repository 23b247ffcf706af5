-- What the words of the command line supply (own).
--     command_of words      the format and what is supplied, where the words are a command line
use Rattle.std.specs.Prelude.{ℕ, ◌≡◌, ◌≤◌, ◌+◌, ◌==◌, ◌&&◌, ◌||◌, not, nat_lt, bit_and, codes, Bool, true, false, ⊤, List, [], ◌∷◌, ◌++◌, length, take, drop, position, if◌then◌else◌, Option, Some, None, Result, Ok, Err, is_some, IfSome}
use Rattle.std.specs.List.{All, find}
use Rattle.std.specs.Option.{option_map}
use Rattle.mt_text.specs.Number.{hex_number, decimal_number}
use Rattle.mt_text.specs.declared.fault.NumberFault.{NumberFault}
use Rattle.mt_regs.specs.RegisterFile.{low_byte}
use Rattle.mt_regs.specs.Registers.{HasThreeDigits}
use Rattle.mt_import.specs.declared.format.Choice.{Choice}
use Rattle.mt_import.specs.declared.format.Choice.TheVariants.{Auto, Only}
use Rattle.mt_import.specs.declared.format.Format.TheVariants.{Rdmsr, X86info, Inteltool, Coreboot, Edk2, Linux, Xen, Chipsec, Windbg, Plain}
use Rattle.mt_import.specs.declared.shape.Pick.{Pick}
use Rattle.mt_import.specs.declared.shape.Pick.TheVariants.{Each, Number, Last}
use Rattle.mt_import.specs.declared.supplied.Assumed.{Assumed}
use Rattle.mt_import.specs.declared.supplied.Given.{Given}
use Rattle.mt_import.specs.declared.supplied.Given.TheVariants.{Width, Register, Assume, Table}
use Rattle.mt_import.specs.Pieces.{behind, is_text}
use Rattle.mt_import.specs.Readings.{is_register}

-- the width and the registers that words give, and what they allow to be assumed
pub record Supplied : Type 0 where
  pub width : Option ℕ
  pub registers : List (ℕ × ℕ)
  pub assumed : Assumed
  pub table : Pick

abbrev pub nothing_assumed : Assumed
nothing_assumed = record { pat = false; pairs = false; masks = false; fixed = false; width = false; capabilities = false }

abbrev pub all_assumed : Assumed
all_assumed = record { pat = true; pairs = true; masks = true; fixed = true; width = true; capabilities = true }

abbrev pub nothing_supplied : Supplied
nothing_supplied = record { width = None; registers = []; assumed = nothing_assumed; table = Each }

abbrev pub value_among : ℕ → List (ℕ × ℕ) → Option ℕ
value_among number registers = option_map (λ register. register.1) (find (λ register. register.0 == number) registers)

abbrev pub supplied_value : Supplied → ℕ → Option ℕ
supplied_value supplied number = value_among number supplied.registers

-- a width that is supplied or shown is another
abbrev pub differs : Option ℕ → ℕ → Bool
differs None value = false
differs (Some other) value = not (other == value)

-- a word's value is another in these bits
abbrev pub bits_differ : Option ℕ → ℕ → ℕ → Bool
bits_differ None bits value = false
bits_differ (Some word) bits value = not (bit_and word bits == value)

-- a width and a count of pairs that a file may have, and registers of three digits
pub record IsSupplied (supplied : Supplied) : Type 0 where
  pub numbers : All (λ register. HasThreeDigits register.0) supplied.registers
  pub width : IfSome supplied.width (λ width. (32 ≤ width) × (width ≤ 52))
  pub pairs : (value : ℕ) → supplied_value supplied 0xfe ≡ Some value → low_byte value ≤ 32

-- the same of one word
abbrev pub AreGiven : Given → Type 0
AreGiven (Width width) = (32 ≤ width) × (width ≤ 52)
AreGiven (Register number value) = HasThreeDigits number × (number ≡ 0xfe → low_byte value ≤ 32)
AreGiven (Assume assumed) = ⊤
AreGiven (Table pick) = ⊤

abbrev pub is_equals : ℕ → Bool
is_equals byte = byte == 61

abbrev pub given_width : Result ℕ NumberFault → Option Given
given_width (Ok width) = if nat_lt width 32 then None else Some (Width width)
given_width (Err fault) = None

abbrev pub given_register : Result ℕ NumberFault → Result ℕ NumberFault → Option Given
given_register (Err fault) value = None
given_register (Ok number) (Err fault) = None
given_register (Ok number) (Ok value) =
    if not (is_register number) then None
    else if number == 0xfe && nat_lt 32 (low_byte value) then None
    else Some (Register number value)

-- `REGISTER=VALUE`, cut at the first `=`
abbrev pub given_at : List ℕ → Option ℕ → Option Given
given_at word None = None
given_at word (Some at) = given_register (hex_number (take at word)) (hex_number (drop (at + 1) word))

abbrev pub assumption_named : List ℕ → Option Assumed
assumption_named name =
    if is_text (codes "pat") name then Some (record nothing_assumed { pat = true })
    else if is_text (codes "pairs") name then Some (record nothing_assumed { pairs = true })
    else if is_text (codes "masks") name then Some (record nothing_assumed { masks = true })
    else if is_text (codes "fixed") name then Some (record nothing_assumed { fixed = true })
    else if is_text (codes "width") name then Some (record nothing_assumed { width = true })
    else if is_text (codes "capabilities") name then Some (record nothing_assumed { capabilities = true })
    else if is_text (codes "all") name then Some all_assumed
    else None

abbrev pub given_assumption : Option Assumed → Option Given
given_assumption None = None
given_assumption (Some assumed) = Some (Assume assumed)

abbrev pub numbered : Result ℕ NumberFault → Option Pick
numbered (Ok number) = if nat_lt 0 number then Some (Number number) else None
numbered (Err fault) = None

abbrev pub table_named : List ℕ → Option Pick
table_named name =
    if is_text (codes "first") name then Some (Number 1)
    else if is_text (codes "last") name then Some Last
    else numbered (decimal_number name 65535)

abbrev pub given_table : Option Pick → Option Given
given_table None = None
given_table (Some pick) = Some (Table pick)

abbrev pub given_named : List ℕ → Option (List ℕ) → Option Given
given_named word (Some name) = given_table (table_named name)
given_named word None = given_at word (position is_equals word)

abbrev pub given_unless : List ℕ → Option (List ℕ) → Option Given
given_unless word (Some name) = given_assumption (assumption_named name)
given_unless word None = given_named word (behind (codes "table=") word)

abbrev pub given_by : List ℕ → Option (List ℕ) → Option Given
given_by word (Some digits) = given_width (decimal_number digits 52)
given_by word None = given_unless word (behind (codes "assume=") word)

-- `maxphyaddr=N`, `assume=NAME`, `table=first`, `table=last`, `table=N` or `REGISTER=VALUE`
abbrev pub given_of : List ℕ → Option Given
given_of word = given_by word (behind (codes "maxphyaddr=") word)

abbrev pub are_both : Assumed → Assumed → Bool
are_both a b = (a.pat && b.pat) || (a.pairs && b.pairs) || (a.masks && b.masks) || (a.fixed && b.fixed) || (a.width && b.width) || (a.capabilities && b.capabilities)

abbrev pub assumed_too : Assumed → Assumed → Assumed
assumed_too a b = record { pat = a.pat || b.pat; pairs = a.pairs || b.pairs; masks = a.masks || b.masks; fixed = a.fixed || b.fixed; width = a.width || b.width; capabilities = a.capabilities || b.capabilities }

abbrev pub has_table : Pick → Bool
has_table Each = false
has_table (Number number) = true
has_table Last = true

-- nothing is given twice
abbrev pub with_given : Supplied → Given → Option Supplied
with_given supplied (Width width) = if is_some supplied.width then None else Some (record supplied { width = Some width })
with_given supplied (Register number value) =
    if is_some (supplied_value supplied number) then None
    else Some (record supplied { registers = supplied.registers ++ (number, value) ∷ [] })
with_given supplied (Assume assumed) =
    if are_both supplied.assumed assumed then None
    else Some (record supplied { assumed = assumed_too supplied.assumed assumed })
with_given supplied (Table pick) = if has_table supplied.table then None else Some (record supplied { table = pick })

abbrev pub with_word : Supplied → Option Given → Option Supplied
with_word supplied None = None
with_word supplied (Some given) = with_given supplied given

abbrev pub with_words : Option Supplied → List (List ℕ) → Option Supplied
with_words None words = None
with_words (Some supplied) [] = Some supplied
with_words (Some supplied) (word ∷ words) = with_words (with_word supplied (given_of word)) words

abbrev pub format_named : List ℕ → Option Choice
format_named word =
    if is_text (codes "auto") word then Some Auto
    else if is_text (codes "rdmsr") word then Some (Only Rdmsr)
    else if is_text (codes "x86info") word then Some (Only X86info)
    else if is_text (codes "inteltool") word then Some (Only Inteltool)
    else if is_text (codes "coreboot") word then Some (Only Coreboot)
    else if is_text (codes "edk2") word then Some (Only Edk2)
    else if is_text (codes "linux") word then Some (Only Linux)
    else if is_text (codes "xen") word then Some (Only Xen)
    else if is_text (codes "chipsec") word then Some (Only Chipsec)
    else if is_text (codes "windbg") word then Some (Only Windbg)
    else if is_text (codes "plain") word then Some (Only Plain)
    else None

abbrev pub command_with : Option Choice → Option Supplied → Option (Choice × Supplied)
command_with None supplied = None
command_with (Some choice) None = None
command_with (Some choice) (Some supplied) = Some (choice, supplied)

-- the format, and the width, 78 registers, six assumptions and a table at most
abbrev pub command_of : List (List ℕ) → Option (Choice × Supplied)
command_of [] = None
command_of (name ∷ words) = if nat_lt 86 (length words) then None else command_with (format_named name) (with_words (Some nothing_supplied) words)
