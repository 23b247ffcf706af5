-- The plain form of a dump (own).
-- Lines end with LF or at the end of the text, and words stand between spaces and tabs. A line without words says nothing.
-- Any other line has two words: a register's number and its value, each of 1 to 16 hexadecimal digits, or `maxphyaddr` and
-- 1 to 20 decimal digits of a width from 32 to 52. So there is no comment, no CR, no `:` and no `0x`.
--     plain_line words      what a line of these words says
--     PlainlyShown text file      the text has the plain form and shows the file
use Rattle.std.specs.Prelude.{codes, ℕ, ◌≡◌, ◌≤◌, ◌&&◌, nat_le, List, [], ◌∷◌, length, map, if◌then◌else◌, Option, Some, None}
use Rattle.std.specs.List.{AllByRecursion}
use Rattle.std.specs.Option.{option_map, option_and_then}
use Rattle.hex.specs.Hex.{is_hex_digit}
use Rattle.mt_text.specs.Text.{between_blanks, lines_of}
use Rattle.mt_text.specs.Number.{are_digits, hex_value, is_decimal_digit, decimal_value}
use Rattle.mt_regs.specs.RegisterFile.{RegisterFile, IsRegisterFile, blank_file}
use Rattle.mt_regs.specs.Registers.{value_at}
use Rattle.mt_dump.specs.Line.{is_word}
use Rattle.mt_dump.specs.Dump.{times, width_of}

-- what a line says: nothing, a register's number and value, or the width
pub data PlainLine : Type 0 where
  Empty : PlainLine
  OfRegister : ℕ → ℕ → PlainLine
  OfWidth : ℕ → PlainLine

-- the number of 1 to 16 hexadecimal digits
abbrev pub plain_number : List ℕ → Option ℕ
plain_number word = if are_digits is_hex_digit word && nat_le (length word) 16 then Some (hex_value word) else None

-- the width of 1 to 20 decimal digits
abbrev pub plain_width : List ℕ → Option ℕ
plain_width word =
    if are_digits is_decimal_digit word && nat_le (length word) 20 && nat_le 32 (decimal_value word) && nat_le (decimal_value word) 52
    then Some (decimal_value word)
    else None

abbrev pub plain_pair : List ℕ → List ℕ → Option PlainLine
plain_pair name value =
    if is_word (codes "maxphyaddr") name then option_map OfWidth (plain_width value)
    else option_and_then (λ number. option_map (OfRegister number) (plain_number value)) (plain_number name)

abbrev pub plain_line : List (List ℕ) → Option PlainLine
plain_line [] = Some Empty
plain_line (name ∷ []) = None
plain_line (name ∷ value ∷ []) = plain_pair name value
plain_line (name ∷ value ∷ third ∷ more) = None

-- the registers that the lines give, in order, with their values
abbrev pub plain_registers : List PlainLine → List (ℕ × ℕ)
plain_registers [] = []
plain_registers (Empty ∷ lines) = plain_registers lines
plain_registers (OfRegister number value ∷ lines) = (number, value) ∷ plain_registers lines
plain_registers (OfWidth width ∷ lines) = plain_registers lines

-- the widths that they give
abbrev pub plain_widths : List PlainLine → List ℕ
plain_widths [] = []
plain_widths (Empty ∷ lines) = plain_widths lines
plain_widths (OfRegister number value ∷ lines) = plain_widths lines
plain_widths (OfWidth width ∷ lines) = width ∷ plain_widths lines

pub record PlainlyShown (text : List ℕ) (file : RegisterFile) : Type 0 where
  pub lines : List PlainLine
  pub plain : map (λ line. plain_line (between_blanks line)) (lines_of text) ≡ map Some lines  -- each line says something plain
  pub capabilities : (others : List (ℕ × ℕ)) × (plain_registers lines ≡ (0xfe, file.capabilities) ∷ others)  -- 0FEH is given before every other register
  pub once : (number : ℕ) → times number (plain_registers lines) ≤ 1  -- no register is given twice
  pub one_width : length (plain_widths lines) ≤ 1  -- nor is the width
  pub values : AllByRecursion (λ register. value_at file register.0 ≡ Some register.1) (plain_registers lines)  -- each is a register of the file, with its value
  pub defaults : (number : ℕ) → times number (plain_registers lines) ≡ 0 → value_at file number ≡ value_at (blank_file file.width file.capabilities) number  -- other registers are 0, and the PAT has its power-up value
  pub width : file.width ≡ width_of (plain_widths lines)  -- the width is the one that is given, or 36
  pub is_file : IsRegisterFile file  -- so VCNT is at most 32
