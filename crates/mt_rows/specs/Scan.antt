-- What a row reads in a line (own).
--     items parts      the parts, byte by byte
--     scan size items rest fields      the numbers of what is left of a line of this size, behind those before it
--     scanned parts line      the numbers of a line
use Rattle.std.specs.Prelude.{ℕ, suc, ◌+◌, ◌-◌, ◌==◌, ◌&&◌, ◌||◌, nat_eq, nat_le, not, Bool, true, false, List, [], ◌∷◌, length, take, drop, if◌then◌else◌, Option, Some, None, Result, Ok, Err}
use Rattle.std.specs.Borrow.{Bor}
use Rattle.std.specs.Cmp.Lexicographic.{pointwise}
use Rattle.hex.specs.Hex.{is_hex_digit}
use Rattle.mt_text.specs.Number.{decimal_number, hex_number, is_decimal_digit}
use Rattle.mt_text.specs.Text.{ends_word, is_blank, without_return}
use Rattle.mt_text.specs.declared.fault.NumberFault.{NumberFault}
use Rattle.mt_rows.specs.declared.row.Kind.{Kind}
use Rattle.mt_rows.specs.declared.row.Kind.TheVariants.{Blank, Mark, Ex, Hexadecimal, Decimal, Between, Number, Figure}
use Rattle.mt_rows.specs.declared.row.Run.{Run}
use Rattle.mt_rows.specs.declared.row.Run.TheVariants.{Nothing, End, Of}
use Rattle.mt_rows.specs.declared.row.Field.{Field}
use Rattle.mt_rows.specs.declared.row.Fields.{Fields}

-- ---- runs

abbrev pub is_digit : ℕ → Bool
is_digit byte = is_hex_digit byte

-- a byte may stand in a run of this kind
abbrev pub has : Kind → ℕ → Bool
has Blank byte = is_blank byte
has Mark byte = not (ends_word byte)
has Ex byte = byte == 120 || byte == 88
has Hexadecimal byte = is_hex_digit byte
has Decimal byte = is_decimal_digit byte
has Between byte = is_blank byte || byte == 61 || byte == 58 || byte == 44 || byte == 59
has Number byte = is_digit byte || byte == 120 || byte == 88
has Figure byte = is_digit byte || byte == 120 || byte == 88 || byte == 104 || byte == 72

-- how many bytes of a kind stand in front
abbrev pub run_size : Kind → List ℕ → ℕ
run_size kind [] = 0
run_size kind (x ∷ xs) = if has kind x then suc (run_size kind xs) else 0

-- ---- numbers

abbrev pub no_field : Field
no_field = record { value = 0; column = 0 }

abbrev pub no_fields : Fields
no_fields = record {
  eighth_last = no_field;
  seventh_last = no_field;
  sixth_last = no_field;
  fifth_last = no_field;
  fourth_last = no_field;
  third_last = no_field;
  second_last = no_field;
  last = no_field;
}

abbrev pub push : Fields → ℕ → ℕ → Fields
push fields value column = record {
  eighth_last = fields.seventh_last;
  seventh_last = fields.sixth_last;
  sixth_last = fields.fifth_last;
  fifth_last = fields.fourth_last;
  fourth_last = fields.third_last;
  third_last = fields.second_last;
  second_last = fields.last;
  last = record { value = value; column = column };
}

abbrev pub pushed_number : Result ℕ NumberFault → ℕ → Fields → Option Fields
pushed_number (Ok number) column fields = Some (push fields number column)
pushed_number (Err fault) column fields = None

-- `0d` stands in front, as of a decimal number
abbrev pub is_marked : List ℕ → Bool
is_marked [] = false
is_marked (byte ∷ []) = false
is_marked (zero_digit ∷ mark ∷ digits) = zero_digit == 48 && mark == 100

-- the numbers behind a run, which shows one if it is of digits
abbrev pub pushed : Kind → ℕ → List ℕ → Fields → Option Fields
pushed Blank column text fields = Some fields
pushed Mark column text fields = Some fields
pushed Ex column text fields = Some fields
pushed Hexadecimal column text fields = pushed_number (hex_number text) column fields
pushed Decimal column text fields = pushed_number (decimal_number text 0xffffffffffffffff) column fields
pushed Between column text fields = Some fields
pushed Number column text fields = if is_marked text then None else pushed_number (hex_number text) column fields
pushed Figure column text fields = Some fields

-- ---- rows

abbrev pub Part : Type 0
Part = List ℕ × Run

-- parts behind references
abbrev pub parts_at : List (Bor (List ℕ) × Run) → List Part
parts_at [] = []
parts_at (part ∷ parts) = (part.0.now, part.1) ∷ parts_at parts

-- the same of a constant
abbrev pub Held : Type 0 → Type 0
Held A = record { now : A }

abbrev pub parts_in : List (Held (List ℕ) × Run) → List Part
parts_in [] = []
parts_in (part ∷ parts) = (part.0.now, part.1) ∷ parts_in parts

-- what a row reads at a place of a line
pub data Item : Type 0 where
  byte : ℕ → Item
  run : Kind → ℕ → ℕ → Item
  last : Item

abbrev pub with_bytes : List ℕ → List Item → List Item
with_bytes [] items = items
with_bytes (b ∷ bytes) items = byte b ∷ with_bytes bytes items

abbrev pub with_run : Run → List Item → List Item
with_run Nothing items = items
with_run End items = last ∷ items
with_run (Of kind least most) items = run kind least most ∷ items

abbrev pub items : List Part → List Item
items [] = []
items (part ∷ parts) = with_bytes part.0 (with_run part.1 (items parts))

-- a row ends here: the line ends, or a blank or `#` follows
abbrev pub is_end : List ℕ → Bool
is_end [] = true
is_end (x ∷ xs) = ends_word x

abbrev pub is_empty : List ℕ → Bool
is_empty [] = true
is_empty (x ∷ xs) = false

abbrev pub starts_with : List ℕ → List ℕ → Bool
starts_with head rest = pointwise nat_eq head (take (length head) rest)

abbrev pub and_then : Option Fields → (Fields → Option Fields) → Option Fields
and_then None next = None
and_then (Some fields) next = next fields

abbrev pub is_within : ℕ → ℕ → ℕ → Bool
is_within least most size = nat_le least size && nat_le size most

abbrev pub scan : ℕ → List Item → List ℕ → Fields → Option Fields
scan size [] rest fields = if is_end rest then Some fields else None
scan size (byte b ∷ items) [] fields = None
scan size (byte b ∷ items) (x ∷ xs) fields = if b == x then scan size items xs fields else None
scan size (last ∷ items) rest fields = if is_empty rest then scan size items rest fields else None
scan size (run kind least most ∷ items) rest fields =
    if is_within least most (run_size kind rest)
    then and_then (pushed kind (size - length rest) (take (run_size kind rest) rest) fields) (scan size items (drop (run_size kind rest) rest))
    else None

-- ---- a part alone

abbrev pub behind_run : ℕ → Option Fields → Option (ℕ × Fields)
behind_run taken None = None
behind_run taken (Some fields) = Some (taken, fields)

-- how many bytes a run takes, and the numbers behind it
abbrev pub run_read : ℕ → Run → List ℕ → Fields → Option (ℕ × Fields)
run_read size Nothing rest fields = Some (0, fields)
run_read size End rest fields = if is_empty rest then Some (0, fields) else None
run_read size (Of kind least most) rest fields =
    if is_within least most (run_size kind rest)
    then behind_run (run_size kind rest) (pushed kind (size - length rest) (take (run_size kind rest) rest) fields)
    else None

abbrev pub longer : ℕ → Option (ℕ × Fields) → Option (ℕ × Fields)
longer taken None = None
longer taken (Some read) = Some (taken + read.0, read.1)

-- the same of a part
abbrev pub part_read : ℕ → List ℕ → Run → List ℕ → Fields → Option (ℕ × Fields)
part_read size bytes part rest fields = if starts_with bytes rest then longer (length bytes) (run_read size part (drop (length bytes) rest) fields) else None

-- ---- a line

-- the numbers of a line without CR
abbrev pub read_by : List Part → List ℕ → Option Fields
read_by parts line = scan (length line) (items parts) line no_fields

abbrev pub scanned : List Part → List ℕ → Option Fields
scanned parts line = read_by parts (without_return line)
