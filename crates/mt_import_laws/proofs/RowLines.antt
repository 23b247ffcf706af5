-- What a line that a row prints says, by its table.
use Rattle.std.proofs.Common.{◌≡◌, ◌∙◌, ◌-◌, ◌≤◌, ◌<◌, ℕ, true, nat_lt, List, [], ◌∷◌, ◌++◌, length, map, Some, None, Ok, refl, ap, arith}
use Rattle.std.specs.List.{list_all}
use Rattle.std.proofs.lemmas.Bool.{and_parts}
use Rattle.std.proofs.lemmas.Bool.Decides.{nat_tests}
use Rattle.hex.specs.Hex.{is_hex_digit}
use Rattle.mt_text.specs.Number.{hex_number}
use Rattle.mt_text.proofs.Plain.{is_plain, plain_ending}
use Rattle.mt_rows.specs.declared.row.Fields.{Fields}
use Rattle.mt_rows.specs.Apart.{all_apart, apart_from}
use Rattle.mt_rows.specs.Printed.{fit, is_parted, may_follow, printed, shown}
use Rattle.mt_rows.specs.Scan.{Part, is_within, items, no_fields, read_by, scan, scanned}
use Rattle.mt_rows.proofs.Aparts.{one_row}
use Rattle.mt_rows.proofs.Prints.{printed_is_read}
use Rattle.mt_import.specs.declared.tables.Says.TheVariants.{Register}
use Rattle.mt_import.specs.Pieces.{register_in, shows_one}
use Rattle.mt_import.specs.Tables.{Row, said_in, said_or, says_of}

-- the digits of a number
pub record IsHexOf (value : ℕ) (digits : List ℕ) : Type 0 where
  pub some : 1 ≤ length digits
  pub few : length digits ≤ 16
  pub all : list_all is_hex_digit digits ≡ true
  pub is : hex_number digits ≡ Ok value

pub within : (least most size : ℕ) → least ≤ size → size ≤ most → is_within least most size ≡ true
within least most size some few = grind (arith, nat_tests, some, few)

pub small_number : (number : ℕ) → number < 0x1000 → nat_lt number 0x1000 ≡ true
small_number number small = grind (arith, nat_tests, small)

-- a plain line that a row prints
pub row_reads : (row : List Part) (line : List ℕ) (texts : List (List ℕ)) (tail : List ℕ) → list_all is_plain line ≡ true → line ≡ printed (items row) texts tail
    → is_parted (items row) ≡ true → fit (items row) texts ≡ true → may_follow (items row) tail ≡ true → scanned row line ≡ Some (shown (length line) (items row) texts tail no_fields)
row_reads row line texts tail plain is parted fits ends =
    ap (read_by row) (plain_ending line plain) ∙ ap (λ text. scan (length line) (items row) text no_fields) is
    ∙ printed_is_read (length line) (items row) texts tail no_fields parted fits ends

abbrev pub rows_of : List Row → List (List Part)
rows_of rows = map (λ (row : Row). row.0) rows

-- a line that a row reads isn't read by rows apart from it
pub no_others : (row : List Part) (others later : List Row) (number : ℕ) (line : List ℕ) (fields : Fields) → all_apart row (rows_of others) ≡ true → scanned row line ≡ Some fields
    → said_in (others ++ later) number line ≡ said_in later number line
no_others row [] later number line fields aparts read = refl
no_others row (other ∷ others) later number line fields aparts read =
    let p = and_parts (apart_from row other.0) (all_apart row (rows_of others)) aparts in
    ap (λ found. said_or other.1 number found (said_in (others ++ later) number line)) (one_row row other.0 line fields p.0 read) ∙ no_others row others later number line fields p.1 read

-- the first row that reads a line says what it says
pub first_says : (before : List Row) (row : Row) (later : List Row) (number : ℕ) (line : List ℕ) (fields : Fields) → all_apart row.0 (rows_of before) ≡ true → scanned row.0 line ≡ Some fields
    → said_in (before ++ row ∷ later) number line ≡ says_of row.1 number fields
first_says before row later number line fields aparts read =
    no_others row.0 before (row ∷ later) number line fields aparts read ∙ ap (λ found. said_or row.1 number found (said_in later number line)) read

-- a row of a register
pub register_says : (before : List Row) (row : Row) (later : List Row) (texts : List (List ℕ)) (tail : List ℕ) (number register value : ℕ) (line : List ℕ) → list_all is_plain line ≡ true → line ≡ printed (items row.0) texts tail
    → all_apart row.0 (rows_of before) ≡ true → is_parted (items row.0) ≡ true → fit (items row.0) texts ≡ true → may_follow (items row.0) tail ≡ true → row.1 ≡ Register
    → (shown (length line) (items row.0) texts tail no_fields).second_last.value ≡ register → (shown (length line) (items row.0) texts tail no_fields).last.value ≡ value → register < 0x1000
    → (column : ℕ) × (said_in (before ++ row ∷ later) number line ≡ shows_one None (Some register) (Some value) (record { line = number; column = column }))
register_says before row later texts tail number register value line plain is aparts parted fits follows says is_register is_value small =
    let fields = shown (length line) (items row.0) texts tail no_fields in (
      fields.last.column - 1,
      first_says before row later number line fields aparts (row_reads row.0 line texts tail plain is parted fits follows)
          ∙ ap (λ meaning. says_of meaning number fields) says ∙ read fields.second_last.value fields.last.value (fields.last.column - 1) is_register is_value,
    )
  where
    read : (n v column : ℕ) → n ≡ register → v ≡ value
        → shows_one None (register_in (Ok n)) (Some v) (record { line = number; column = column }) ≡ shows_one None (Some register) (Some value) (record { line = number; column = column })
    read n v column is_n is_v = rw (is_n, is_v, small_number register small) refl
