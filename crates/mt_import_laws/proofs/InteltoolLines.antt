-- What a line of inteltool is read as.
use Rattle.std.proofs.Common.{◌≡◌, ◌∙◌, ◌+◌, ◌-◌, ◌*◌, ◌/◌, ◌%◌, ◌^◌, ◌<◌, ◌≤◌, ◌==◌, nat_lt, ℕ, Bool, true, false, List, [], ◌∷◌, ◌++◌, length, drop, get_or, None, Some, refl, ap, arith, lit≤, append_assoc, append-nil, length-append, codes}
use Rattle.std.specs.List.{list_all}
use Rattle.std.specs.Fmt.{digits as decimal_digits}
use Rattle.std.proofs.lemmas.Bool.{and_parts, eqb-true}
use Rattle.std.proofs.lemmas.Bool.Decides.{nat_tests}
use Rattle.hex.specs.Hex.{upper_digits}
use Rattle.hex.proofs.HexLemmas.{IsDigits-upper_digits}
use Rattle.mt_text.specs.Text.{is_word_byte, words_of}
use Rattle.mt_text.proofs.Plain.{is_plain}
use Rattle.mt_rows.specs.declared.row.Fields.{Fields}
use Rattle.mt_rows.specs.Printed.{fit, printed, shown}
use Rattle.mt_rows.specs.Scan.{Part, items, no_fields}
use Rattle.mt_import.specs.declared.format.Format.TheVariants.{Coreboot, Edk2, Inteltool, Linux, Xen}
use Rattle.mt_import.specs.declared.inteltool.TheConstants.{INTELTOOL}
use Rattle.mt_import.specs.declared.reading.LineSays.{LineSays}
use Rattle.mt_import.specs.declared.reading.LineSays.TheVariants.{Turns}
use Rattle.mt_import.specs.declared.reading.Turn.TheVariants.{To}
use Rattle.mt_import.specs.declared.tables.Says.TheVariants.{Halves}
use Rattle.mt_import.specs.Inteltool.{inteltool_said}
use Rattle.mt_import.specs.Pieces.{shows_one}
use Rattle.mt_import.specs.Shown.{format_told, is_telling, said_of, said_or_sizes, tells}
use Rattle.mt_import.specs.Tables.{Row, rows_in, says_of}
use Rattle.mt_import_laws.specs.PrintedByInteltool.{CoresTurn, core_line, eight_digits, halves_text, is_name_byte, register_line}
use Rattle.mt_import_laws.proofs.Below.{passes}
use Rattle.mt_import_laws.proofs.PrintedDigits.{eight_all, eight_long, eight_number}
use Rattle.mt_import_laws.proofs.RowLines.{IsHexOf, first_says, row_reads, small_number, within}
use Rattle.mt_import_laws.proofs.Tells.{coreboot_by, edk2_by, linux_by, xen_by}
use Rattle.mt_import_laws.proofs.LineWords.{AreWords, IsWord, all_append, digits_are_word, length_of_pieces, line_with, pieces_plain, placed, word_append, words_of_pieces}

abbrev rows : List Row
rows = rows_in INTELTOOL

-- the parts of a register's line
abbrev parts : List Part
parts = (get_or rows 0 ([], Halves)).0

long : (value : ℕ) → length (eight_digits value) ≡ 8
long value = eight_long upper_digits IsDigits-upper_digits value

digits : (value : ℕ) → value < 2 ^ 32 → IsHexOf value (eight_digits value)
digits value fits =
    let size = long value in
    record { some = omega (arith, size); few = omega (arith, size); all = eight_all upper_digits IsDigits-upper_digits value; is = eight_number upper_digits IsDigits-upper_digits value fits }

digits_word : (value : ℕ) → IsWord (eight_digits value)
digits_word value = let size = long value in digits_are_word (eight_digits value) (omega (arith, size)) (eight_all upper_digits IsDigits-upper_digits value)

below : (half : ℕ) → half < 2 ^ 32 → nat_lt half 0x100000000 ≡ true
below half fits = grind (arith, nat_tests, fits)

-- ---- any digits

abbrev texts_of : List ℕ → List ℕ → List ℕ → List (List ℕ)
texts_of a b c = codes " " ∷ codes " " ∷ codes "x" ∷ a ∷ codes " " ∷ codes " " ∷ codes "x" ∷ b ∷ codes "x" ∷ c ∷ []

digits_fit : (register high low : ℕ) (a b c : List ℕ) → IsHexOf register a → IsHexOf high b → IsHexOf low c → length b ≡ 8 → length c ≡ 8 → fit (items parts) (texts_of a b c) ≡ true
digits_fit register high low a b c is_a is_b is_c long_b long_c =
    rw (
      is_a.all,
      within 1 16 (length a) is_a.some is_a.few,
      is_a.is,
      is_b.all,
      within 8 8 (length b) (omega (arith, long_b)) (omega (arith, long_b)),
      is_b.is,
      is_c.all,
      within 8 8 (length c) (omega (arith, long_c)) (omega (arith, long_c)),
      is_c.is,
    ) refl

digits_say : (size register high low number : ℕ) (a b c tail : List ℕ) → IsHexOf register a → IsHexOf high b → IsHexOf low c → register < 0x1000 → high < 2 ^ 32 → low < 2 ^ 32
    → (column : ℕ) × (says_of Halves number (shown size (items parts) (texts_of a b c) tail no_fields) ≡ shows_one None (Some register) (Some (high * 0x100000000 + low)) (record { line = number; column = column }))
digits_say size register high low number a b c tail is_a is_b is_c small small_high small_low =
    ((shown size (items parts) (texts_of a b c) tail no_fields).second_last.column - 1, rw (is_a.is, is_b.is, is_c.is, small_number register small, below high small_high, below low small_low) refl)

name_byte : (byte : ℕ) → is_name_byte byte ≡ true → is_plain byte ≡ true
name_byte byte is = grind (arith, nat_tests)

name_letter : (byte : ℕ) → is_name_byte byte ≡ true → is_word_byte byte ≡ true
name_letter byte is = grind (arith, nat_tests)

name_word : (name : List ℕ) → list_all is_name_byte name ≡ true → list_all is_word_byte name ≡ true
name_word [] all = refl
name_word (byte ∷ name) all =
    let parts = and_parts (is_name_byte byte) (list_all is_name_byte name) all in
    rw (name_letter byte parts.0) (name_word name parts.1)

name_plain : (name : List ℕ) → list_all is_name_byte name ≡ true → list_all is_plain name ≡ true
name_plain [] all = refl
name_plain (byte ∷ name) all =
    let parts = and_parts (is_name_byte byte) (list_all is_name_byte name) all in
    rw (name_byte byte parts.0) (name_plain name parts.1)

module _ (register value : ℕ) (name : List ℕ) (few : length name ≤ 64) (named : list_all is_name_byte name ≡ true) where
  abbrev line : List ℕ
  line = register_line register value name

  abbrev tail : List ℕ
  tail = codes " (" ++ (name ++ codes ")")

  abbrev others : List (ℕ × List ℕ)
  others = (1, codes "0x" ++ eight_digits register) ∷ (1, codes "=") ∷ (1, halves_text value) ∷ (1, codes "(" ++ (name ++ codes ")")) ∷ []

  is_pieces : line ≡ line_with ((1, codes "MSR") ∷ others) []
  is_pieces = rw (append-nil (name ++ codes ")")) refl

  are_words : AreWords ((1, codes "MSR") ∷ others)
  are_words =
      let number = digits_word register in
      let high = digits_word (value / 0x100000000) in
      let low = digits_word (value % 0x100000000) in
      let last = word_append (codes ":0x") (eight_digits (value % 0x100000000)) (lit≤ tt, refl, refl) low.1 low.2 in
      let both = word_append (eight_digits (value / 0x100000000)) (codes ":0x" ++ eight_digits (value % 0x100000000)) high last.1 last.2 in
      let closed = all_append is_word_byte name (codes ")") (name_word name named) refl in
      let plain = all_append is_plain name (codes ")") (name_plain name named) refl in (
        (lit≤ tt, refl, refl),
        (
          word_append (codes "0x") (eight_digits register) (lit≤ tt, refl, refl) number.1 number.2,
          (
            (lit≤ tt, refl, refl),
            (
              word_append (codes "0x") (eight_digits (value / 0x100000000) ++ (codes ":0x" ++ eight_digits (value % 0x100000000))) (lit≤ tt, refl, refl) both.1 both.2,
              (word_append (codes "(") (name ++ codes ")") (lit≤ tt, refl, refl) closed plain, tt),
            ),
          ),
        ),
      )

  pub line_plain : list_all is_plain line ≡ true
  line_plain = ap (list_all is_plain) is_pieces ∙ pieces_plain ((1, codes "MSR") ∷ others) [] are_words refl

  words : words_of line ≡ placed 0 ((1, codes "MSR") ∷ others) []
  words = ap words_of is_pieces ∙ words_of_pieces (1, codes "MSR") others [] are_words refl refl refl

  short : nat_lt 4096 (length line) ≡ false
  short =
      let size = ap length is_pieces ∙ length_of_pieces ((1, codes "MSR") ∷ others) [] in
      let one = long register in
      let two = long (value / 0x100000000) in
      let three = long (value % 0x100000000) in
      let four = length-append (eight_digits (value / 0x100000000)) (codes ":0x" ++ eight_digits (value % 0x100000000)) in
      let five = length-append name (codes ")") in
      low (length line) (omega (arith, size, one, two, three, four, five, few))
    where
      low : (n : ℕ) → n ≤ 200 → nat_lt 4096 n ≡ false
      low n le = grind (arith, nat_tests, le)

  is_printed : line ≡ printed (items parts) (texts_of (eight_digits register) (eight_digits (value / 0x100000000)) (eight_digits (value % 0x100000000))) tail
  is_printed =
      ap (λ (l : List ℕ). codes " MSR 0x" ++ (eight_digits register ++ (codes " = 0x" ++ l)))
      (append_assoc (eight_digits (value / 0x100000000)) (codes ":0x" ++ eight_digits (value % 0x100000000)) tail)

  -- what the line is read as, with the column of its value
  own_said : (number : ℕ) → register < 0x1000 → value < 2 ^ 64 → (column : ℕ) × (inteltool_said number line ≡ shows_one None (Some register) (Some value) (record { line = number; column = column }))
  own_said number small fits =
      let number_fits : register < 2 ^ 32 = omega (arith, small) in
      let high_fits : value / 0x100000000 < 2 ^ 32 = omega (arith, fits) in
      let low_fits : value % 0x100000000 < 2 ^ 32 = omega arith in
      let sum : value / 0x100000000 * 0x100000000 + value % 0x100000000 ≡ value = omega arith in
      let a = digits register number_fits in
      let b = digits (value / 0x100000000) high_fits in
      let c = digits (value % 0x100000000) low_fits in
      let texts = texts_of (eight_digits register) (eight_digits (value / 0x100000000)) (eight_digits (value % 0x100000000)) in
      let fields : Fields = shown (length line) (items parts) texts tail no_fields in
      let read = row_reads parts line texts tail line_plain is_printed refl (digits_fit register (value / 0x100000000) (value % 0x100000000) _ _ _ a b c (long _) (long _)) refl in
      let said = digits_say (length line) register (value / 0x100000000) (value % 0x100000000) number _ _ _ tail a b c small high_fits low_fits in
      (said.0, first_says [] (parts, Halves) (drop 1 rows) number line fields refl read ∙ said.1 ∙ ap (λ v. shows_one None (Some register) (Some v) (record { line = number; column = said.0 })) sum)

  pub register_said : register < 0x1000 → value < 2 ^ 64 → (number : ℕ) → (column : ℕ) × (said_of Inteltool number line ≡ shows_one None (Some register) (Some value) (record { line = number; column = column }))
  register_said small fits number = let said = own_said number small fits in (said.0, rw short (ap (λ s. said_or_sizes s number line) said.1))

  -- ---- the line tells the format

  pub told : (number : ℕ) → register < 0x1000 → value < 2 ^ 64 → format_told number line ≡ Some Inteltool
  unfolding tells
  told number small fits =
      let ws = placed 0 ((1, codes "MSR") ∷ others) [] in
      let xen : tells Xen number line ≡ false = xen_by number line refl ws words in
      let linux : tells Linux number line ≡ false = linux_by number line refl ws words in
      let coreboot : tells Coreboot number line ≡ false = coreboot_by number line refl ws words in
      let edk2 : tells Edk2 number line ≡ false = edk2_by number line refl ws words in
      let own : tells Inteltool number line ≡ true = ap is_telling (own_said number small fits).1 in
      rw (short, xen, linux, coreboot, edk2, own) refl

-- ---- the line of a core

abbrev pub turns_to : ℕ → LineSays → Bool
turns_to processor (Turns (To k)) = k == processor
turns_to processor said = false

pub turns_as : (processor : ℕ) (said : LineSays) → turns_to processor said ≡ true → said ≡ Turns (To processor)
turns_as processor (Turns (To k)) is = ap (λ j. Turns (To j)) (eqb-true k processor is)
turns_as processor said is = cc is

pub cores_turn : CoresTurn
unfolding decimal_digits
cores_turn = record {
  core = λ core number few. turns_as core (said_of Inteltool number (core_line core)) (passes (λ k. turns_to k (said_of Inteltool number (core_line k))) 65 core refl few);
  shared = λ number. refl;
  unread = λ number. refl;
}
