-- The canonical text and what it says.
use Rattle.std.proofs.Common.{◌≡◌, ◌∙◌, ◌+◌, ◌-◌, ◌*◌, ◌/◌, ◌%◌, ◌^◌, ◌<◌, ◌≤◌, ℕ, suc, zero, Bool, true, false, ◌==◌, ◌&&◌, nat_lt, nat_eq, List, [], ◌∷◌, ◌++◌, length, Some, None, Ok, Err, refl, sym, ap, arith, slice_index}
use Rattle.std.specs.Prelude.{codes, if◌then◌else◌}
use Rattle.std.specs.List.{slice_get, list_all, AllByRecursion}
use Rattle.std.specs.Option.{option_map, option_and_then}
use Rattle.std.specs.Int.{to_be_bytes, w64}
use Rattle.std.proofs.lemmas.Option.{slice_get-map}
use Rattle.std.proofs.lemmas.Nat.{from_be_bytes-to_be_bytes_8}
use Rattle.std.proofs.Math.Nat.{div-add-mod, mod-lt, mul-suc}
use Rattle.std.proofs.lemmas.List.{length-map}
use Rattle.std.proofs.lemmas.Bool.{and_parts, eqb-true}
use Rattle.std.proofs.lemmas.Bool.Decides.{nat_tests}
use Rattle.hex.proofs.HexLemmas.{length-encode_with}
use Rattle.hex.specs.Hex.{lower_digits, is_hex_digit, hex_digit_value, IsBytes}
use Rattle.mt_text.specs.Text.{words_of, words_from, without_ending, is_word_byte}
use Rattle.mt_text.specs.Number.{hex_number, hex_value, decimal_number, is_decimal_digit}
use Rattle.mt_text.proofs.Digits.{encoded_value, encoded_digits, digit_value, from_be_bytes-fold}
use Rattle.mt_text.proofs.Plain.{is_plain, plain_content, two_words_from, digits_plain, digits_word, hex_number-digits}
use Rattle.mt_regs.specs.RegisterFile.{RegisterFile, blank_file, low_byte}
use Rattle.mt_regs.specs.Registers.{number_of, value_of, writable}
use Rattle.mt_dump.specs.Dumps.{Dump, IsDump, first_file}
use Rattle.mt_dump.specs.Line.{said_of, said_words, said_pair, said_register, said_width, is_word, fault_at, place_of}
use Rattle.mt_text.specs.declared.place.Place.{Place}
use Rattle.mt_dump.specs.declared.fault.DumpReason.TheVariants.{TooManyPairs}
use Rattle.mt_dump.specs.declared.said.Said.TheVariants.{Section, Width, Register}
use Rattle.mt_dump.specs.Canon.{width_line, number_text, value_text, register_line, file_lines, section_line, section_lines}

-- the lines by their numbers
pub first_line : (file : RegisterFile) → slice_get (file_lines file) 0 ≡ Some (width_line file.width)
first_line file = refl

pub second_line : (file : RegisterFile) → slice_get (file_lines file) 1 ≡ Some (register_line 0xfe file.capabilities)
second_line file = refl

pub later_line : (file : RegisterFile) (line : ℕ) → 2 ≤ line → slice_get (file_lines file) line ≡ option_map (λ register. register_line (number_of register) (value_of file register)) (slice_get (writable file) (line - 2))
later_line file zero past = absurd (omega arith)
later_line file (suc zero) past = absurd (omega arith)
later_line file (suc (suc line)) past =
    let e : suc (suc line) - 2 ≡ line = omega arith in
    rw e (slice_get-map (λ register. register_line (number_of register) (value_of file register)) (writable file) line)

-- the digits of a value
value_fits : (value : ℕ) → IsBytes (to_be_bytes w64 value)
value_fits value zero = omega arith
value_fits value (suc zero) = omega arith
value_fits value (suc (suc zero)) = omega arith
value_fits value (suc (suc (suc zero))) = omega arith
value_fits value (suc (suc (suc (suc zero)))) = omega arith
value_fits value (suc (suc (suc (suc (suc zero))))) = omega arith
value_fits value (suc (suc (suc (suc (suc (suc zero)))))) = omega arith
value_fits value (suc (suc (suc (suc (suc (suc (suc zero))))))) = omega arith
value_fits value (suc (suc (suc (suc (suc (suc (suc (suc i)))))))) = omega arith

pub value_digits : (value : ℕ) → list_all is_hex_digit (value_text value) ≡ true
value_digits value = encoded_digits (to_be_bytes w64 value) (value_fits value)

pub value_length : (value : ℕ) → length (value_text value) ≡ 16
value_length value = length-encode_with lower_digits (to_be_bytes w64 value)

pub value_read : (value : ℕ) → value < 2 ^ 64 → hex_number (value_text value) ≡ Ok value
value_read value small =
    let size = value_length value in
    hex_number-digits (value_text value) (omega arith) (omega arith) (value_digits value)
    ∙ ap Ok (encoded_value (to_be_bytes w64 value) (value_fits value) ∙ sym (from_be_bytes-fold (to_be_bytes w64 value) refl) ∙ from_be_bytes-to_be_bytes_8 value small)

-- the digits of a number
module _ (number : ℕ) (small : number < 0x1000) where
  high : hex_digit_value (slice_index lower_digits (number / 256)) ≡ Some (number / 256)
  high = digit_value (number / 256) (omega arith)

  middle : hex_digit_value (slice_index lower_digits (number / 16 % 16)) ≡ Some (number / 16 % 16)
  middle = digit_value (number / 16 % 16) (omega arith)

  low : hex_digit_value (slice_index lower_digits (number % 16)) ≡ Some (number % 16)
  low = digit_value (number % 16) (omega arith)

  number_digits : list_all is_hex_digit (number_text number) ≡ true
  number_digits = rw (high, middle, low) refl

  number_read : hex_number (number_text number) ≡ Ok number
  number_read =
      let sum : ((0 * 16 + number / 256) * 16 + number / 16 % 16) * 16 + number % 16 ≡ number = omega arith in
      let value : hex_value (number_text number) ≡ number = rw (high, middle, low) sum in
      hex_number-digits (number_text number) (omega arith) (omega arith) number_digits ∙ ap Ok value

  digit_test : (digit : ℕ) → is_hex_digit digit ≡ true → ((digit == 58) ≡ false) × (nat_eq digit 109 ≡ false) × (nat_eq digit 118 ≡ false) × (nat_eq digit 112 ≡ false)
  digit_test digit is = (grind (arith, nat_tests), grind (arith, nat_tests), grind (arith, nat_tests), grind (arith, nat_tests))

  no_colon : without_ending 58 (number_text number) ≡ number_text number
  no_colon = rw (digit_test (slice_index lower_digits (number % 16)) (rw low refl)).0 refl

  no_width_name : is_word (codes "maxphyaddr") (number_text number) ≡ false
  no_width_name = rw (digit_test (slice_index lower_digits (number / 256)) (rw high refl)).1 refl

  no_version_name : is_word (codes "version") (number_text number) ≡ false
  no_version_name = rw (digit_test (slice_index lower_digits (number / 256)) (rw high refl)).2 refl

  no_section_name : is_word (codes "cpu") (number_text number) ≡ false
  no_section_name = by (nat_eq (slice_index lower_digits (number / 256)) 99) (nat_eq (slice_index lower_digits (number / 16 % 16)) 112) (digit_test (slice_index lower_digits (number / 16 % 16)) (rw middle refl)).3
    where
      by : (first second : Bool) → second ≡ false → (first && (second && (nat_eq (slice_index lower_digits (number % 16)) 117 && true))) ≡ false
      by true second is = rw is refl
      by false second is = refl

pub all_append : (p : ℕ → Bool) (xs ys : List ℕ) → list_all p xs ≡ true → list_all p ys ≡ true → list_all p (xs ++ ys) ≡ true
all_append p [] ys all later = later
all_append p (x ∷ xs) ys all later = let parts = and_parts (p x) (list_all p xs) all in rw parts.0 (all_append p xs ys parts.1 later)

pub register_plain : (number value : ℕ) → number < 0x1000 → list_all is_plain (register_line number value) ≡ true
register_plain number value small =
    all_append is_plain (number_text number) (32 ∷ value_text value) (digits_plain (number_text number) (number_digits number small)) (digits_plain (value_text value) (value_digits value))

said_short : (line : ℕ) (text : List ℕ) → nat_lt 4096 (length text) ≡ false → said_of line text ≡ said_words line (words_of text)
said_short line text short = rw short refl

said_numbers : (first second : Place) (name text : List ℕ) (number value : ℕ) → is_word (codes "maxphyaddr") name ≡ false → is_word (codes "version") name ≡ false → is_word (codes "cpu") name ≡ false → hex_number name ≡ Ok number → hex_number text ≡ Ok value
    → said_pair first second name text ≡ said_register first second (Ok number) (Ok value)
said_numbers first second name text number value no_width no_version no_section is_number is_value = rw (no_width, no_version, no_section, is_number, is_value) refl

pub register_said : (line number value : ℕ) → number < 0x1000 → value < 2 ^ 64 → (number ≡ 0xfe → low_byte value ≤ 32)
    → said_of line (register_line number value) ≡ Ok (Register number value (record { line = line; column = 1 }) (record { line = line; column = 5 }))
register_said line number value small fits few =
    let size = value_length value in
    let short : nat_lt 4096 (length (register_line number value)) ≡ false = ap (λ n. nat_lt 4096 (suc (suc (suc (suc n))))) size in
    let words : words_of (register_line number value) ≡ (0, number_text number) ∷ (4, value_text value) ∷ [] =
    ap (words_from 0) (plain_content (register_line number value) (register_plain number value small))
    ∙ two_words_from 0 (number_text number) (value_text value) (omega arith) (omega arith) (digits_word (number_text number) (number_digits number small)) (digits_word (value_text value) (value_digits value)) in
    let first : Place = place_of line (0, number_text number) in
    let second : Place = place_of line (4, value_text value) in
    said_short line (register_line number value) short ∙ ap (said_words line) words ∙ ap (λ name. said_pair first second name (value_text value)) (no_colon number small)
    ∙ said_numbers first second (number_text number) (value_text value) number value (no_width_name number small) (no_version_name number small) (no_section_name number small) (number_read number small) (value_read value fits)
    ∙ by (number == 0xfe) (nat_lt 32 (low_byte value)) refl refl
  where
    by : (cap many : Bool) → (number == 0xfe) ≡ cap → nat_lt 32 (low_byte value) ≡ many
        → (if cap && many then Err (fault_at TooManyPairs (place_of line (4, value_text value))) else Ok (Register number value (place_of line (0, number_text number)) (place_of line (4, value_text value)))) ≡ Ok (Register number value (record { line = line; column = 1 }) (record { line = line; column = 5 }))
    by false many is test = refl
    by true false is test = refl
    by true true is test = let le = few (eqb-true _ _ is) in absurd (too_many (low_byte value) test le)
      where
        too_many : (n : ℕ) → nat_lt 32 n ≡ true → n ≤ 32 → ⊥
        too_many n test le = grind (arith, nat_tests)

-- the line of the width
abbrev width_name : List ℕ
width_name = 109 ∷ 97 ∷ 120 ∷ 112 ∷ 104 ∷ 121 ∷ 97 ∷ 100 ∷ 100 ∷ 114 ∷ []

digit_of_width : (digit : ℕ) → digit < 10 → (is_plain (48 + digit) ≡ true) × (is_word_byte (48 + digit) ≡ true) × (is_decimal_digit (48 + digit) ≡ true)
digit_of_width digit small = (grind (arith, nat_tests), grind (arith, nat_tests), grind (arith, nat_tests))

pub width_said : (line width : ℕ) → 32 ≤ width → width ≤ 52 → said_of line (width_line width) ≡ Ok (Width width (record { line = line; column = 1 }) (record { line = line; column = 12 }))
width_said line width wide narrow =
    let a = digit_of_width (width / 10) (omega arith) in
    let b = digit_of_width (width % 10) (omega arith) in
    let digits : List ℕ = (48 + width / 10) ∷ (48 + width % 10) ∷ [] in
    let plain : list_all is_plain (width_line width) ≡ true = rw (a.0, b.0) refl in
    let words : words_of (width_line width) ≡ (0, width_name) ∷ (11, digits) ∷ [] =
    ap (words_from 0) (plain_content (width_line width) plain) ∙ two_words_from 0 width_name digits (omega arith) (omega arith) refl (rw (a.1, b.1) refl) in
    let sum : (0 * 10 + (48 + width / 10 - 48)) * 10 + (48 + width % 10 - 48) ≡ width = omega arith in
    let few : nat_lt 52 width ≡ false = at_most width 52 narrow in
    let many : nat_lt width 32 ≡ false = at_most 32 width wide in
    let read : decimal_number digits 52 ≡ Ok width = rw (a.2, b.2, sum, few) refl in
    said_short line (width_line width) refl ∙ ap (said_words line) words ∙ ap (said_width (place_of line (0, width_name)) (place_of line (11, digits))) read ∙ rw many refl
  where
    at_most : (n limit : ℕ) → n ≤ limit → nat_lt limit n ≡ false
    at_most n limit le = grind (arith, nat_tests)

pub width_plain : (width : ℕ) → 32 ≤ width → width ≤ 52 → list_all is_plain (width_line width) ≡ true
width_plain width wide narrow =
    let a = digit_of_width (width / 10) (omega arith) in
    let b = digit_of_width (width % 10) (omega arith) in
    rw (a.0, b.0) refl

-- the line of a section
pub section_said : (line number : ℕ) → number < 16 → said_of line (section_line number) ≡ Ok (Section number (record { line = line; column = 1 }))
section_said line zero few = refl
section_said line (suc zero) few = refl
section_said line (suc (suc zero)) few = refl
section_said line (suc (suc (suc zero))) few = refl
section_said line (suc (suc (suc (suc zero)))) few = refl
section_said line (suc (suc (suc (suc (suc zero))))) few = refl
section_said line (suc (suc (suc (suc (suc (suc zero)))))) few = refl
section_said line (suc (suc (suc (suc (suc (suc (suc zero))))))) few = refl
section_said line (suc (suc (suc (suc (suc (suc (suc (suc zero)))))))) few = refl
section_said line (suc (suc (suc (suc (suc (suc (suc (suc (suc zero))))))))) few = refl
section_said line (suc (suc (suc (suc (suc (suc (suc (suc (suc (suc zero)))))))))) few = refl
section_said line (suc (suc (suc (suc (suc (suc (suc (suc (suc (suc (suc zero))))))))))) few = refl
section_said line (suc (suc (suc (suc (suc (suc (suc (suc (suc (suc (suc (suc zero)))))))))))) few = refl
section_said line (suc (suc (suc (suc (suc (suc (suc (suc (suc (suc (suc (suc (suc zero))))))))))))) few = refl
section_said line (suc (suc (suc (suc (suc (suc (suc (suc (suc (suc (suc (suc (suc (suc zero)))))))))))))) few = refl
section_said line (suc (suc (suc (suc (suc (suc (suc (suc (suc (suc (suc (suc (suc (suc (suc zero))))))))))))))) few = refl
section_said line (suc (suc (suc (suc (suc (suc (suc (suc (suc (suc (suc (suc (suc (suc (suc (suc n)))))))))))))))) few = absurd (omega arith)

pub section_plain : (number : ℕ) → number < 16 → list_all is_plain (section_line number) ≡ true
section_plain zero few = refl
section_plain (suc zero) few = refl
section_plain (suc (suc zero)) few = refl
section_plain (suc (suc (suc zero))) few = refl
section_plain (suc (suc (suc (suc zero)))) few = refl
section_plain (suc (suc (suc (suc (suc zero))))) few = refl
section_plain (suc (suc (suc (suc (suc (suc zero)))))) few = refl
section_plain (suc (suc (suc (suc (suc (suc (suc zero))))))) few = refl
section_plain (suc (suc (suc (suc (suc (suc (suc (suc zero)))))))) few = refl
section_plain (suc (suc (suc (suc (suc (suc (suc (suc (suc zero))))))))) few = refl
section_plain (suc (suc (suc (suc (suc (suc (suc (suc (suc (suc zero)))))))))) few = refl
section_plain (suc (suc (suc (suc (suc (suc (suc (suc (suc (suc (suc zero))))))))))) few = refl
section_plain (suc (suc (suc (suc (suc (suc (suc (suc (suc (suc (suc (suc zero)))))))))))) few = refl
section_plain (suc (suc (suc (suc (suc (suc (suc (suc (suc (suc (suc (suc (suc zero))))))))))))) few = refl
section_plain (suc (suc (suc (suc (suc (suc (suc (suc (suc (suc (suc (suc (suc (suc zero)))))))))))))) few = refl
section_plain (suc (suc (suc (suc (suc (suc (suc (suc (suc (suc (suc (suc (suc (suc (suc zero))))))))))))))) few = refl
section_plain (suc (suc (suc (suc (suc (suc (suc (suc (suc (suc (suc (suc (suc (suc (suc (suc n)))))))))))))))) few = absurd (omega arith)

-- ---- the sections' lines by their numbers

get_front : (xs ys : List (List ℕ)) (i : ℕ) → i < length xs → slice_get (xs ++ ys) i ≡ slice_get xs i
get_front [] ys i less = absurd (omega arith)
get_front (x ∷ xs) ys zero less = refl
get_front (x ∷ xs) ys (suc i) less = get_front xs ys i (omega arith)

get_behind : (xs ys : List (List ℕ)) (i k : ℕ) → k ≡ length xs + i → slice_get (xs ++ ys) k ≡ slice_get ys i
get_behind [] ys i k is = let e : k ≡ i = omega (arith, is) in ap (slice_get ys) e
get_behind (x ∷ xs) ys i zero is = absurd (omega (arith, is))
get_behind (x ∷ xs) ys i (suc k) is = get_behind xs ys i k (omega (arith, is))

-- each file has so many lines with its section's
abbrev pub HaveLines : ℕ → List RegisterFile → Type 0
HaveLines count files = AllByRecursion (λ file. length (file_lines file) + 1 ≡ count) files

pub section_at : (number count : ℕ) (files : List RegisterFile) (place rest : ℕ) → HaveLines count files → rest < count
    → slice_get (section_lines number files) (count * place + rest) ≡ option_and_then (λ file. slice_get (section_line (number + place) ∷ file_lines file) rest) (slice_get files place)
section_at number count [] place rest have less = refl
section_at number count (file ∷ files) zero rest have less =
    let at : count * 0 + rest ≡ rest = omega arith in
    let own : number ≡ number + 0 = omega arith in
    ap (slice_get (section_lines number (file ∷ files))) at ∙ get_front (section_line number ∷ file_lines file) (section_lines (number + 1) files) rest (let e = have.0 in omega (arith, e)) ∙ ap (λ n. slice_get (section_line n ∷ file_lines file) rest) own
section_at number count (file ∷ files) (suc place) rest have less =
    let at : count * suc place + rest ≡ length (section_line number ∷ file_lines file) + (count * place + rest) = more count place rest (length (file_lines file)) have.0 in
    let next : number + 1 + place ≡ number + suc place = omega arith in
    get_behind (section_line number ∷ file_lines file) (section_lines (number + 1) files) (count * place + rest) (count * suc place + rest) at ∙ section_at (number + 1) count files place rest have.1 less
    ∙ ap (λ n. option_and_then (λ file. slice_get (section_line n ∷ file_lines file) rest) (slice_get files place)) next
  where
    more : (c p r l : ℕ) → l + 1 ≡ c → c * suc p + r ≡ suc l + (c * p + r)
    more c p r l is = let step : c * suc p ≡ c * p + c = mul-suc c p in omega (arith, is, step)

pub have_lines : (first : RegisterFile) (files : List RegisterFile) → AllByRecursion (λ file. file.capabilities ≡ first.capabilities) files → HaveLines (length (writable first) + 3) files
have_lines first [] same = tt
have_lines first (file ∷ files) same =
    let count : length (writable file) ≡ length (writable first) = ap (λ c. length (writable (blank_file 36 c))) same.0 in
    let lines : length (file_lines file) ≡ length (writable file) + 2 = let e = length-map (writable file) (λ register. register_line (number_of register) (value_of file register)) in omega (arith, e) in
    (omega (arith, count, lines), have_lines first files same.1)

-- a line of the sections
pub section_line_at : (first : RegisterFile) (files : List RegisterFile) (line : ℕ) → AllByRecursion (λ file. file.capabilities ≡ first.capabilities) files
    → slice_get (section_lines 0 files) line ≡ option_and_then (λ file. slice_get (section_line (line / (length (writable first) + 3)) ∷ file_lines file) (line % (length (writable first) + 3))) (slice_get files (line / (length (writable first) + 3)))
section_line_at first files line same =
    ap (slice_get (section_lines 0 files)) (sym (div-add-mod line (length (writable first) + 3)))
    ∙ section_at 0 (length (writable first) + 3) files (line / (length (writable first) + 3)) (line % (length (writable first) + 3)) (have_lines first files same) (mod-lt line {m = length (writable first) + 3} (omega arith))
    ∙ ap (λ n. option_and_then (λ file. slice_get (section_line n ∷ file_lines file) (line % (length (writable first) + 3))) (slice_get files (line / (length (writable first) + 3)))) (zero-add (line / (length (writable first) + 3)))
  where
    zero-add : (n : ℕ) → 0 + n ≡ n
    zero-add n = omega arith

pub no_section_line : (dump : Dump) (line count : ℕ) → IsDump dump → count ≡ length (writable (first_file dump)) → slice_get dump.files (line / (count + 3)) ≡ None → slice_get (section_lines 0 dump.files) line ≡ None
no_section_line dump line count is counted none =
    section_line_at (first_file dump) dump.files line is.one_capabilities
    ∙ ap (option_and_then (λ file. slice_get (section_line (line / (length (writable (first_file dump)) + 3)) ∷ file_lines file) (line % (length (writable (first_file dump)) + 3)))) (ap (λ c. slice_get dump.files (line / (c + 3))) (sym counted) ∙ none)

pub some_section_line : (dump : Dump) (line count : ℕ) (file : RegisterFile) → IsDump dump → count ≡ length (writable (first_file dump)) → slice_get dump.files (line / (count + 3)) ≡ Some file
    → slice_get (section_lines 0 dump.files) line ≡ slice_get (section_line (line / (count + 3)) ∷ file_lines file) (line % (count + 3))
some_section_line dump line count file is counted some =
    section_line_at (first_file dump) dump.files line is.one_capabilities
    ∙ ap (λ c. option_and_then (λ file. slice_get (section_line (line / (c + 3)) ∷ file_lines file) (line % (c + 3))) (slice_get dump.files (line / (c + 3)))) (sym counted)
    ∙ ap (option_and_then (λ file. slice_get (section_line (line / (count + 3)) ∷ file_lines file) (line % (count + 3)))) some
