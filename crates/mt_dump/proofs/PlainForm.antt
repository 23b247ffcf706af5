-- What a dump of the plain form shows.
use Rattle.std.proofs.Common.{◌≡◌, ◌∙◌, ◌≤◌, ◌+◌, ℕ, Bool, true, false, not, ◌==◌, ◌&&◌, nat_eq, nat_le, nat_lt, List, [], ◌∷◌, length, map, Option, Some, None, Ok, refl, sym, ap, subst, arith, inl, inr}
use Rattle.std.specs.Prelude.{codes, is_ok, if◌then◌else◌}
use Rattle.std.specs.Cmp.Lexicographic.{same_text}
use Rattle.std.specs.List.{AllByRecursion, slice_split, onto_first, list_all}
use Rattle.std.specs.Option.{option_map, option_and_then}
use Rattle.std.proofs.lemmas.Bool.{cases_Bool, and_parts, eqb-true}
use Rattle.std.proofs.lemmas.Bool.Decides.{nat_tests}
use Rattle.hex.specs.Hex.{is_hex_digit}
use Rattle.mt_text.specs.Text.{is_blank, between_blanks, words_from, words_of, without_ending, lines_of}
use Rattle.mt_text.proofs.Between.{filled, texts, words_between}
use Rattle.mt_text.specs.Number.{are_digits, hex_number, hex_value, is_decimal_digit, decimal_value, decimal_number}
use Rattle.mt_text.specs.declared.place.Place.{Place}
use Rattle.mt_text.proofs.Plain.{is_plain, plain_content, digits_plain, hex_number-digits}
use Rattle.mt_regs.specs.RegisterFile.{RegisterFile, low_byte}
use Rattle.mt_regs.specs.Registers.{value_at}
use Rattle.mt_dump.specs.Line.{Reading, said_of, said_words, said_pair, said_width, said_register, is_word, place_of}
use Rattle.mt_dump.specs.Dump.{said_from, given, widths, versions, section_numbers, width_of, Shown}
use Rattle.mt_dump.specs.Dumps.{dump_of}
use Rattle.mt_dump.specs.Plain.{PlainLine, Empty, OfRegister, OfWidth, plain_number, plain_width, plain_pair, plain_line, plain_registers, plain_widths, PlainlyShown}
use Rattle.mt_dump.proofs.Stands.{one_section}
use Rattle.mt_dump.specs.declared.said.Said.{Said}
use Rattle.mt_dump.specs.declared.said.Said.TheVariants.{Nothing, Width, Register}

-- a line is plain where its words are
abbrev IsPlain : List ℕ → Type 0
IsPlain word = list_all is_plain word ≡ true

blank_plain : (byte : ℕ) → is_blank byte ≡ true → is_plain byte ≡ true
blank_plain byte blank = grind (arith, nat_tests)

plain_parts : (x : ℕ) (parts : List (List ℕ)) → AllByRecursion IsPlain (filled (onto_first x parts)) → (is_plain x ≡ true) × AllByRecursion IsPlain (filled parts)
plain_parts x [] all = ((and_parts (is_plain x) true all.0).0, tt)
plain_parts x ([] ∷ parts) all = ((and_parts (is_plain x) true all.0).0, all.1)
plain_parts x ((y ∷ ys) ∷ parts) all = let both = and_parts (is_plain x) (list_all is_plain (y ∷ ys)) all.0 in (both.0, (both.1, all.1))

plain_line_of : (line : List ℕ) → AllByRecursion IsPlain (between_blanks line) → IsPlain line
plain_line_of [] all = refl
plain_line_of (x ∷ xs) all = elim (cases_Bool (is_blank x)) [
  | inl hit ↦ rw (blank_plain x hit) (plain_line_of xs (rw hit at all))
  | inr miss ↦ let parts = plain_parts x (slice_split is_blank xs) (rw miss at all) in rw parts.0 (plain_line_of xs parts.1)
]

-- the words of a plain line, by number of words
no_words : (line : List ℕ) → between_blanks line ≡ [] → words_of line ≡ []
no_words line none = by (words_of line) (ap (words_from 0) (plain_content line (plain_line_of line (rw none tt))))
  where
    by : (words : List (ℕ × List ℕ)) → words ≡ words_from 0 line → words ≡ []
    by [] is = refl
    by (w ∷ ws) is = let e : texts (w ∷ ws) ≡ [] = ap texts is ∙ words_between 0 line ∙ none in cc e

two_words : (line name value : List ℕ) → between_blanks line ≡ name ∷ value ∷ [] → IsPlain name → IsPlain value
    → (first : ℕ) × (second : ℕ) × (words_of line ≡ (first, name) ∷ (second, value) ∷ [])
two_words line name value two plain_name plain_value =
    let plain : IsPlain line = plain_line_of line (rw two (plain_name, (plain_value, tt))) in
    by (words_of line) (ap (words_from 0) (plain_content line plain))
  where
    pair_is : (w : ℕ × List ℕ) (text : List ℕ) → w.1 ≡ text → w ≡ (w.0, text)
    pair_is (n, l) text same = ap (λ t. let p : ℕ × List ℕ = (n, t) in p) same

    by : (words : List (ℕ × List ℕ)) → words ≡ words_from 0 line → (first : ℕ) × (second : ℕ) × (words ≡ (first, name) ∷ (second, value) ∷ [])
    by words is = count words (ap texts is ∙ words_between 0 line ∙ two)
      where
        count : (words : List (ℕ × List ℕ)) → texts words ≡ name ∷ value ∷ [] → (first : ℕ) × (second : ℕ) × (words ≡ (first, name) ∷ (second, value) ∷ [])
        count [] same = cc same
        count (a ∷ []) same = cc same
        count (a ∷ b ∷ []) same =
            let name_is : a.1 ≡ name = cc same in
            let value_is : b.1 ≡ value = cc same in
            (a.0, b.0, ap (λ w. w ∷ b ∷ []) (pair_is a name name_is) ∙ ap (λ w. (a.0, name) ∷ w ∷ []) (pair_is b value value_is))
        count (a ∷ b ∷ c ∷ ws) same = cc same

-- digits
decimal_plain : (byte : ℕ) → is_decimal_digit byte ≡ true → is_plain byte ≡ true
decimal_plain byte digit = grind (arith, nat_tests)

decimals_plain : (digits : List ℕ) → list_all is_decimal_digit digits ≡ true → IsPlain digits
decimals_plain [] all = refl
decimals_plain (d ∷ ds) all = let both = and_parts (is_decimal_digit d) (list_all is_decimal_digit ds) all in rw (decimal_plain d both.0, decimals_plain ds both.1) refl

some_bytes : (word : List ℕ) → not (length word == 0) ≡ true → 1 ≤ length word
some_bytes word test = grind (arith, nat_tests)

at_most : (a b : ℕ) → nat_le a b ≡ true → a ≤ b
at_most a b test = grind (arith, nat_tests)

not_more : (a b : ℕ) → nat_le a b ≡ true → nat_lt b a ≡ false
not_more a b test = grind (arith, nat_tests)

-- a plain number is read as such
number_read : (word : List ℕ) (n : ℕ) → plain_number word ≡ Some n → (list_all is_hex_digit word ≡ true) × (hex_number word ≡ Ok n)
number_read word n is = by (are_digits is_hex_digit word) refl (nat_le (length word) 16) refl is
  where
    by : (digits : Bool) → are_digits is_hex_digit word ≡ digits → (few : Bool) → nat_le (length word) 16 ≡ few → (if digits && few then Some (hex_value word) else None) ≡ Some n → (list_all is_hex_digit word ≡ true) × (hex_number word ≡ Ok n)
    by true all true few is =
        let both = and_parts (not (length word == 0)) (list_all is_hex_digit word) all in
        let value : hex_value word ≡ n = cc is in
        (both.1, hex_number-digits word (some_bytes word both.0) (at_most (length word) 16 few) both.1 ∙ ap Ok value)
    by true all false many is = cc is
    by false other few test is = cc is

width_read : (word : List ℕ) (n : ℕ) → plain_width word ≡ Some n → (list_all is_decimal_digit word ≡ true) × (decimal_number word 52 ≡ Ok n) × (nat_lt n 32 ≡ false)
width_read word n is = by (are_digits is_decimal_digit word) refl (nat_le (length word) 20) refl (nat_le 32 (decimal_value word)) refl (nat_le (decimal_value word) 52) refl is
  where
    by : (digits : Bool) → are_digits is_decimal_digit word ≡ digits → (few : Bool) → nat_le (length word) 20 ≡ few → (wide : Bool) → nat_le 32 (decimal_value word) ≡ wide → (narrow : Bool) → nat_le (decimal_value word) 52 ≡ narrow
        → (if digits && few && wide && narrow then Some (decimal_value word) else None) ≡ Some n → (list_all is_decimal_digit word ≡ true) × (decimal_number word 52 ≡ Ok n) × (nat_lt n 32 ≡ false)
    by true all true few true wide true narrow is =
        let both = and_parts (not (length word == 0)) (list_all is_decimal_digit word) all in
        let value : decimal_value word ≡ n = cc is in
        (both.1, rw (all, not_more (length word) 20 few, not_more (decimal_value word) 52 narrow) (ap Ok value), rw value at (not_more 32 (decimal_value word) wide))
    by true all true few true wide false test is = cc is
    by true all true few false test narrow past is = cc is
    by true all false test wide past narrow later is = cc is
    by false other few test wide past narrow later is = cc is

-- no word of a plain pair ends with a colon
no_colon : (word : List ℕ) → list_all (λ b. not (b == 58)) word ≡ true → without_ending 58 word ≡ word
no_colon [] all = refl
no_colon (x ∷ []) all = by (x == 58) refl
  where
    by : (test : Bool) → (x == 58) ≡ test → without_ending 58 (x ∷ []) ≡ x ∷ []
    by true hit = cc (rw hit at all)
    by false miss = rw miss refl
no_colon (x ∷ y ∷ ys) all = ap (λ l. x ∷ l) (no_colon (y ∷ ys) (and_parts (not (x == 58)) (list_all (λ b. not (b == 58)) (y ∷ ys)) all).1)

digit_no_colon : (byte : ℕ) → is_hex_digit byte ≡ true → not (byte == 58) ≡ true
digit_no_colon byte digit = grind (arith, nat_tests)

digits_no_colon : (digits : List ℕ) → list_all is_hex_digit digits ≡ true → list_all (λ b. not (b == 58)) digits ≡ true
digits_no_colon [] all = refl
digits_no_colon (d ∷ ds) all = let both = and_parts (is_hex_digit d) (list_all is_hex_digit ds) all in rw (digit_no_colon d both.0, digits_no_colon ds both.1) refl

-- what is said at the places of the words
abbrev said_with : Place → Place → PlainLine → Said
said_with first second Empty = Nothing
said_with first second (OfRegister number value) = Register number value first second
said_with first second (OfWidth width) = Width width first second

-- 0FEH has few pairs
abbrev IsSound : PlainLine → Type 0
IsSound Empty = Unit {0}
IsSound (OfRegister number value) = number ≡ 0xfe → low_byte value ≤ 32
IsSound (OfWidth width) = Unit {0}

short : (line : List ℕ) → length line ≤ 4096 → nat_lt 4096 (length line) ≡ false
short line few = grind (arith, nat_tests)

module _ (number : ℕ) (line : List ℕ) (few : length line ≤ 4096) where
  said_nothing : words_of line ≡ [] → said_of number line ≡ Ok Nothing
  said_nothing none = rw (short line few) (ap (said_words number) none)

  said_two : (a b : ℕ) (name value : List ℕ) → words_of line ≡ (a, name) ∷ (b, value) ∷ [] → without_ending 58 name ≡ name
      → said_of number line ≡ said_pair (place_of number (a, name)) (place_of number (b, value)) name value
  said_two a b name value two bare =
      rw (short line few) (ap (said_words number) two ∙ ap (λ n. said_pair (place_of number (a, name)) (place_of number (b, value)) n value) bare)

width_said : (first second : Place) (name value : List ℕ) (w : ℕ) → is_word (codes "maxphyaddr") name ≡ true → plain_width value ≡ Some w → said_pair first second name value ≡ Ok (Width w first second)
width_said first second name value w named is =
    let read = width_read value w is in
    rw named (ap (said_width first second) read.1 ∙ rw read.2 refl)

register_test : (n v : ℕ) → (n ≡ 0xfe → low_byte v ≤ 32) → (n == 0xfe && nat_lt 32 (low_byte v)) ≡ false
register_test n v sound = by (n == 0xfe) refl (nat_lt 32 (low_byte v)) refl
  where
    by : (cap : Bool) → (n == 0xfe) ≡ cap → (many : Bool) → nat_lt 32 (low_byte v) ≡ many → (n == 0xfe && nat_lt 32 (low_byte v)) ≡ false
    by false is many test = rw is refl
    by true is false test = rw (is, test) refl
    by true is true test = let le = sound (eqb-true _ _ is) in absurd (too_many (low_byte v) test le)
      where
        too_many : (k : ℕ) → nat_lt 32 k ≡ true → k ≤ 32 → ⊥
        too_many k test le = grind (arith, nat_tests)

-- a number is no name of another line
other_digit : (byte : ℕ) → is_hex_digit byte ≡ true → (nat_eq byte 118 ≡ false) × (nat_eq byte 112 ≡ false)
other_digit byte digit = (grind (arith, nat_tests), grind (arith, nat_tests))

no_version_name : (name : List ℕ) → list_all is_hex_digit name ≡ true → is_word (codes "version") name ≡ false
no_version_name [] all = refl
no_version_name (x ∷ xs) all = rw (other_digit x (and_parts (is_hex_digit x) (list_all is_hex_digit xs) all).0).0 refl

no_section_name : (name : List ℕ) → list_all is_hex_digit name ≡ true → is_word (codes "cpu") name ≡ false
no_section_name [] all = refl
no_section_name (x ∷ []) all = by (nat_eq x 99)
  where
    by : (test : Bool) → (test && false) ≡ false
    by true = refl
    by false = refl
no_section_name (x ∷ y ∷ ys) all =
    let rest = (and_parts (is_hex_digit x) (list_all is_hex_digit (y ∷ ys)) all).1 in
    rw (other_digit y (and_parts (is_hex_digit y) (list_all is_hex_digit ys) rest).0).1 (by (nat_eq x 99))
  where
    by : (test : Bool) → (test && false) ≡ false
    by true = refl
    by false = refl

register_said : (first second : Place) (name value : List ℕ) (n v : ℕ) → is_word (codes "maxphyaddr") name ≡ false → plain_number name ≡ Some n → plain_number value ≡ Some v → (n ≡ 0xfe → low_byte v ≤ 32)
    → said_pair first second name value ≡ Ok (Register n v first second)
register_said first second name value n v other is_number is_value sound =
    let read = number_read name n is_number in
    let read_value = number_read value v is_value in
    rw (other, no_version_name name read.0, no_section_name name read.0) (ap (λ r. said_register first second r (hex_number value)) read.1 ∙ ap (said_register first second (Ok n)) read_value.1 ∙ rw (register_test n v sound) refl)

-- what a plain line says
line_said : (number : ℕ) (line : List ℕ) (told : PlainLine) → length line ≤ 4096 → plain_line (between_blanks line) ≡ Some told → IsSound told → (first : Place) × (second : Place) × (said_of number line ≡ Ok (said_with first second told))
line_said number line told few is sound = by (between_blanks line) refl is
  where
    pair : (name value : List ℕ) → between_blanks line ≡ name ∷ value ∷ [] → (named : Bool) → is_word (codes "maxphyaddr") name ≡ named → plain_pair name value ≡ Some told → (first : Place) × (second : Place) × (said_of number line ≡ Ok (said_with first second told))
    pair name value words true named is = width (plain_width value) refl (rw named at is)
      where
        width : (found : Option ℕ) → plain_width value ≡ found → option_map OfWidth found ≡ Some told → (first : Place) × (second : Place) × (said_of number line ≡ Ok (said_with first second told))
        width None none is = cc is
        width (Some w) some is =
            let name_is : name ≡ codes "maxphyaddr" = same_text name (codes "maxphyaddr") (sym named) in
            let two = two_words line name value words (rw name_is refl) (decimals_plain value (width_read value w some).0) in
            let bare : without_ending 58 name ≡ name = rw name_is refl in
            let first : Place = place_of number (two.0, name) in
            let told_is : OfWidth w ≡ told = cc is in
            let second : Place = place_of number (two.1, value) in
            (first, second, said_two number line few two.0 two.1 name value two.2 bare ∙ width_said first second name value w named some ∙ ap (λ t. Ok (said_with first second t)) told_is)
    pair name value words false other is = register (plain_number name) refl (plain_number value) refl (rw other at is)
      where
        register : (first_found : Option ℕ) → plain_number name ≡ first_found → (found : Option ℕ) → plain_number value ≡ found → option_and_then (λ n. option_map (OfRegister n) found) first_found ≡ Some told
            → (first : Place) × (second : Place) × (said_of number line ≡ Ok (said_with first second told))
        register None none found later is = cc is
        register (Some n) some None none is = cc is
        register (Some n) some (Some v) more is =
            let digits = (number_read name n some).0 in
            let two = two_words line name value words (digits_plain name digits) (digits_plain value (number_read value v more).0) in
            let bare = no_colon name (digits_no_colon name digits) in
            let first : Place = place_of number (two.0, name) in
            let told_is : OfRegister n v ≡ told = cc is in
            let fits : n ≡ 0xfe → low_byte v ≤ 32 = subst IsSound (sym told_is) sound in
            let second : Place = place_of number (two.1, value) in
            (first, second, said_two number line few two.0 two.1 name value two.2 bare ∙ register_said first second name value n v other some more fits ∙ ap (λ t. Ok (said_with first second t)) told_is)

    by : (words : List (List ℕ)) → between_blanks line ≡ words → plain_line words ≡ Some told → (first : Place) × (second : Place) × (said_of number line ≡ Ok (said_with first second told))
    by [] none is =
        let told_is : Empty ≡ told = cc is in
        let place : Place = record { line = number; column = 1 } in
        (place, place, said_nothing number line few (no_words line none) ∙ ap (λ t. Ok (said_with place place t)) told_is)
    by (name ∷ []) one is = cc is
    by (name ∷ value ∷ []) two is = pair name value two (is_word (codes "maxphyaddr") name) refl is
    by (name ∷ value ∷ third ∷ more) many is = cc is

given-told : (first second : Place) (told : PlainLine) (says : List Reading) (tells : List PlainLine) → given says ≡ plain_registers tells → given (Ok (said_with first second told) ∷ says) ≡ plain_registers (told ∷ tells)
given-told first second Empty says tells same = same
given-told first second (OfRegister number value) says tells same = ap (λ gs. let g : ℕ × ℕ = (number, value) in g ∷ gs) same
given-told first second (OfWidth width) says tells same = same

widths-told : (first second : Place) (told : PlainLine) (says : List Reading) (tells : List PlainLine) → widths says ≡ plain_widths tells → widths (Ok (said_with first second told) ∷ says) ≡ plain_widths (told ∷ tells)
widths-told first second Empty says tells same = same
widths-told first second (OfRegister number value) says tells same = same
widths-told first second (OfWidth width) says tells same = ap (λ ws. width ∷ ws) same

-- no version and no section is told
neither-told : (first second : Place) (told : PlainLine) (says : List Reading) → versions says ≡ [] → section_numbers says ≡ [] → (versions (Ok (said_with first second told) ∷ says) ≡ []) × (section_numbers (Ok (said_with first second told) ∷ says) ≡ [])
neither-told first second Empty says none zero = (none, zero)
neither-told first second (OfRegister number value) says none zero = (none, zero)
neither-told first second (OfWidth width) says none zero = (none, zero)

-- what plain lines say
record LinesSaid (says : List Reading) (tells : List PlainLine) : Type 0 where
  good : list_all is_ok says ≡ true
  gives : given says ≡ plain_registers tells
  has_widths : widths says ≡ plain_widths tells
  has_versions : versions says ≡ []
  has_sections : section_numbers says ≡ []

lines_said : (number : ℕ) (lines : List (List ℕ)) (tells : List PlainLine) → map (λ line. plain_line (between_blanks line)) lines ≡ map Some tells → AllByRecursion (λ line. length line ≤ 4096) lines → AllByRecursion IsSound tells
    → LinesSaid (said_from number lines) tells
lines_said number [] [] same few sound = record { good = refl; gives = refl; has_widths = refl; has_versions = refl; has_sections = refl }
lines_said number [] (told ∷ tells) same few sound = cc same
lines_said number (line ∷ lines) [] same few sound = cc same
lines_said number (line ∷ lines) (told ∷ tells) same few sound =
    let here : plain_line (between_blanks line) ≡ Some told = cc same in
    let rest : map (λ l. plain_line (between_blanks l)) lines ≡ map Some tells = cc same in
    let said = line_said number line told few.0 here sound.0 in
    let later = lines_said (number + 1) lines tells rest few.1 sound.1 in
    let whole : said_from number (line ∷ lines) ≡ Ok (said_with said.0 said.1 told) ∷ said_from (number + 1) lines = ap (λ r. r ∷ said_from (number + 1) lines) said.2 in
    let neither = neither-told said.0 said.1 told (said_from (number + 1) lines) later.has_versions later.has_sections in
    record {
      good = ap (list_all is_ok) whole ∙ later.good;
      gives = ap given whole ∙ given-told said.0 said.1 told (said_from (number + 1) lines) tells later.gives;
      has_widths = ap widths whole ∙ widths-told said.0 said.1 told (said_from (number + 1) lines) tells later.has_widths;
      has_versions = ap versions whole ∙ neither.0;
      has_sections = ap section_numbers whole ∙ neither.1;
    }

-- each value of 0FEH is the file's
sound_lines : (file : RegisterFile) → low_byte file.capabilities ≤ 32 → (tells : List PlainLine) → AllByRecursion (λ register. value_at file register.0 ≡ Some register.1) (plain_registers tells) → AllByRecursion IsSound tells
sound_lines file few [] values = tt
sound_lines file few (Empty ∷ tells) values = (tt, sound_lines file few tells values)
sound_lines file few (OfWidth width ∷ tells) values = (tt, sound_lines file few tells values)
sound_lines file few (OfRegister number value ∷ tells) values =
    ((λ is. let e : Some file.capabilities ≡ Some value = rw is at values.0 in let same : file.capabilities ≡ value = cc e in rw (← same) few), sound_lines file few tells values.1)

pub plainly_shown : (text : List ℕ) (file : RegisterFile) → PlainlyShown text file → AllByRecursion (λ line. length line ≤ 4096) (lines_of text) → Shown text (dump_of file)
plainly_shown text file shown few =
    let says = lines_said 1 (lines_of text) shown.lines shown.plain few (sound_lines file shown.is_file.few_pairs shown.lines shown.values) in
    one_section (said_from 1 (lines_of text)) file says.good says.has_versions says.has_sections (record {
      section = record {
        once = λ number. rw says.gives (shown.once number);
        one_width = rw says.has_widths shown.one_width;
        values = rw says.gives shown.values;
        defaults = λ number none. shown.defaults number (rw says.gives at none);
        is_file = shown.is_file;
      };
      capabilities = (shown.capabilities.0, says.gives ∙ shown.capabilities.1);
      width = shown.width ∙ ap width_of (sym says.has_widths);
    })
