-- What a line of x86info is read as.
use Rattle.std.proofs.Common.{◌≡◌, ◌∙◌, ◌+◌, ◌*◌, ◌^◌, ◌<◌, ◌≤◌, ◌==◌, nat_lt, ℕ, suc, Bool, true, false, List, [], ◌∷◌, ◌++◌, length, drop, take, get_or, map, Some, None, refl, sym, ap, inl, inr, arith, lit≤, append_assoc, length-append, codes, decimal}
use Rattle.std.specs.Fmt.{digits}
use Rattle.std.specs.Prelude.{if◌then◌else◌}
use Rattle.std.specs.List.{AllByRecursion, list_all}
use Rattle.std.proofs.lemmas.Bool.{and_parts}
use Rattle.std.proofs.lemmas.Bool.Decides.{nat_tests}
use Rattle.hex.specs.Hex.{lower_digits}
use Rattle.hex.proofs.HexLemmas.{IsDigits-lower_digits}
use Rattle.mt_text.specs.Text.{goes_on, is_word_byte, words_from, words_of}
use Rattle.mt_text.specs.Words.{place_of, text_of}
use Rattle.mt_text.specs.declared.place.Place.{Place}
use Rattle.mt_text.proofs.Plain.{is_plain}
use Rattle.mt_dump.specs.Canon.{value_text}
use Rattle.mt_rows.specs.declared.row.Kind.TheVariants.{Blank, Mark}
use Rattle.mt_rows.specs.declared.row.Run.TheVariants as run
use Rattle.mt_rows.specs.Printed.{fit, shown}
use Rattle.mt_rows.specs.Scan.{Part, has, is_end, is_within, items, no_fields}
use Rattle.mt_import.specs.Warnings.{warning_in}
use Rattle.mt_import.specs.declared.format.Format.TheVariants.{Coreboot, Edk2, Inteltool, Linux, X86info, Xen}
use Rattle.mt_import.specs.declared.inteltool.TheConstants.{INTELTOOL}
use Rattle.mt_import.specs.declared.reading.LineSays.{LineSays}
use Rattle.mt_import.specs.declared.reading.LineSays.TheVariants.{Nothing, Width}
use Rattle.mt_import.specs.declared.tables.Says.TheVariants.{TurnToUnread}
use Rattle.mt_import.specs.declared.x86info.TheConstants.{X86INFO}
use Rattle.mt_import.specs.LineWords.{behind_stamp, is_iso, kernel_end}
use Rattle.mt_import.specs.Linux.{linux_words_said}
use Rattle.mt_import.specs.Pieces.{is_text, shows_one, shows_width}
use Rattle.mt_import.specs.Shown.{first_said, format_told, is_telling, said_of, said_or_sizes, tells, unmarked, warns_or}
use Rattle.mt_import.specs.Tables.{Row, each_said, rows_in}
use Rattle.mt_import.specs.X86info.{sizes_by_words, x86info_said}
use Rattle.mt_import_laws.specs.FirstLine.{IsOfNoHost}
use Rattle.mt_import_laws.specs.Printed.{Key, number_at}
use Rattle.mt_import_laws.specs.PrintedByInteltool.{AreNames, Names, is_name_byte}
use Rattle.mt_import_laws.specs.PrintedByRdmsr.{hex_text}
use Rattle.mt_import_laws.specs.PrintedByX86info.{behind_names, is_bare, is_field_byte, number_text, size_line}
use Rattle.mt_import_laws.proofs.Foreign.{and_left, and_right, if_nothing, if_off, kernel_none, linux_none, log_front}
use Rattle.mt_import_laws.proofs.HexDigits.{hex_alone, hex_digits, hex_short, hex_some}
use Rattle.mt_import_laws.proofs.KeyLines.{low}
use Rattle.mt_import_laws.proofs.Keys.{IsKey}
use Rattle.mt_import_laws.proofs.LineWords.{AreWords, IsWord, all_append, are_apart, digits_are_word, length_of_pieces, line_with, pieces_plain, placed, size_of, word_append, words_of_pieces}
use Rattle.mt_import_laws.proofs.PrintedDigits.{sixteen_all, sixteen_long, sixteen_number}
use Rattle.mt_import_laws.proofs.Decimals.{decimals}
use Rattle.mt_import_laws.proofs.RowLines.{IsHexOf, no_others, register_says, row_reads, within}
use Rattle.mt_import_laws.proofs.Tells.{coreboot_by, edk2_by, linux_by, no_utf16, xen_by}

-- ---- fields

field_plain : (byte : ℕ) → is_field_byte byte ≡ true → is_plain byte ≡ true
field_plain byte is = grind (arith, nat_tests)

fields_plain : (fields : List ℕ) → list_all is_field_byte fields ≡ true → list_all is_plain fields ≡ true
fields_plain [] all = refl
fields_plain (byte ∷ fields) all =
    let parts = and_parts (is_field_byte byte) (list_all is_field_byte fields) all in
    rw (field_plain byte parts.0) (fields_plain fields parts.1)

-- ---- a number

module _ (number : ℕ) (small : number < 0x1000) where
  fits_64 : number < 2 ^ 64
  fits_64 = omega (arith, small)

  number_hex : IsHexOf number (hex_text number)
  number_hex = record { some = hex_some number; few = hex_short number fits_64; all = hex_digits number; is = hex_alone number fits_64 }

  number_word : (bare : Bool) → IsWord (number_text bare number)
  number_word true =
      let word = digits_are_word (hex_text number) (hex_some number) (hex_digits number) in
      let closed = word_append (hex_text number) (codes ":") word refl refl in
      word_append (codes "0x") (hex_text number ++ codes ":") (lit≤ tt, refl, refl) closed.1 closed.2
  number_word false =
      let word = digits_are_word (hex_text number) (hex_some number) (hex_digits number) in
      let closed = word_append (hex_text number) (codes "):") word refl refl in
      word_append (codes "(0x") (hex_text number ++ codes "):") (lit≤ tt, refl, refl) closed.1 closed.2

  number_short : (bare : Bool) → length (number_text bare number) ≤ 21
  number_short true = let size = length-append (hex_text number) (codes ":") in let few = hex_short number fits_64 in omega (arith, size, few)
  number_short false = let size = length-append (hex_text number) (codes "):") in let few = hex_short number fits_64 in omega (arith, size, few)

-- in front of what follows
abbrev opened : Bool → List ℕ → List ℕ → List ℕ
opened true digits rest = codes "0x" ++ (digits ++ (codes ":" ++ rest))
opened false digits rest = codes "(0x" ++ (digits ++ (codes "):" ++ rest))

is_opened : (bare : Bool) (number : ℕ) (rest : List ℕ) → number_text bare number ++ rest ≡ opened bare (hex_text number) rest
is_opened true number rest = ap (λ (l : List ℕ). codes "0x" ++ l) (append_assoc (hex_text number) (codes ":") rest)
is_opened false number rest = ap (λ (l : List ℕ). codes "(0x" ++ l) (append_assoc (hex_text number) (codes "):") rest)

-- ---- a value

value_long : (value : ℕ) → length (value_text value) ≡ 16
value_long value = sixteen_long lower_digits IsDigits-lower_digits value

value_word : (value : ℕ) → IsWord (codes "0x" ++ value_text value)
value_word value =
    let size = value_long value in
    let word = digits_are_word (value_text value) (omega (arith, size)) (sixteen_all lower_digits IsDigits-lower_digits value) in
    word_append (codes "0x") (value_text value) (lit≤ tt, refl, refl) word.1 word.2

value_hex : (value : ℕ) → value < 2 ^ 64 → IsHexOf value (value_text value)
value_hex value fits =
    let size = value_long value in
    record { some = omega (arith, size); few = omega (arith, size); all = sixteen_all lower_digits IsDigits-lower_digits value; is = sixteen_number lower_digits IsDigits-lower_digits value fits }

-- ---- a name

name_byte : (byte : ℕ) → is_name_byte byte ≡ true → (is_word_byte byte ≡ true) × (is_plain byte ≡ true)
name_byte byte is = (grind (arith, nat_tests), grind (arith, nat_tests))

pub name_bytes : (name : List ℕ) → list_all is_name_byte name ≡ true → (list_all is_word_byte name ≡ true) × (list_all is_plain name ≡ true)
name_bytes [] all = (refl, refl)
name_bytes (byte ∷ name) all =
    let parts = and_parts (is_name_byte byte) (list_all is_name_byte name) all in
    let here = name_byte byte parts.0 in
    let later = name_bytes name parts.1 in
    (rw here.0 later.0, rw here.1 later.1)

-- ---- the rows, by any texts

abbrev rows : List Row
rows = rows_in X86INFO

abbrev row_at : ℕ → Row
row_at i = get_or rows i ([], TurnToUnread)

-- a name or a number that isn't read
record IsMarks (least : ℕ) (text : List ℕ) : Type 0 where
  some : least ≤ length text
  few : length text ≤ 4096
  all : list_all (has Mark) text ≡ true

mark : (byte : ℕ) → is_word_byte byte ≡ true → is_plain byte ≡ true → has Mark byte ≡ true
mark byte word plain = grind (arith, nat_tests, word, plain)

marks : (text : List ℕ) → list_all is_word_byte text ≡ true → list_all is_plain text ≡ true → list_all (has Mark) text ≡ true
marks [] words plain = refl
marks (byte ∷ text) words plain =
    let w = and_parts (is_word_byte byte) (list_all is_word_byte text) words in
    let p = and_parts (is_plain byte) (list_all is_plain text) plain in
    rw (mark byte w.0 p.0) (marks text w.1 p.1)

-- names and numbers that aren't read, each in front of what follows
abbrev before_it : List (List ℕ × List ℕ) → List ℕ → List ℕ
before_it [] rest = rest
before_it (pair ∷ pairs) rest = codes "MTRR" ++ (pair.0 ++ (codes " " ++ (pair.1 ++ (codes " " ++ before_it pairs rest))))

abbrev AreUnread : List (List ℕ × List ℕ) → Type 0
AreUnread = AllByRecursion (λ pair. IsMarks 0 pair.0 × IsMarks 1 pair.1)

module _ (digits value_digits name tail : List ℕ) (register value number : ℕ) (is_register : IsHexOf register digits) (is_value : IsHexOf value value_digits) (long : length value_digits ≡ 16) (small : register < 0x1000)
    (named : IsMarks 0 name) (ends : is_end tail ≡ true) (line : List ℕ) (plain : list_all is_plain line ≡ true) where
  abbrev Read : Type 0
  Read = (column : ℕ) × (x86info_said number line ≡ shows_one None (Some register) (Some value) (record { line = number; column = column }))

  abbrev own_texts : List (List ℕ)
  own_texts = name ∷ codes " " ∷ codes "x" ∷ digits ∷ codes " " ∷ codes "x" ∷ value_digits ∷ []

  own_fit : fit (items (drop 1 (row_at 2).0)) own_texts ≡ true
  own_fit =
      rw (
        named.all,
        within 0 4096 (length name) named.some named.few,
        is_register.all,
        within 1 16 (length digits) is_register.some is_register.few,
        is_register.is,
        is_value.all,
        within 16 16 (length value_digits) (omega (arith, long)) (omega (arith, long)),
        is_value.is,
      ) refl

  unread_within : (pair : List ℕ × List ℕ) → IsMarks 0 pair.0 × IsMarks 1 pair.1 → (is_within 0 4096 (length pair.0) ≡ true) × (is_within 1 4096 (length pair.1) ≡ true)
  unread_within pair are = (within 0 4096 (length pair.0) are.0.some are.0.few, within 1 4096 (length pair.1) are.1.some are.1.few)

  read : (pairs : List (List ℕ × List ℕ)) → AreUnread pairs → length pairs ≤ 2 → (bare : Bool)
      → line ≡ before_it pairs (codes "MTRR" ++ (name ++ (codes " " ++ opened bare digits (codes " 0x" ++ (value_digits ++ tail))))) → Read
  read [] are few false is =
      register_says (take 2 rows) (row_at 2) (drop 3 rows) ([] ∷ own_texts) tail number register value line plain is refl refl
      own_fit ends refl
      (rw (is_register.is, is_value.is) refl) (rw (is_register.is, is_value.is) refl) small
  read [] are few true is =
      register_says (take 3 rows) (row_at 3) (drop 4 rows) ([] ∷ own_texts) tail number register value line plain is refl refl
      own_fit ends refl
      (rw (is_register.is, is_value.is) refl) (rw (is_register.is, is_value.is) refl) small
  read (a ∷ []) are few false is =
      let w = unread_within a are.0 in
      register_says (take 4 rows) (row_at 4) (drop 5 rows) ([] ∷ a.0 ∷ codes " " ∷ a.1 ∷ codes " " ∷ own_texts) tail number register value line plain is refl refl
      (rw (are.0.0.all, w.0, are.0.1.all, w.1) own_fit) ends refl
      (rw (is_register.is, is_value.is) refl) (rw (is_register.is, is_value.is) refl) small
  read (a ∷ []) are few true is =
      let w = unread_within a are.0 in
      register_says (take 5 rows) (row_at 5) (drop 6 rows) ([] ∷ a.0 ∷ codes " " ∷ a.1 ∷ codes " " ∷ own_texts) tail number register value line plain is refl refl
      (rw (are.0.0.all, w.0, are.0.1.all, w.1) own_fit) ends refl
      (rw (is_register.is, is_value.is) refl) (rw (is_register.is, is_value.is) refl) small
  read (a ∷ b ∷ []) are few false is =
      let v = unread_within a are.0 in
      let w = unread_within b are.1.0 in
      register_says (take 6 rows) (row_at 6) (drop 7 rows) ([] ∷ a.0 ∷ codes " " ∷ a.1 ∷ codes " " ∷ b.0 ∷ codes " " ∷ b.1 ∷ codes " " ∷ own_texts) tail number register value line plain is refl refl
      (rw (are.0.0.all, v.0, are.0.1.all, v.1, are.1.0.0.all, w.0, are.1.0.1.all, w.1) own_fit) ends refl
      (rw (is_register.is, is_value.is) refl) (rw (is_register.is, is_value.is) refl) small
  read (a ∷ b ∷ []) are few true is =
      let v = unread_within a are.0 in
      let w = unread_within b are.1.0 in
      register_says (take 7 rows) (row_at 7) [] ([] ∷ a.0 ∷ codes " " ∷ a.1 ∷ codes " " ∷ b.0 ∷ codes " " ∷ b.1 ∷ codes " " ∷ own_texts) tail number register value line plain is refl refl
      (rw (are.0.0.all, v.0, are.0.1.all, v.1, are.1.0.0.all, w.0, are.1.0.1.all, w.1) own_fit) ends refl
      (rw (is_register.is, is_value.is) refl) (rw (is_register.is, is_value.is) refl) small
  read (a ∷ b ∷ c ∷ pairs) are few bare is = absurd (omega (arith, few))

-- the line of more names than two
abbrev unread : List Part
unread = one (one (one ((codes "MTRR", run.Of Mark 0 4096) ∷ [])))
  where
    one : List Part → List Part
    one parts = (codes "MTRR", run.Of Mark 0 4096) ∷ ([], run.Of Blank 1 4096) ∷ ([], run.Of Mark 1 4096) ∷ ([], run.Of Blank 1 4096) ∷ parts

unread_said : (a b c : List ℕ × List ℕ) (name tail : List ℕ) (number : ℕ) (line : List ℕ) → AreUnread (a ∷ b ∷ c ∷ []) → IsMarks 0 name → is_end tail ≡ true → list_all is_plain line ≡ true
    → line ≡ before_it (a ∷ b ∷ c ∷ []) (codes "MTRR" ++ (name ++ tail)) → x86info_said number line ≡ Nothing
unread_said a b c name tail number line are named ends plain is =
    let texts = a.0 ∷ codes " " ∷ a.1 ∷ codes " " ∷ b.0 ∷ codes " " ∷ b.1 ∷ codes " " ∷ c.0 ∷ codes " " ∷ c.1 ∷ codes " " ∷ name ∷ [] in
    let fits : fit (items unread) texts ≡ true =
    rw (
      are.0.0.all,
      within 0 4096 (length a.0) are.0.0.some are.0.0.few,
      are.0.1.all,
      within 1 4096 (length a.1) are.0.1.some are.0.1.few,
      are.1.0.0.all,
      within 0 4096 (length b.0) are.1.0.0.some are.1.0.0.few,
      are.1.0.1.all,
      within 1 4096 (length b.1) are.1.0.1.some are.1.0.1.few,
      are.1.1.0.0.all,
      within 0 4096 (length c.0) are.1.1.0.0.some are.1.1.0.0.few,
      are.1.1.0.1.all,
      within 1 4096 (length c.1) are.1.1.0.1.some are.1.1.0.1.few,
      named.all,
      within 0 4096 (length name) named.some named.few,
    ) refl in
    no_others unread rows [] number line (shown (length line) (items unread) texts tail no_fields) refl (row_reads unread line texts tail plain is refl fits ends)

-- ---- a line

-- what words say in each format
abbrev said_in_each_of : ℕ → List (ℕ × List ℕ) → LineSays → LineSays
said_in_each_of number words other = warns_or (warning_in (drop (kernel_end words) words)) number (first_said (sizes_by_words number (take 7 words)) other)

-- a name and a number warn of nothing, also where the name is taken as a date
no_warning : (date bare : Bool) (name : List ℕ) (register first second : ℕ) (others : List (ℕ × List ℕ))
    → warning_in (drop (behind_stamp (if date then 1 else 0) ((first, codes "MTRR" ++ name) ∷ (second, number_text bare register) ∷ others)) ((first, codes "MTRR" ++ name) ∷ (second, number_text bare register) ∷ others)) ≡ None
no_warning true true name register first second others = refl
no_warning true false name register first second others = refl
no_warning false true name register first second others = refl
no_warning false false name register first second others = refl

within_limit : (n : ℕ) → n ≤ 4000 → nat_lt 4096 n ≡ false
within_limit n le = grind (arith, nat_tests, le)

module _ (names : Names) (are : AreNames names) (key : Key) (is_key : IsKey key) (value : ℕ) (tail : List ℕ) (few : length tail ≤ 200) (ends : goes_on tail ≡ false) (all : list_all is_field_byte tail ≡ true) where
  abbrev name_of : Key → List ℕ
  name_of k = codes "MTRR" ++ names k

  abbrev number_of : Key → List ℕ
  number_of k = number_text (is_bare k) (number_at k)

  -- the first of these registers and this one
  abbrev head : List Key → Key
  head [] = key
  head (k ∷ ks) = k

  abbrev later : List Key → List (ℕ × List ℕ)
  later [] = (1, number_of key) ∷ (1, codes "0x" ++ value_text value) ∷ []
  later (k ∷ ks) = (1, number_of k) ∷ (1, name_of (head ks)) ∷ later ks

  abbrev first : List Key → ℕ × List ℕ
  first ks = (0, name_of (head ks))

  abbrev text : List Key → List ℕ
  text ks = behind_names names ks key (codes "0x" ++ (value_text value ++ tail))

  spaced : (ks : List Key) → line_with ((1, name_of (head ks)) ∷ later ks) tail ≡ 32 ∷ text ks
  spaced [] = refl
  spaced (k ∷ ks) = ap (λ rest. 32 ∷ (name_of k ++ (32 ∷ (number_of k ++ rest)))) (spaced ks)

  is_line : (ks : List Key) → text ks ≡ line_with (first ks ∷ later ks) tail
  is_line [] = refl
  is_line (k ∷ ks) = sym (ap (λ rest. name_of k ++ (32 ∷ (number_of k ++ rest))) (spaced ks))

  abbrev AreKeys : List Key → Type 0
  AreKeys = AllByRecursion IsKey

  name_word : (k : Key) → IsWord (name_of k)
  name_word k = let bytes = name_bytes (names k) (are k).1 in word_append (codes "MTRR") (names k) (lit≤ tt, refl, refl) bytes.0 bytes.1

  later_words : (ks : List Key) → AreKeys ks → AreWords (later ks)
  later_words [] keys = (number_word (number_at key) (low key is_key) (is_bare key), (value_word value, tt))
  later_words (k ∷ ks) keys = (number_word (number_at k) (low k keys.0) (is_bare k), (name_word (head ks), later_words ks keys.1))

  later_apart : (ks : List Key) → are_apart (later ks) ≡ true
  later_apart [] = refl
  later_apart (k ∷ ks) = later_apart ks

  later_size : (ks : List Key) → AreKeys ks → size_of (later ks) ≤ 100 * (length ks + 1)
  later_size [] keys = let one = number_short (number_at key) (low key is_key) (is_bare key) in let two = value_long value in omega (arith, one, two)
  later_size (k ∷ ks) keys =
      let one = number_short (number_at k) (low k keys.0) (is_bare k) in
      let two = (are (head ks)).0 in
      let three = later_size ks keys.1 in
      omega (arith, one, two, three)

  module _ (ks : List Key) (keys : AreKeys ks) (size : length ks ≤ 30) where
    text_words : AreWords (first ks ∷ later ks)
    text_words = (name_word (head ks), later_words ks keys)

    pub text_plain : list_all is_plain (text ks) ≡ true
    text_plain = ap (list_all is_plain) (is_line ks) ∙ pieces_plain (first ks ∷ later ks) tail text_words (fields_plain tail all)

    short : nat_lt 4096 (length (text ks)) ≡ false
    short =
        let one = ap length (is_line ks) ∙ length_of_pieces (first ks ∷ later ks) tail in
        let two = later_size ks keys in
        let three = (are (head ks)).0 in
        within_limit (length (text ks)) (omega (arith, one, two, three, few, size))

    words : words_of (text ks) ≡ placed 0 (first ks ∷ later ks) tail
    words = ap words_of (is_line ks) ∙ words_of_pieces (first ks) (later ks) tail text_words (later_apart ks) ends (fields_plain tail all)

    text_unmarked : (ks : List Key) → unmarked (text ks) ≡ text ks
    text_unmarked [] = refl
    text_unmarked (k ∷ ks) = refl

    read_as : (number : ℕ) (said : LineSays) → x86info_said number (text ks) ≡ said → said_or_sizes said number (text ks) ≡ said → said_of X86info number (text ks) ≡ said
    read_as number said by same = rw short (ap (λ l. said_or_sizes (x86info_said number l) number l) (text_unmarked ks) ∙ ap (λ s. said_or_sizes s number (text ks)) by ∙ same)

  -- ---- behind two names at most the register is read

  abbrev pair : Key → List ℕ × List ℕ
  pair k = (names k, number_of k)

  name_marks : (k : Key) → IsMarks 0 (names k)
  name_marks k =
      let bytes = name_bytes (names k) (are k).1 in
      let size = (are k).0 in
      record { some = omega arith; few = omega (arith, size); all = marks (names k) bytes.0 bytes.1 }

  unread_pair : (k : Key) → IsKey k → IsMarks 0 (names k) × IsMarks 1 (number_of k)
  unread_pair k is =
      let word = number_word (number_at k) (low k is) (is_bare k) in
      let size = number_short (number_at k) (low k is) (is_bare k) in
      (name_marks k, record { some = word.0; few = omega (arith, size); all = marks (number_of k) word.1 word.2 })

  unread_pairs : (ks : List Key) → AreKeys ks → AreUnread (map pair ks)
  unread_pairs [] keys = tt
  unread_pairs (k ∷ ks) keys = (unread_pair k keys.0, unread_pairs ks keys.1)

  is_before : (ks : List Key) → text ks ≡ before_it (map pair ks) (codes "MTRR" ++ (names key ++ (codes " " ++ opened (is_bare key) (hex_text (number_at key)) (codes " 0x" ++ (value_text value ++ tail)))))
  is_before [] = ap (λ (l : List ℕ). codes "MTRR" ++ (names key ++ (codes " " ++ l))) (is_opened (is_bare key) (number_at key) (codes " 0x" ++ (value_text value ++ tail)))
  is_before (k ∷ ks) = ap (λ (l : List ℕ). codes "MTRR" ++ (names k ++ (codes " " ++ (number_of k ++ (codes " " ++ l))))) (is_before ks)

  ends_row : (rest : List ℕ) → goes_on rest ≡ false → is_end rest ≡ true
  ends_row [] none = refl
  ends_row (byte ∷ rest) none = grind (arith, nat_tests, none)

  pairs_long : (ks : List Key) → length (map pair ks) ≡ length ks
  pairs_long [] = refl
  pairs_long (k ∷ ks) = let later = pairs_long ks in omega (arith, later)

  own_said : (ks : List Key) → AreKeys ks → length ks ≤ 2 → (number : ℕ) → value < 2 ^ 64
      → (column : ℕ) × (x86info_said number (text ks) ≡ shows_one None (Some (number_at key)) (Some value) (record { line = number; column = column }))
  own_said ks keys two number fits =
      let small = low key is_key in
      let size = pairs_long ks in
      read (hex_text (number_at key)) (value_text value) (names key) tail (number_at key) value number (number_hex (number_at key) small) (value_hex value fits) (value_long value) small
      (name_marks key) (ends_row tail ends) (text ks) (text_plain ks keys (omega (arith, two))) (map pair ks) (unread_pairs ks keys) (omega (arith, size, two)) (is_bare key) (is_before ks)

  pub register_said : (ks : List Key) → AreKeys ks → length ks ≤ 2 → (number : ℕ) → value < 2 ^ 64
      → (column : ℕ) × (said_of X86info number (text ks) ≡ shows_one None (Some (number_at key)) (Some value) (record { line = number; column = column }))
  register_said ks keys two number fits =
      let said = own_said ks keys two number fits in
      (said.0, read_as ks keys (omega (arith, two)) number (shows_one None (Some (number_at key)) (Some value) (record { line = number; column = said.0 })) said.1 refl)

  -- ---- behind more it isn't

  -- what stands behind the first name
  abbrev behind_first : List Key → List ℕ
  behind_first [] = codes " " ++ (number_of key ++ (codes " 0x" ++ (value_text value ++ tail)))
  behind_first (k ∷ ks) = codes " " ++ (number_of k ++ (codes " " ++ text ks))

  is_named : (ks : List Key) → text ks ≡ codes "MTRR" ++ (names (head ks) ++ behind_first ks)
  is_named [] = refl
  is_named (k ∷ ks) = refl

  is_blank_behind : (ks : List Key) → is_end (behind_first ks) ≡ true
  is_blank_behind [] = refl
  is_blank_behind (k ∷ ks) = refl

  pub nothing_said : (ks : List Key) → AreKeys ks → 2 < length ks → length ks ≤ 30 → (number : ℕ) → said_of X86info number (text ks) ≡ Nothing
  nothing_said [] keys more size number = absurd (omega (arith, more))
  nothing_said (k ∷ []) keys more size number = absurd (omega (arith, more))
  nothing_said (k ∷ l ∷ []) keys more size number = absurd (omega (arith, more))
  nothing_said (k ∷ l ∷ m ∷ ks) keys more size number =
      read_as (k ∷ l ∷ m ∷ ks) keys size number Nothing
      (unread_said (pair k) (pair l) (pair m) (names (head ks)) (behind_first ks) number (text (k ∷ l ∷ m ∷ ks)) (unread_pair k keys.0, (unread_pair l keys.1.0, (unread_pair m keys.1.1.0, tt)))
      (name_marks (head ks)) (is_blank_behind ks) (text_plain (k ∷ l ∷ m ∷ ks) keys size) (ap (before_it (pair k ∷ pair l ∷ pair m ∷ [])) (is_named ks)))
      (ap (λ ws. said_in_each_of number ws (each_said number (text (k ∷ l ∷ m ∷ ks)))) (words (k ∷ l ∷ m ∷ ks) keys size)
      ∙ ap (λ warns. warns_or warns number (first_said (sizes_by_words number (take 7 (placed 0 (first (k ∷ l ∷ m ∷ ks) ∷ later (k ∷ l ∷ m ∷ ks)) tail))) (each_said number (text (k ∷ l ∷ m ∷ ks))))) (no_warning (is_iso (name_of k)) (is_bare k) (names k) (number_at k) 0 (0 + 0 + length (name_of k) + 1)
      (placed (0 + 0 + length (name_of k) + 1 + length (number_of k)) ((1, name_of l) ∷ later (l ∷ m ∷ ks)) tail))
      ∙ no_utf16 number 77 (drop 1 (text (k ∷ l ∷ m ∷ ks))) (text_plain (k ∷ l ∷ m ∷ ks) keys size) refl refl)

-- ---- the line of 0FEH tells the format

module _ (names : Names) (are : AreNames names) (value : ℕ) (tail : List ℕ) (few : length tail ≤ 200) (ends : goes_on tail ≡ false) (all : list_all is_field_byte tail ≡ true) where
  abbrev line : List ℕ
  line = text names are None tt value tail few ends all []

  -- its words, of which the first may be taken as a date
  abbrev name : List ℕ
  name = codes "MTRR" ++ names None

  abbrev behind_name : List (ℕ × List ℕ)
  behind_name = placed (0 + 0 + length name) ((1, number_text false 0xfe) ∷ (1, codes "0x" ++ value_text value) ∷ []) tail

  abbrev line_words : List (ℕ × List ℕ)
  line_words = (0, name) ∷ behind_name

  found_words : words_of line ≡ line_words
  found_words = words names are None tt value tail few ends all [] tt (lit≤ tt)

  not_linux : (number : ℕ) → linux_words_said number line_words ≡ Nothing
  not_linux number = linux_none number line_words refl refl refl refl refl (kernel_none number line_words false refl refl (inl (longer (length (words_from _ tail)))) refl)
    where
      longer : (n : ℕ) → (suc (suc (suc n)) == 2) ≡ false
      longer n = grind (arith, nat_tests)

  not_linux_dated : (number : ℕ) → linux_words_said number behind_name ≡ Nothing
  unfolding digits
  not_linux_dated number = linux_none number behind_name refl refl refl refl refl (kernel_none number behind_name false (if_nothing _ _ _ refl refl) refl (inr refl) refl)

  no_linux : (number : ℕ) → IsOfNoHost line → tells Linux number line ≡ false
  no_linux number host =
      let third = ap (λ ws. is_text (codes "kernel:") (text_of ws 2)) (sym found_words) ∙ host.third in
      let fifth = ap (λ ws. is_text (codes "kernel:") (text_of ws 4)) (sym found_words) ∙ host.fifth in
      linux_by number line refl line_words found_words
      ∙ ap (λ at. is_telling (linux_words_said number (drop (behind_stamp at line_words) line_words))) (log_front line_words third fifth)
      ∙ by (is_iso name)
    where
      by : (date : Bool) → is_telling (linux_words_said number (drop (behind_stamp (if date then 1 else 0) line_words) line_words)) ≡ false
      by true = ap is_telling (not_linux_dated number)
      by false = ap is_telling (not_linux number)

  no_coreboot : (number : ℕ) → tells Coreboot number line ≡ false
  no_coreboot number = coreboot_by number line refl line_words found_words ∙ ap is_telling (if_nothing _ _ _ refl refl)

  no_edk2 : (number : ℕ) → tells Edk2 number line ≡ false
  no_edk2 number = edk2_by number line refl line_words found_words ∙ ap is_telling (if_nothing _ _ _ refl (if_off _ _ _ (and_left _ _ (and_right _ _ refl)) refl))

  own : (number : ℕ) → value < 2 ^ 64 → tells X86info number line ≡ true
  unfolding tells
  own number fits = ap is_telling (own_said names are None tt value tail few ends all [] tt (lit≤ tt) number fits).1

  -- The row that reads it is apart from those of inteltool.
  no_inteltool : (number : ℕ) → tells Inteltool number line ≡ false
  unfolding tells
  no_inteltool number =
      let unread = unread_pair names are None tt value tail few ends all None tt in
      let size = unread.1.few in
      let texts = names None ∷ codes " " ∷ drop 1 (number_text false 0xfe) ∷ [] in
      let front : List Part = (codes "MTRR", run.Of Mark 0 4096) ∷ ([], run.Of Blank 1 4096) ∷ (codes "(", run.Of Mark 0 4096) ∷ [] in
      let behind = codes " 0x" ++ (value_text value ++ tail) in
      let fits : fit (items front) texts ≡ true =
      rw (unread.0.all, within 0 4096 (length (names None)) unread.0.some unread.0.few, unread.1.all, within 0 4096 (length (drop 1 (number_text false 0xfe))) (omega arith) (omega (arith, size))) refl in
      ap is_telling (no_others front (rows_in INTELTOOL) [] number line (shown (length line) (items front) texts behind no_fields) refl
      (row_reads front line texts behind (text_plain names are None tt value tail few ends all [] tt (lit≤ tt)) refl refl fits refl))

  pub told : (number : ℕ) → value < 2 ^ 64 → IsOfNoHost line → format_told number line ≡ Some X86info
  told number fits host =
      let xen : tells Xen number line ≡ false = xen_by number line refl line_words found_words in
      rw (short names are None tt value tail few ends all [] tt (lit≤ tt), xen, no_linux number host, no_coreboot number, no_edk2 number, no_inteltool number, own number fits) refl

-- ---- the line on sizes

decimal_word : (n : ℕ) → n < 65 → IsWord (decimal n)
decimal_word n few = let is = decimals n few in digits_are_word (decimal n) is.some is.all

module _ (width virtual : ℕ) (wide : width < 65) (few : virtual < 65) where
  abbrev size_others : List (ℕ × List ℕ)
  size_others = (1, codes "sizes") ∷ (1, codes ":") ∷ (1, decimal width) ∷ (1, codes "bits") ∷ (1, codes "physical,") ∷ []

  abbrev size_rest : List ℕ
  size_rest = codes " " ++ (decimal virtual ++ codes " bits virtual")

  size_words : AreWords ((0, codes "Address") ∷ size_others)
  size_words = ((lit≤ tt, refl, refl), ((lit≤ tt, refl, refl), ((lit≤ tt, refl, refl), (decimal_word width wide, ((lit≤ tt, refl, refl), ((lit≤ tt, refl, refl), tt))))))

  rest_plain : list_all is_plain size_rest ≡ true
  rest_plain = all_append is_plain (decimal virtual) (codes " bits virtual") (decimal_word virtual few).2 refl

  pub size_plain : list_all is_plain (size_line width virtual) ≡ true
  size_plain = pieces_plain ((0, codes "Address") ∷ size_others) size_rest size_words rest_plain

  size_short : nat_lt 4096 (length (size_line width virtual)) ≡ false
  size_short =
      let size = length_of_pieces ((0, codes "Address") ∷ size_others) size_rest in
      let more = length-append (decimal virtual) (codes " bits virtual") in
      within_limit (length (size_line width virtual)) (omega (arith, size, more, (decimals width wide).short, (decimals virtual few).short))

  size_found : words_of (size_line width virtual) ≡ placed 0 ((0, codes "Address") ∷ size_others) size_rest
  size_found = words_of_pieces (0, codes "Address") size_others size_rest size_words refl refl rest_plain

  pub size_place : ℕ → Place
  size_place number = place_of number (take 7 (placed 0 ((0, codes "Address") ∷ size_others) size_rest)) 3

  pub size_said : (number : ℕ) → said_of X86info number (size_line width virtual) ≡ Width width (size_place number)
  unfolding size_place
  size_said number =
      let front : List Part = (codes "Address", run.Nothing) ∷ [] in
      let behind = codes " sizes : " ++ (decimal width ++ (codes " bits physical, " ++ (decimal virtual ++ codes " bits virtual"))) in
      let own : x86info_said number (size_line width virtual) ≡ Nothing =
      no_others front rows [] number (size_line width virtual) no_fields refl (row_reads front (size_line width virtual) [] behind size_plain refl refl refl refl) in
      rw size_short
      (ap (λ s. said_or_sizes s number (size_line width virtual)) own
      ∙ ap (λ ws. said_in_each_of number ws (each_said number (size_line width virtual))) size_found
      ∙ ap (λ r. first_said (shows_width r (size_place number)) (each_said number (size_line width virtual))) ((decimals width wide).read 255 (omega (arith, wide))))
