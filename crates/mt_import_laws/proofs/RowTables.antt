-- What is printed by a line for each register reads back, if a row of its format reads the line.
use Rattle.std.proofs.Common.{◌≡◌, ◌∙◌, ◌+◌, ◌*◌, ◌/◌, ◌%◌, ◌^◌, ◌<◌, ◌≤◌, nat_lt, ℕ, true, false, List, [], ◌∷◌, ◌++◌, length, drop, get_or, ◌==◌, Option, None, Some, refl, ap, arith, inl, unwrap_or, append-nil, length-append, codes}
use Rattle.std.specs.List.{list_all}
use Rattle.std.proofs.lemmas.Bool.Decides.{nat_tests}
use Rattle.hex.specs.Hex.{lower_digits, upper_digits}
use Rattle.hex.proofs.HexLemmas.{IsDigits-lower_digits, IsDigits-upper_digits}
use Rattle.mt_ports.specs.Causes.{one_more}
use Rattle.mt_text.specs.Text.{is_too_long}
use Rattle.mt_text.specs.declared.place.Place.{Place}
use Rattle.mt_text.proofs.Plain.{digits_plain, is_plain}
use Rattle.mt_regs.specs.RegisterFile.{RegisterFile}
use Rattle.mt_rows.specs.Printed.{fit, is_parted, may_follow, printed, shown}
use Rattle.mt_rows.specs.Scan.{items, no_fields}
use Rattle.mt_import.specs.declared.format.Format.{Format}
use Rattle.mt_import.specs.declared.format.Format.TheVariants.{Chipsec, Windbg}
use Rattle.mt_import.specs.declared.chipsec.TheConstants.{CHIPSEC}
use Rattle.mt_import.specs.declared.windbg.TheConstants.{WINDBG}
use Rattle.mt_import.specs.declared.tables.Says.TheVariants.{BareHalves, OfProcessor}
use Rattle.mt_import.specs.Pieces.{shows_one}
use Rattle.mt_import.specs.Shown.{is_telling, said_by_line, said_of, said_or_sizes, unmarked}
use Rattle.mt_import.specs.Supplied.{Supplied}
use Rattle.mt_import.specs.Tables.{Row, rows_in, said_in, says_of}
use Rattle.mt_import_laws.specs.Origins.{IsAmong}
use Rattle.mt_import_laws.specs.Printed.{Key, TableReadsBack, number_at, value_in}
use Rattle.mt_import_laws.specs.PrintedByEdk2.{sixteen_digits}
use Rattle.mt_import_laws.specs.PrintedByInteltool.{eight_digits}
use Rattle.mt_import_laws.specs.PrintedByRdmsr.{SuitsRdmsr, hex_text}
use Rattle.mt_import_laws.specs.PrintedByRows.{chipsec_line, lines_by, low_digits, windbg_line}
use Rattle.mt_import_laws.proofs.Among.{all_map}
use Rattle.mt_import_laws.proofs.HexDigits.{hex_alone, hex_digits, hex_short, hex_some}
use Rattle.mt_import.specs.Census.{place_of}
use Rattle.mt_import.specs.Shown.{format_told}
use Rattle.mt_import_laws.specs.FirstLine.{takes}
use Rattle.mt_import_laws.proofs.Taken.{all_stay, takes_printed}
use Rattle.mt_import_laws.proofs.KeyLines.{keys_show, keys_stay, ShowsAlone, all_keys, among_all, has_line, in_file, lines_true, low}
use Rattle.mt_import_laws.proofs.Keys.{IsKey}
use Rattle.mt_import_laws.proofs.LineWords.{all_append}
use Rattle.mt_import_laws.proofs.PrintedBack.{IsInFile, fits, key_in_file, table_back}
use Rattle.mt_import_laws.proofs.PrintedDigits.{eight_all, eight_long, eight_number, sixteen_all, sixteen_long, sixteen_number}
use Rattle.mt_import_laws.proofs.RowLines.{IsHexOf, first_says, row_reads, small_number, within}

-- ---- any format

-- A line of a format shows a register of processor 0.
pub record PrintsOne (format : Format) (register value : ℕ) (line : List ℕ) : Type 0 where
  plain : list_all is_plain line ≡ true
  processor : Option ℕ
  own : unwrap_or processor 0 ≡ 0
  place : ℕ → Place
  said : (number : ℕ) → said_of format number line ≡ shows_one processor (Some register) (Some value) (place number)

-- The first row of a format reads the line.
row_said : (format : Format) (row : Row) (later : List Row) (texts : List (List ℕ)) (tail line : List ℕ) → list_all is_plain line ≡ true → is_too_long line ≡ false → unmarked line ≡ line
    → ((number : ℕ) → said_by_line format number line ≡ said_in (row ∷ later) number line) → line ≡ printed (items row.0) texts tail
    → is_parted (items row.0) ≡ true → fit (items row.0) texts ≡ true → may_follow (items row.0) tail ≡ true
    → (processor register value : Option ℕ) (place : Place) (number : ℕ) → says_of row.1 number (shown (length line) (items row.0) texts tail no_fields) ≡ shows_one processor register value place
    → said_or_sizes (shows_one processor register value place) number line ≡ shows_one processor register value place
    → said_of format number line ≡ shows_one processor register value place
row_said format row later texts tail line plain short own by is parted fits follows processor register value place number says same =
    let read = row_reads row.0 line texts tail plain is parted fits follows in
    rw short
    (ap (λ l. said_or_sizes (said_by_line format number l) number l) own
    ∙ ap (λ s. said_or_sizes s number line) (by number ∙ first_says [] row later number line (shown (length line) (items row.0) texts tail no_fields) refl read ∙ says)
    ∙ same)

module _ (format : Format) (line_of : ℕ → ℕ → List ℕ) (each : (register value : ℕ) → register < 0x1000 → value < 2 ^ 64 → PrintsOne format register value (line_of register value))
    (file : RegisterFile) (supplied : Supplied) (suits : SuitsRdmsr file supplied) where
  inside : (key : Key) → IsAmong key (all_keys file) → IsInFile file key
  inside key among = in_file file key suits.is_file among

  are_keys : (key : Key) → IsAmong key (all_keys file) → IsKey key
  are_keys key among = key_in_file file key suits.is_file (inside key among)

  all_fit : (key : Key) → IsAmong key (all_keys file) → value_in file key < 2 ^ 64
  all_fit key among = fits file key suits.is_file suits.has_words (inside key among)

  one : (key : Key) → IsAmong key (all_keys file) → PrintsOne format (number_at key) (value_in file key) (line_of (number_at key) (value_in file key))
  one key among = each (number_at key) (value_in file key) (low key (are_keys key among)) (all_fit key among)

  abbrev line_at : Key → List ℕ
  line_at key = line_of (number_at key) (value_in file key)

  shows : (key : Key) → IsAmong key (all_keys file) → ShowsAlone 0 file format key (line_at key)
  shows key among = let prints = one key among in record { processor = prints.processor; own = prints.own; place = prints.place; said = prints.said }

  lines_back : TableReadsBack format (lines_by line_of file) supplied file
  lines_back =
      table_back file format (lines_by line_of file) supplied suits.is_file suits.has_words suits.agrees (inl suits.width)
      (record {
        each = lines_true 0 file format line_at (all_keys file) are_keys all_fit shows;
        all = λ key there. inl (has_line 0 file format line_at (all_keys file) are_keys all_fit shows key (among_all file key suits.is_file there));
      })
      (all_map (λ line. list_all is_plain line ≡ true) line_at (all_keys file) (λ key among. (one key among).plain))

  pub rows_taken : (place_of format == 9) ≡ false → format_told 1 (line_at None) ≡ Some format → takes (lines_by line_of file) ≡ Some format
  rows_taken last told =
      let show = keys_show 0 file format line_at (all_keys file) are_keys all_fit shows None (inl refl) 1 in
      let stay = keys_stay 0 file format line_at (all_keys file) are_keys all_fit shows in
      takes_printed format last (lines_by line_of file) 1 (inl (told, show.0, show.1, all_stay format 1 _ stay.1))

-- ---- digits

is_hex : (value : ℕ) → value < 2 ^ 64 → IsHexOf value (hex_text value)
is_hex value fits = record { some = hex_some value; few = hex_short value fits; all = hex_digits value; is = hex_alone value fits }

is_eight : (value : ℕ) → value < 2 ^ 32 → IsHexOf value (low_digits value)
is_eight value fits =
    let size = eight_long lower_digits IsDigits-lower_digits value in
    record { some = omega (arith, size); few = omega (arith, size); all = eight_all lower_digits IsDigits-lower_digits value; is = eight_number lower_digits IsDigits-lower_digits value fits }

is_sixteen : (value : ℕ) → value < 2 ^ 64 → IsHexOf value (sixteen_digits value)
is_sixteen value fits =
    let size = sixteen_long upper_digits IsDigits-upper_digits value in
    record { some = omega (arith, size); few = omega (arith, size); all = sixteen_all upper_digits IsDigits-upper_digits value; is = sixteen_number upper_digits IsDigits-upper_digits value fits }

upper_plain : (value : ℕ) → list_all is_plain (eight_digits value) ≡ true
upper_plain value = digits_plain (eight_digits value) (eight_all upper_digits IsDigits-upper_digits value)

within_limit : (n : ℕ) → n ≤ 200 → nat_lt 4096 n ≡ false
within_limit n le = grind (arith, nat_tests, le)

below : (half : ℕ) → half < 2 ^ 32 → nat_lt half 0x100000000 ≡ true
below half fits = grind (arith, nat_tests, fits)

-- ---- WinDbg

abbrev windbg_row : Row
windbg_row = get_or (rows_in WINDBG) 0 ([], BareHalves)

abbrev windbg_texts : List ℕ → List ℕ → List ℕ → List (List ℕ)
windbg_texts a b c = [] ∷ a ∷ codes " " ∷ codes " " ∷ b ∷ c ∷ []

windbg_fit : (register high low : ℕ) (a b c : List ℕ) → IsHexOf register a → IsHexOf high b → IsHexOf low c → length b ≡ 8 → length c ≡ 8 → fit (items windbg_row.0) (windbg_texts a b c) ≡ true
windbg_fit register high low a b c is_a is_b is_c long_b long_c =
    rw (
      is_a.all,
      within 1 16 (length a) is_a.some is_a.few,
      is_a.is,
      is_b.all,
      within 8 8 (length b) (omega (arith, long_b)) (omega (arith, long_b)),
      is_b.is,
      is_c.all,
      within 8 8 (length c) (omega (arith, long_c)) (omega (arith, long_c)),
      is_c.is,
    ) refl

windbg_says : (size register high low number : ℕ) (a b c tail : List ℕ) → IsHexOf register a → IsHexOf high b → IsHexOf low c → register < 0x1000 → high < 2 ^ 32 → low < 2 ^ 32
    → says_of BareHalves number (shown size (items windbg_row.0) (windbg_texts a b c) tail no_fields)
    ≡ shows_one None (Some register) (Some (high * 0x100000000 + low)) (record { line = number; column = one_more (shown size (items windbg_row.0) (windbg_texts a b c) tail no_fields).second_last.column })
windbg_says size register high low number a b c tail is_a is_b is_c small small_high small_low =
    rw (is_a.is, is_b.is, is_c.is, small_number register small, below high small_high, below low small_low) refl

module _ (register value : ℕ) (small : register < 0x1000) (fits : value < 2 ^ 64) where
  abbrev high : ℕ
  high = value / 0x100000000

  abbrev rest : ℕ
  rest = value % 0x100000000

  register_fits : register < 2 ^ 64
  register_fits = omega (arith, small)

  high_fits : high < 2 ^ 32
  high_fits = omega (arith, fits)

  rest_fits : rest < 2 ^ 32
  rest_fits = omega arith

  sum : high * 0x100000000 + rest ≡ value
  sum = omega arith

  abbrev windbg : List ℕ
  windbg = windbg_line register value

  abbrev texts : List (List ℕ)
  texts = windbg_texts (hex_text register) (low_digits high) (low_digits rest)

  pub windbg_plain : list_all is_plain windbg ≡ true
  windbg_plain =
      let last = digits_plain (low_digits rest) (is_eight rest rest_fits).all in
      let both = all_append is_plain (low_digits high) (codes "`" ++ low_digits rest) (digits_plain (low_digits high) (is_eight high high_fits).all) last in
      all_append is_plain (hex_text register) (codes "] = " ++ (low_digits high ++ (codes "`" ++ low_digits rest))) (digits_plain (hex_text register) (hex_digits register)) both

  pub windbg_short : is_too_long windbg ≡ false
  windbg_short =
      let one = length-append (hex_text register) (codes "] = " ++ (low_digits high ++ (codes "`" ++ low_digits rest))) in
      let two = length-append (low_digits high) (codes "`" ++ low_digits rest) in
      let few = hex_short register register_fits in
      let three = eight_long lower_digits IsDigits-lower_digits high in
      let four = eight_long lower_digits IsDigits-lower_digits rest in
      within_limit (length windbg) (omega (arith, one, two, three, four, few))

  windbg_is : windbg ≡ printed (items windbg_row.0) texts []
  windbg_is = rw (append-nil (low_digits rest)) refl

  abbrev windbg_place : ℕ → Place
  windbg_place number = record { line = number; column = one_more (shown (length windbg) (items windbg_row.0) texts [] no_fields).second_last.column }

  pub windbg_tells : (number : ℕ) → is_telling (said_by_line Windbg number windbg) ≡ true
  windbg_tells number =
      let a = is_hex register register_fits in
      let b = is_eight high high_fits in
      let c = is_eight rest rest_fits in
      let fit = windbg_fit register high rest _ _ _ a b c (eight_long lower_digits IsDigits-lower_digits high) (eight_long lower_digits IsDigits-lower_digits rest) in
      let read = row_reads windbg_row.0 windbg texts [] windbg_plain windbg_is refl fit refl in
      ap is_telling (first_says [] windbg_row (drop 1 (rows_in WINDBG)) number windbg (shown (length windbg) (items windbg_row.0) texts [] no_fields) refl read
      ∙ windbg_says (length windbg) register high rest number _ _ _ [] a b c small high_fits rest_fits)

  pub windbg_prints : PrintsOne Windbg register value windbg
  windbg_prints = record {
    plain = windbg_plain;
    processor = None;
    own = refl;
    place = windbg_place;
    said = λ number.
        row_said Windbg windbg_row (drop 1 (rows_in WINDBG)) texts [] windbg windbg_plain windbg_short refl (λ n. refl) windbg_is refl
        (windbg_fit register high rest _ _ _ (is_hex register register_fits) (is_eight high high_fits) (is_eight rest rest_fits) (eight_long lower_digits IsDigits-lower_digits high) (eight_long lower_digits IsDigits-lower_digits rest))
        refl None (Some register) (Some value) (windbg_place number) number
        (windbg_says (length windbg) register high rest number _ _ _ [] (is_hex register register_fits) (is_eight high high_fits) (is_eight rest rest_fits) small high_fits rest_fits
        ∙ ap (λ v. shows_one None (Some register) (Some v) (windbg_place number)) sum)
        refl;
  }

-- ---- chipsec

abbrev chipsec_row : Row
chipsec_row = get_or (rows_in CHIPSEC) 0 ([], OfProcessor)

abbrev chipsec_texts : List ℕ → List ℕ → List (List ℕ)
chipsec_texts a b = [] ∷ codes " " ∷ codes "0" ∷ codes " " ∷ codes " " ∷ codes "x" ∷ a ∷ codes " " ∷ codes " " ∷ codes " " ∷ b ∷ []

chipsec_fit : (register value : ℕ) (a b : List ℕ) → IsHexOf register a → IsHexOf value b → length b ≡ 16 → fit (items chipsec_row.0) (chipsec_texts a b) ≡ true
chipsec_fit register value a b is_a is_b long =
    rw (is_a.all, within 1 16 (length a) is_a.some is_a.few, is_a.is, is_b.all, within 16 16 (length b) (omega (arith, long)) (omega (arith, long)), is_b.is) refl

chipsec_says : (size register value number : ℕ) (a b tail : List ℕ) → IsHexOf register a → IsHexOf value b → register < 0x1000
    → says_of OfProcessor number (shown size (items chipsec_row.0) (chipsec_texts a b) tail no_fields)
    ≡ shows_one (Some 0) (Some register) (Some value) (record { line = number; column = one_more (shown size (items chipsec_row.0) (chipsec_texts a b) tail no_fields).last.column })
chipsec_says size register value number a b tail is_a is_b small = rw (is_a.is, is_b.is, small_number register small) refl

module _ (register value : ℕ) (small : register < 0x1000) (fits : value < 2 ^ 64) where
  abbrev chipsec : List ℕ
  chipsec = chipsec_line register value

  abbrev eax : List ℕ
  eax = eight_digits (value % 0x100000000)

  abbrev edx : List ℕ
  edx = eight_digits (value / 0x100000000)

  abbrev tail : List ℕ
  tail = codes " (EAX=" ++ (eax ++ (codes ", EDX=" ++ (edx ++ codes ")")))

  number_fits : register < 2 ^ 64
  number_fits = omega (arith, small)

  pub chipsec_plain : list_all is_plain chipsec ≡ true
  chipsec_plain =
      let last = all_append is_plain edx (codes ")") (upper_plain (value / 0x100000000)) refl in
      let both = all_append is_plain eax (codes ", EDX=" ++ (edx ++ codes ")")) (upper_plain (value % 0x100000000)) last in
      let behind = all_append is_plain (sixteen_digits value) tail (digits_plain (sixteen_digits value) (is_sixteen value fits).all) both in
      all_append is_plain (hex_text register) (codes " ) = " ++ (sixteen_digits value ++ tail)) (digits_plain (hex_text register) (hex_digits register)) behind

  pub chipsec_short : is_too_long chipsec ≡ false
  chipsec_short =
      let one = length-append (hex_text register) (codes " ) = " ++ (sixteen_digits value ++ tail)) in
      let two = length-append (sixteen_digits value) tail in
      let three = length-append eax (codes ", EDX=" ++ (edx ++ codes ")")) in
      let four = length-append edx (codes ")") in
      let few = hex_short register number_fits in
      let long = sixteen_long upper_digits IsDigits-upper_digits value in
      let five = eight_long upper_digits IsDigits-upper_digits (value % 0x100000000) in
      let six = eight_long upper_digits IsDigits-upper_digits (value / 0x100000000) in
      within_limit (length chipsec) (omega (arith, one, two, three, four, five, six, few, long))

  abbrev chipsec_place : ℕ → Place
  chipsec_place number = record { line = number; column = one_more (shown (length chipsec) (items chipsec_row.0) (chipsec_texts (hex_text register) (sixteen_digits value)) tail no_fields).last.column }

  pub chipsec_tells : (number : ℕ) → is_telling (said_by_line Chipsec number chipsec) ≡ true
  chipsec_tells number =
      let a = is_hex register number_fits in
      let b = is_sixteen value fits in
      let fit = chipsec_fit register value _ _ a b (sixteen_long upper_digits IsDigits-upper_digits value) in
      let texts = chipsec_texts (hex_text register) (sixteen_digits value) in
      let read = row_reads chipsec_row.0 chipsec texts tail chipsec_plain refl refl fit refl in
      ap is_telling (first_says [] chipsec_row (drop 1 (rows_in CHIPSEC)) number chipsec (shown (length chipsec) (items chipsec_row.0) texts tail no_fields) refl read
      ∙ chipsec_says (length chipsec) register value number _ _ tail a b small)

  pub chipsec_prints : PrintsOne Chipsec register value chipsec
  chipsec_prints = record {
    plain = chipsec_plain;
    processor = Some 0;
    own = refl;
    place = chipsec_place;
    said = λ number.
        row_said Chipsec chipsec_row (drop 1 (rows_in CHIPSEC)) (chipsec_texts (hex_text register) (sixteen_digits value)) tail chipsec chipsec_plain chipsec_short refl (λ n. refl) refl refl
        (chipsec_fit register value _ _ (is_hex register number_fits) (is_sixteen value fits) (sixteen_long upper_digits IsDigits-upper_digits value))
        refl (Some 0) (Some register) (Some value) (chipsec_place number) number
        (chipsec_says (length chipsec) register value number _ _ tail (is_hex register number_fits) (is_sixteen value fits) small) refl;
  }

-- ---- both

pub windbg_back : (file : RegisterFile) (supplied : Supplied) → SuitsRdmsr file supplied → TableReadsBack Windbg (lines_by windbg_line file) supplied file
windbg_back file supplied suits = lines_back Windbg windbg_line windbg_prints file supplied suits

pub chipsec_back : (file : RegisterFile) (supplied : Supplied) → SuitsRdmsr file supplied → TableReadsBack Chipsec (lines_by chipsec_line file) supplied file
chipsec_back file supplied suits = lines_back Chipsec chipsec_line chipsec_prints file supplied suits
