-- The first line that chipsec and WinDbg print tells their format.
use Rattle.std.proofs.Common.{◌≡◌, ◌∙◌, ◌/◌, ◌%◌, ◌^◌, ◌<◌, ◌≤◌, ◌==◌, ℕ, suc, true, false, List, [], ◌∷◌, ◌++◌, length, drop, None, Some, refl, ap, arith, inl, lit≤, lit<, codes}
use Rattle.std.specs.Fmt.{digits}
use Rattle.std.specs.List.{list_all}
use Rattle.std.proofs.lemmas.Bool.{and_parts}
use Rattle.std.proofs.lemmas.Bool.Decides.{nat_tests}
use Rattle.hex.specs.Hex.{encode_with, is_hex_digit, lower_digits, upper_digits}
use Rattle.hex.proofs.HexLemmas.{IsDigits-lower_digits, IsDigits-upper_digits}
use Rattle.mt_text.specs.Text.{words_from, words_of}
use Rattle.mt_text.specs.Words.{text_of}
use Rattle.mt_text.proofs.Plain.{digits_plain, is_plain}
use Rattle.mt_rows.specs.declared.row.Run.TheVariants as run
use Rattle.mt_rows.specs.Scan.{Part, no_fields}
use Rattle.mt_regs.specs.RegisterFile.{RegisterFile}
use Rattle.mt_import.specs.declared.chipsec.TheConstants.{CHIPSEC}
use Rattle.mt_import.specs.declared.format.Format.TheVariants.{Chipsec, Coreboot, Edk2, Inteltool, Linux, Rdmsr, Windbg, X86info, Xen}
use Rattle.mt_import.specs.declared.inteltool.TheConstants.{INTELTOOL}
use Rattle.mt_import.specs.declared.reading.LineSays.TheVariants.{Nothing}
use Rattle.mt_import.specs.declared.x86info.TheConstants.{X86INFO}
use Rattle.mt_import.specs.LineWords.{behind_stamp}
use Rattle.mt_import.specs.Linux.{linux_words_said}
use Rattle.mt_import.specs.Pieces.{is_text}
use Rattle.mt_import.specs.Rdmsr.{said_by_words}
use Rattle.mt_import.specs.Shown.{format_told, is_telling, tells}
use Rattle.mt_import.specs.Supplied.{Supplied}
use Rattle.mt_import.specs.Tables.{rows_in}
use Rattle.mt_import_laws.specs.FirstLine.{takes}
use Rattle.mt_import_laws.specs.PrintedByEdk2.{sixteen_digits}
use Rattle.mt_import_laws.specs.PrintedByInteltool.{eight_digits}
use Rattle.mt_import_laws.specs.PrintedByRdmsr.{SuitsRdmsr}
use Rattle.mt_import_laws.specs.PrintedByRows.{chipsec_line, lines_by, low_digits, windbg_line}
use Rattle.mt_import_laws.proofs.Foreign.{if_off, kernel_none, linux_none, log_front}
use Rattle.mt_import_laws.proofs.KernelWords.{IsStart, digit_start}
use Rattle.mt_import_laws.proofs.LineWords.{AreWords, IsWord, all_append, digits_are_word, line_with, placed, word_append, words_of_pieces}
use Rattle.mt_import_laws.proofs.PrintedBack.{fits}
use Rattle.mt_import_laws.proofs.PrintedDigits.{eight_all, eight_long, sixteen_all, sixteen_long}
use Rattle.mt_import_laws.proofs.RowLines.{no_others, row_reads}
use Rattle.mt_import_laws.proofs.RowTables.{chipsec_plain, chipsec_prints, chipsec_short, chipsec_tells, rows_taken, windbg_plain, windbg_prints, windbg_short, windbg_tells}
use Rattle.mt_import_laws.proofs.Tells.{coreboot_by, edk2_by, linux_by, xen_by}

starts : (word rest : List ℕ) → 1 ≤ length word → list_all is_hex_digit word ≡ true → IsStart (word ++ rest)
starts [] rest some all = absurd (omega (arith, some))
starts (d ∷ ds) rest some all = digit_start d (ds ++ rest) (and_parts (is_hex_digit d) (list_all is_hex_digit ds) all).0

-- ---- WinDbg

low_word : (value : ℕ) → IsWord (low_digits value)
low_word value = let size = eight_long lower_digits IsDigits-lower_digits value in digits_are_word (low_digits value) (omega (arith, size)) (eight_all lower_digits IsDigits-lower_digits value)

module _ (value : ℕ) (small : value < 2 ^ 64) where
  abbrev high : List ℕ
  high = low_digits (value / 0x100000000)

  abbrev both : List ℕ
  both = high ++ (codes "`" ++ low_digits (value % 0x100000000))

  abbrev line : List ℕ
  line = windbg_line 0xfe value

  abbrev others : List (ℕ × List ℕ)
  others = (1, codes "=") ∷ (1, both) ∷ []

  abbrev words : List (ℕ × List ℕ)
  words = placed 0 ((0, codes "msr[fe]") ∷ others) []

  is_pieces : line ≡ line_with ((0, codes "msr[fe]") ∷ others) []
  unfolding encode_with digits
  is_pieces = ap (λ (t : List ℕ). codes "msr[fe] = " ++ t) (appended both)
    where
      appended : (t : List ℕ) → t ≡ t ++ []
      appended [] = refl
      appended (x ∷ xs) = ap (λ (ys : List ℕ). x ∷ ys) (appended xs)

  are_words : AreWords ((0, codes "msr[fe]") ∷ others)
  are_words =
      let low = low_word (value % 0x100000000) in
      let last = word_append (codes "`") (low_digits (value % 0x100000000)) (lit≤ tt, refl, refl) low.1 low.2 in
      ((lit≤ tt, refl, refl), ((lit≤ tt, refl, refl), (word_append high (codes "`" ++ low_digits (value % 0x100000000)) (low_word (value / 0x100000000)) last.1 last.2, tt)))

  found : words_of line ≡ words
  found = ap words_of is_pieces ∙ words_of_pieces (0, codes "msr[fe]") others [] are_words refl refl refl

  third : is_text (codes "kernel:") (text_of words 2) ≡ false
  third =
      let size = eight_long lower_digits IsDigits-lower_digits (value / 0x100000000) in
      (starts high (codes "`" ++ low_digits (value % 0x100000000)) (omega (arith, size)) (eight_all lower_digits IsDigits-lower_digits (value / 0x100000000))).kernel

  no_linux : (number : ℕ) → tells Linux number line ≡ false
  no_linux number =
      linux_by number line refl words found ∙ ap (λ at. is_telling (linux_words_said number (behind_head at))) (log_front words third refl)
    where
      behind_head : ℕ → List (ℕ × List ℕ)
      behind_head at = drop (behind_stamp at words) words

  abbrev front : List Part
  front = (codes "msr[fe] =", run.Nothing) ∷ []

  no_inteltool : (number : ℕ) → tells Inteltool number line ≡ false
  unfolding tells encode_with digits
  no_inteltool number = ap is_telling (no_others front (rows_in INTELTOOL) [] number line no_fields refl (row_reads front line [] (codes " " ++ both) (windbg_plain 0xfe value (lit< tt) small) refl refl refl refl))

  no_x86info : (number : ℕ) → tells X86info number line ≡ false
  unfolding tells encode_with digits
  no_x86info number = ap is_telling (no_others front (rows_in X86INFO) [] number line no_fields refl (row_reads front line [] (codes " " ++ both) (windbg_plain 0xfe value (lit< tt) small) refl refl refl refl))

  no_chipsec : (number : ℕ) → tells Chipsec number line ≡ false
  unfolding tells encode_with digits
  no_chipsec number = ap is_telling (no_others front (rows_in CHIPSEC) [] number line no_fields refl (row_reads front line [] (codes " " ++ both) (windbg_plain 0xfe value (lit< tt) small) refl refl refl refl))

  no_rdmsr : (number : ℕ) → tells Rdmsr number line ≡ false
  unfolding tells
  no_rdmsr number = ap (λ ws. is_telling (said_by_words number ws)) found

  own : (number : ℕ) → tells Windbg number line ≡ true
  unfolding tells
  own number = windbg_tells 0xfe value (lit< tt) small number

  windbg_told : (number : ℕ) → format_told number line ≡ Some Windbg
  windbg_told number =
      let xen : tells Xen number line ≡ false = xen_by number line refl words found in
      let coreboot : tells Coreboot number line ≡ false = coreboot_by number line refl words found in
      let edk2 : tells Edk2 number line ≡ false = edk2_by number line refl words found in
      rw (windbg_short 0xfe value (lit< tt) small, xen, no_linux number, coreboot, edk2, no_inteltool number, no_x86info number, no_rdmsr number, no_chipsec number, own number) refl

-- ---- chipsec

longer : (n k : ℕ) → k ≤ 6 → (suc (suc (suc (suc (suc (suc (suc n)))))) == k) ≡ false
longer n k few = grind (arith, nat_tests, few)

module _ (value : ℕ) (small : value < 2 ^ 64) where
  abbrev text : List ℕ
  text = chipsec_line 0xfe value

  abbrev behind : List ℕ
  behind = codes " (EAX=" ++ (eight_digits (value % 0x100000000) ++ (codes ", EDX=" ++ (eight_digits (value / 0x100000000) ++ codes ")")))

  abbrev later : List (ℕ × List ℕ)
  later = (1, codes "CPU0:") ∷ (1, codes "RDMSR(") ∷ (1, codes "0xfe") ∷ (1, codes ")") ∷ (1, codes "=") ∷ (1, sixteen_digits value) ∷ []

  abbrev places : List (ℕ × List ℕ)
  places = placed 0 ((0, codes "[CHIPSEC]") ∷ later) behind

  has_pieces : text ≡ line_with ((0, codes "[CHIPSEC]") ∷ later) behind
  unfolding encode_with digits
  has_pieces = refl

  value_word : IsWord (sixteen_digits value)
  value_word = let size = sixteen_long upper_digits IsDigits-upper_digits value in digits_are_word (sixteen_digits value) (omega (arith, size)) (sixteen_all upper_digits IsDigits-upper_digits value)

  have_words : AreWords ((0, codes "[CHIPSEC]") ∷ later)
  have_words = ((lit≤ tt, refl, refl), ((lit≤ tt, refl, refl), ((lit≤ tt, refl, refl), ((lit≤ tt, refl, refl), ((lit≤ tt, refl, refl), ((lit≤ tt, refl, refl), (value_word, tt)))))))

  behind_plain : list_all is_plain behind ≡ true
  behind_plain =
      let edx = eight_digits (value / 0x100000000) in
      let last = all_append is_plain edx (codes ")") (digits_plain edx (eight_all upper_digits IsDigits-upper_digits (value / 0x100000000))) refl in
      let eax = eight_digits (value % 0x100000000) in
      all_append is_plain eax (codes ", EDX=" ++ (edx ++ codes ")")) (digits_plain eax (eight_all upper_digits IsDigits-upper_digits (value % 0x100000000))) last

  placed_there : words_of text ≡ places
  placed_there = ap words_of has_pieces ∙ words_of_pieces (0, codes "[CHIPSEC]") later behind have_words refl refl behind_plain

  -- the words behind what stands in brackets
  abbrev inner : List (ℕ × List ℕ)
  inner = drop 1 places

  no_line_of_linux : (number : ℕ) → linux_words_said number inner ≡ Nothing
  no_line_of_linux number =
      linux_none number inner refl refl refl refl refl (kernel_none number inner false refl refl (inl (longer_too (length (words_from _ behind)))) refl)
    where
      longer_too : (n : ℕ) → (suc (suc (suc (suc (suc (suc n))))) == 2) ≡ false
      longer_too n = grind (arith, nat_tests)

  none_of_linux : (number : ℕ) → tells Linux number text ≡ false
  none_of_linux number = linux_by number text refl places placed_there ∙ ap is_telling (no_line_of_linux number)

  none_of_rdmsr : (number : ℕ) → tells Rdmsr number text ≡ false
  unfolding tells
  none_of_rdmsr number =
      ap (λ ws. is_telling (said_by_words number ws)) placed_there
      ∙ ap is_telling (if_off _ _ _ (longer (length (words_from _ behind)) 1 (lit≤ tt)) (if_off _ _ _ (longer (length (words_from _ behind)) 2 (lit≤ tt)) refl))

  abbrev head : List Part
  head = (codes "[CHIPSEC] CPU0:", run.Nothing) ∷ []

  abbrev rest : List ℕ
  rest = codes " RDMSR( 0xfe ) = " ++ (sixteen_digits value ++ behind)

  none_of_inteltool : (number : ℕ) → tells Inteltool number text ≡ false
  unfolding tells encode_with digits
  none_of_inteltool number = ap is_telling (no_others head (rows_in INTELTOOL) [] number text no_fields refl (row_reads head text [] rest (chipsec_plain 0xfe value (lit< tt) small) refl refl refl refl))

  none_of_x86info : (number : ℕ) → tells X86info number text ≡ false
  unfolding tells encode_with digits
  none_of_x86info number = ap is_telling (no_others head (rows_in X86INFO) [] number text no_fields refl (row_reads head text [] rest (chipsec_plain 0xfe value (lit< tt) small) refl refl refl refl))

  by_chipsec : (number : ℕ) → tells Chipsec number text ≡ true
  unfolding tells
  by_chipsec number = chipsec_tells 0xfe value (lit< tt) small number

  chipsec_told : (number : ℕ) → format_told number text ≡ Some Chipsec
  chipsec_told number =
      let xen : tells Xen number text ≡ false = xen_by number text refl places placed_there in
      let coreboot : tells Coreboot number text ≡ false = coreboot_by number text refl places placed_there in
      let edk2 : tells Edk2 number text ≡ false = edk2_by number text refl places placed_there in
      rw (chipsec_short 0xfe value (lit< tt) small, xen, none_of_linux number, coreboot, edk2, none_of_inteltool number, none_of_x86info number, none_of_rdmsr number, by_chipsec number) refl

-- ---- both

pub windbg_first : (file : RegisterFile) (supplied : Supplied) → SuitsRdmsr file supplied → takes (lines_by windbg_line file) ≡ Some Windbg
windbg_first file supplied suits = rows_taken Windbg windbg_line windbg_prints file supplied suits refl (windbg_told file.capabilities (fits file None suits.is_file suits.has_words tt) 1)

pub chipsec_first : (file : RegisterFile) (supplied : Supplied) → SuitsRdmsr file supplied → takes (lines_by chipsec_line file) ≡ Some Chipsec
chipsec_first file supplied suits = rows_taken Chipsec chipsec_line chipsec_prints file supplied suits refl (chipsec_told file.capabilities (fits file None suits.is_file suits.has_words tt) 1)
