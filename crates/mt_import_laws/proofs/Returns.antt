-- A CR at the end of a line is no part of what the line says.
use Rattle.std.proofs.Common.{◌≡◌, ◌≢◌, ◌==◌, ◌&&◌, ◌+◌, nat_lt, ℕ, Bool, true, false, List, [], ◌∷◌, ◌++◌, drop, length, take, Option, Some, None, refl, sym, ◌∙◌, ap, arith, inl, inr, length-append, codes}
use Rattle.std.specs.Prelude.{◌⊎◌, if◌then◌else◌}
use Rattle.std.proofs.lemmas.Bool.Decides.{nat_tests}
use Rattle.mt_text.specs.Text.{before_comment, is_too_long, lines_of, longest_line, past_limit, without_ending, without_return, words_from, words_of}
use Rattle.mt_text.specs.Words.{text_of}
use Rattle.mt_import.specs.Warnings.{warning_in, warning_of}
use Rattle.mt_import.specs.declared.format.Choice.{Choice}
use Rattle.mt_import.specs.declared.format.Format.{Format}
use Rattle.mt_import.specs.declared.format.Format.TheVariants.{Rdmsr, X86info, Inteltool, Coreboot, Edk2, Linux, Xen, Chipsec, Windbg, Plain}
use Rattle.mt_import.specs.declared.reading.LineSays.{LineSays}
use Rattle.mt_import.specs.declared.reading.LineSays.TheVariants.{Nothing, Bad}
use Rattle.mt_import.specs.Coreboot.{level_words, said_from as coreboot_from}
use Rattle.mt_import.specs.Edk2.{said_by_words as edk2_words}
use Rattle.mt_import.specs.declared.inteltool.TheConstants.{INTELTOOL}
use Rattle.mt_import.specs.declared.chipsec.TheConstants.{CHIPSEC}
use Rattle.mt_import.specs.declared.fault.Reason.TheVariants.{LongLine}
use Rattle.mt_import.specs.declared.plain.TheConstants.{PLAIN}
use Rattle.mt_import.specs.declared.tables.TheConstants.{EACH}
use Rattle.mt_import.specs.declared.windbg.TheConstants.{WINDBG}
use Rattle.mt_import.specs.Tables.{Row, each_said, rows_in, said_in as said_in_rows, said_or}
use Rattle.mt_rows.specs.Scan.{read_by, scanned}
use Rattle.mt_import.specs.Kernel.{kernel_said}
use Rattle.mt_import.specs.LineWords.{behind_stamp, head_end, kernel_end}
use Rattle.mt_import.specs.Linux.{linux_words_said}
use Rattle.mt_import.specs.Pieces.{is_text}
use Rattle.mt_import.specs.Rdmsr.{said_by_words as rdmsr_words}
use Rattle.mt_import.specs.X86info.{sizes_by_words, sizes_said}
use Rattle.mt_import.specs.declared.x86info.TheConstants.{X86INFO}
use Rattle.mt_import.specs.declared.format.Choice.TheVariants.{Auto, Only}
use Rattle.mt_import.specs.Shown.{first_said, format_told, is_telling, said_by_line, said_in, said_in_each, said_of, said_or_sizes, tells, unmarked, warns_or}
use Rattle.mt_import.specs.Supplied.{Supplied}
use Rattle.mt_import.specs.Import.{log_outcome}
use Rattle.mt_import_laws.specs.Returns.{DifferInReturns, GetReturns, GetsReturn}
use Rattle.mt_import_laws.proofs.Alike.{AllSameInEach, SameInEach, in_one, same_logs}

-- a CR is taken off
strips : (line : List ℕ) → without_ending 13 (line ++ 13 ∷ []) ≡ line
strips [] = refl
strips (byte ∷ []) = refl
strips (byte ∷ next ∷ bytes) = ap (λ l. byte ∷ l) (strips (next ∷ bytes))

one_longer : (size longer : ℕ) → size ≢ 4096 → longer ≡ size + 1 → nat_lt 4096 longer ≡ nat_lt 4096 size
one_longer size longer apart is = by (nat_lt 4096 size) refl
  where
    by : (test : Bool) → nat_lt 4096 size ≡ test → nat_lt 4096 longer ≡ test
    by true past = grind (arith, nat_tests, past, is)
    by false within = grind (arith, nat_tests, within, is, apart)

-- a byte-order mark is taken off with a CR or without
unmarked_longer : (line : List ℕ) → unmarked (line ++ 13 ∷ []) ≡ unmarked line ++ 13 ∷ []
unmarked_longer [] = refl
unmarked_longer (a ∷ []) = refl
unmarked_longer (a ∷ b ∷ []) = by (a == 239) (b == 187)
  where
    by : (one two : Bool) → (if one && two && false then [] else a ∷ b ∷ 13 ∷ []) ≡ a ∷ b ∷ 13 ∷ []
    by true true = refl
    by true false = refl
    by false two = refl
unmarked_longer (a ∷ b ∷ c ∷ rest) = by (a == 239 && b == 187 && c == 191)
  where
    by : (test : Bool) → (if test then rest ++ 13 ∷ [] else a ∷ b ∷ c ∷ (rest ++ 13 ∷ [])) ≡ (if test then rest else a ∷ b ∷ c ∷ rest) ++ 13 ∷ []
    by true = refl
    by false = refl

-- what stands behind a mark ends as the line does
unmarked_without : (line : List ℕ) → without_return line ≡ line → without_return (unmarked line) ≡ unmarked line
unmarked_without [] without = refl
unmarked_without (a ∷ []) without = without
unmarked_without (a ∷ b ∷ []) without = without
unmarked_without (a ∷ b ∷ c ∷ rest) without = by (a == 239 && b == 187 && c == 191)
  where
    by : (test : Bool) → without_return (if test then rest else a ∷ b ∷ c ∷ rest) ≡ (if test then rest else a ∷ b ∷ c ∷ rest)
    by true = later rest without
      where
        later : (rest : List ℕ) → without_return (a ∷ b ∷ c ∷ rest) ≡ a ∷ b ∷ c ∷ rest → without_return rest ≡ rest
        later [] is = refl
        later (x ∷ xs) is = ap (drop 3) is
    by false = without

-- what a text without CR says, and the text with one
module _ (line longer : List ℕ) (without : without_return line ≡ line) (is : longer ≡ line ++ 13 ∷ []) where
  same_text : without_return longer ≡ without_return line
  same_text = ap without_return is ∙ strips line ∙ sym without

  same_words : words_of longer ≡ words_of line
  same_words = ap (λ text. words_from 0 (before_comment text)) same_text

  same_rows : (rows : List Row) (number : ℕ) → said_in_rows rows number longer ≡ said_in_rows rows number line
  same_rows [] number = refl
  same_rows (row ∷ rows) number =
      ap (λ text. said_or row.1 number (read_by row.0 text) (said_in_rows rows number longer)) same_text ∙ ap (said_or row.1 number (scanned row.0 line)) (same_rows rows number)

  by_format : (format : Format) (number : ℕ) → said_by_line format number longer ≡ said_by_line format number line
  by_format Rdmsr number = ap (rdmsr_words number) same_words
  by_format X86info number = same_rows (rows_in X86INFO) number
  by_format Inteltool number = same_rows (rows_in INTELTOOL) number
  by_format Coreboot number = ap (λ ws. coreboot_from (level_words ws) number ws) same_words
  by_format Edk2 number = ap (λ ws. edk2_words number (take 7 ws)) same_words
  by_format Linux number = ap (λ ws. linux_words_said number (drop (head_end ws) ws)) same_words
  by_format Xen number = ap (λ ws. if is_text (codes "(XEN)") (text_of ws 0) then kernel_said true number (drop (behind_stamp 1 ws) ws) else Nothing) same_words
  by_format Chipsec number = same_rows (rows_in CHIPSEC) number
  by_format Windbg number = same_rows (rows_in WINDBG) number
  by_format Plain number = same_rows (rows_in PLAIN) number

  same_in_each : (number : ℕ) → said_in_each number longer ≡ said_in_each number line
  same_in_each number =
      ap (λ ws. warns_or (warning_in (drop (kernel_end ws) ws)) number (first_said (sizes_by_words number (take 7 ws)) (each_said number longer))) same_words
      ∙ ap (λ s. warns_or (warning_of line) number (first_said (sizes_said number line) s)) (same_rows (rows_in EACH) number)

  same_says : (format : Format) (number : ℕ) → said_or_sizes (said_by_line format number longer) number longer ≡ said_or_sizes (said_by_line format number line) number line
  same_says format number =
      ap (first_said (said_by_line format number longer)) (same_in_each number) ∙ ap (λ s. first_said s (said_in_each number line)) (by_format format number)

module _ (line : List ℕ) (without : without_return line ≡ line) (apart : length line ≢ longest_line) where
  abbrev longer : List ℕ
  longer = line ++ 13 ∷ []

  same_limit : is_too_long longer ≡ is_too_long line
  same_limit = one_longer (length line) (length longer) apart (length-append line (13 ∷ []))

  -- behind the limit of a line's length
  unless_long : (number : ℕ) (said before : LineSays) → said ≡ before → (if is_too_long longer then Bad LongLine (past_limit number) else said) ≡ (if is_too_long line then Bad LongLine (past_limit number) else before)
  unless_long number said before same =
      ap (λ long. if long then Bad LongLine (past_limit number) else said) same_limit ∙ ap (λ s. if is_too_long line then Bad LongLine (past_limit number) else s) same

  same_said : (format : Format) (number : ℕ) → said_of format number longer ≡ said_of format number line
  same_said format number = unless_long number _ _ (same_says (unmarked line) (unmarked longer) (unmarked_without line without) (unmarked_longer line) format number)

  same_in : (format : Option Format) (number : ℕ) → said_in format number longer ≡ said_in format number line
  same_in None number = unless_long number _ _ (same_in_each (unmarked line) (unmarked longer) (unmarked_without line without) (unmarked_longer line) number)
  same_in (Some format) number = same_said format number

  same_tells : (format : Format) (number : ℕ) → tells format number longer ≡ tells format number line
  unfolding tells
  same_tells format number = ap is_telling (by_format (unmarked line) (unmarked longer) (unmarked_without line without) (unmarked_longer line) format number)

  same_told : (number : ℕ) → format_told number longer ≡ format_told number line
  same_told number =
      rw (same_limit, same_tells Xen number, same_tells Linux number, same_tells Coreboot number, same_tells Edk2 number, same_tells Inteltool number, same_tells X86info number, same_tells Rdmsr number, same_tells Chipsec number, same_tells Windbg number, same_tells Plain number) refl

  says_same : (number : ℕ) → SameInEach number line longer
  says_same number = record { says = λ format. sym (same_in format number); tells = sym (same_told number); limit = sym same_limit }

each_line : (number : ℕ) (x y : List ℕ) → (x ≡ y) ⊎ GetsReturn x y → SameInEach number x y
each_line number x y (inl same) = record { says = λ format. ap (said_in format number) same; tells = ap (format_told number) same; limit = ap is_too_long same }
each_line number x y (inr gets) = rw gets.is (says_same x gets.ends_without gets.not_longest number)

all_lines : (number : ℕ) (xs ys : List (List ℕ)) → GetReturns xs ys → AllSameInEach number xs ys
all_lines number [] [] get = tt
all_lines number [] (y ∷ ys) get = absurd get
all_lines number (x ∷ xs) [] get = absurd get
all_lines number (x ∷ xs) (y ∷ ys) get = (each_line number x y get.0, all_lines (number + 1) xs ys get.1)

pub returns_logs : (choice : Choice) (supplied : Supplied) (a b : List ℕ) → DifferInReturns a b → log_outcome choice supplied a ≡ log_outcome choice supplied b
returns_logs Auto supplied a b differ = same_logs Auto supplied a b (all_lines 1 (lines_of a) (lines_of b) differ)
returns_logs (Only format) supplied a b differ = same_logs (Only format) supplied a b (in_one (Some format) 1 (lines_of a) (lines_of b) (all_lines 1 (lines_of a) (lines_of b) differ))
