-- A line that is a comment, before a text, changes nothing of what the text shows.
use Rattle.std.proofs.Common.{◌≡◌, ◌∙◌, ◌+◌, ◌<◌, ◌≤◌, ℕ, Bool, true, false, not, ◌==◌, ◌&&◌, nat_lt, List, [], ◌∷◌, ◌++◌, length, map, Some, Result, Ok, Err, refl, sym, ap, subst, arith}
use Rattle.std.specs.Prelude.{codes, is_ok, slice_index_or, if◌then◌else◌}
use Rattle.std.specs.List.{AllByRecursion, list_all, onto_first}
use Rattle.std.proofs.lemmas.Bool.{and_parts}
use Rattle.std.proofs.lemmas.Bool.Decides.{nat_tests}
use Rattle.mt_text.specs.Text.{is_line_end, lines_of, words_of, without_ending}
use Rattle.mt_text.specs.declared.place.Place.{Place}
use Rattle.mt_text.specs.declared.fault.NumberFault.{NumberFault}
use Rattle.mt_text.specs.declared.fault.NumberFault.TheVariants.{NotDigit, TooLarge}
use Rattle.mt_text.specs.Number.{hex_number, decimal_number}
use Rattle.mt_regs.specs.RegisterFile.{RegisterFile, low_byte}
use Rattle.mt_regs.specs.Registers.{value_at}
use Rattle.mt_dump.specs.Dumps.{Dump}
use Rattle.mt_dump.specs.Line.{Reading, fault_at, is_word, place_of, said_of, said_pair, said_register, said_width, said_version, said_section, said_words}
use Rattle.mt_dump.specs.Dump.{Shown, ShownBy, ShowsSection, ShowAll, ShowAllLater, given, said_by, said_from, times, width_of, widths, versions, section_numbers, behind_first, up_to_section, behind_sections, sections_in, sections_of}
use Rattle.mt_dump.specs.declared.fault.DumpReason.TheVariants.{BadLine, BadVersion, BadWidth, TooManyPairs}
use Rattle.mt_dump.specs.declared.said.Said.TheVariants.{Nothing, Version, Section, Width, Register}

-- ---- what a line says, wherever it stands

abbrev nowhere : Place
nowhere = record { line = 0; column = 0 }

abbrev placeless : Reading → Reading
placeless (Err fault) = Err (fault_at BadLine nowhere)
placeless (Ok Nothing) = Ok Nothing
placeless (Ok (Version version place)) = Ok (Version version nowhere)
placeless (Ok (Section number place)) = Ok (Section number nowhere)
placeless (Ok (Width width first second)) = Ok (Width width nowhere nowhere)
placeless (Ok (Register number value first second)) = Ok (Register number value nowhere nowhere)

width_alike : (p q r s : Place) (told : Result ℕ NumberFault) → placeless (said_width p q told) ≡ placeless (said_width r s told)
width_alike p q r s (Err NotDigit) = refl
width_alike p q r s (Err TooLarge) = refl
width_alike p q r s (Ok width) = by (nat_lt width 32)
  where
    by : (b : Bool) → placeless (if b then Err (fault_at BadWidth q) else Ok (Width width p q)) ≡ placeless (if b then Err (fault_at BadWidth s) else Ok (Width width r s))
    by true = refl
    by false = refl

version_alike : (p q r s : Place) (told : Result ℕ NumberFault) → placeless (said_version p q told) ≡ placeless (said_version r s told)
version_alike p q r s (Err NotDigit) = refl
version_alike p q r s (Err TooLarge) = refl
version_alike p q r s (Ok version) = by (version == 0)
  where
    by : (b : Bool) → placeless (if b then Err (fault_at BadVersion q) else Ok (Version version p)) ≡ placeless (if b then Err (fault_at BadVersion s) else Ok (Version version r))
    by true = refl
    by false = refl

section_alike : (p q r s : Place) (told : Result ℕ NumberFault) → placeless (said_section p q told) ≡ placeless (said_section r s told)
section_alike p q r s (Err NotDigit) = refl
section_alike p q r s (Err TooLarge) = refl
section_alike p q r s (Ok number) = refl

register_alike : (p q r s : Place) (name value : Result ℕ NumberFault) → placeless (said_register p q name value) ≡ placeless (said_register r s name value)
register_alike p q r s (Err fault) value = refl
register_alike p q r s (Ok number) (Err fault) = refl
register_alike p q r s (Ok number) (Ok value) = by (number == 0xfe && nat_lt 32 (low_byte value))
  where
    by : (b : Bool) → placeless (if b then Err (fault_at TooManyPairs q) else Ok (Register number value p q)) ≡ placeless (if b then Err (fault_at TooManyPairs s) else Ok (Register number value r s))
    by true = refl
    by false = refl

pair_alike : (p q r s : Place) (name value : List ℕ) → placeless (said_pair p q name value) ≡ placeless (said_pair r s name value)
pair_alike p q r s name value = by (is_word (codes "maxphyaddr") name) (is_word (codes "version") name) (is_word (codes "cpu") name)
  where
    by : (a b c : Bool) → placeless (if a then said_width p q (decimal_number value 52) else if b then said_version p q (decimal_number value 2) else if c then said_section p q (decimal_number value 15) else said_register p q (hex_number name) (hex_number value))
        ≡ placeless (if a then said_width r s (decimal_number value 52) else if b then said_version r s (decimal_number value 2) else if c then said_section r s (decimal_number value 15) else said_register r s (hex_number name) (hex_number value))
    by true b c = width_alike p q r s (decimal_number value 52)
    by false true c = version_alike p q r s (decimal_number value 2)
    by false false true = section_alike p q r s (decimal_number value 15)
    by false false false = register_alike p q r s (hex_number name) (hex_number value)

words_alike : (n m : ℕ) (words : List (ℕ × List ℕ)) → placeless (said_words n words) ≡ placeless (said_words m words)
words_alike n m [] = refl
words_alike n m (first ∷ []) = refl
words_alike n m (first ∷ second ∷ []) = pair_alike (place_of n first) (place_of n second) (place_of m first) (place_of m second) (without_ending 58 first.1) second.1
words_alike n m (first ∷ second ∷ third ∷ more) = refl

line_alike : (n m : ℕ) (line : List ℕ) → placeless (said_of n line) ≡ placeless (said_of m line)
line_alike n m line = by (nat_lt 4096 (length line))
  where
    by : (b : Bool) → placeless (if b then Err (fault_at BadLine (record { line = n; column = 4097 })) else said_words n (words_of line))
        ≡ placeless (if b then Err (fault_at BadLine (record { line = m; column = 4097 })) else said_words m (words_of line))
    by true = refl
    by false = words_alike n m (words_of line)

-- ---- lines

lines_alike : (n m : ℕ) (lines : List (List ℕ)) → map placeless (said_from n lines) ≡ map placeless (said_from m lines)
lines_alike n m [] = refl
lines_alike n m (line ∷ lines) = ap (λ r. r ∷ map placeless (said_from (n + 1) lines)) (line_alike n m line) ∙ ap (λ rs. placeless (said_of m line) ∷ rs) (lines_alike (n + 1) (m + 1) lines)

same_given : (says : List Reading) → given (map placeless says) ≡ given says
same_given [] = refl
same_given (Ok Nothing ∷ says) = same_given says
same_given (Ok (Version version place) ∷ says) = same_given says
same_given (Ok (Section number place) ∷ says) = same_given says
same_given (Ok (Width width first second) ∷ says) = same_given says
same_given (Ok (Register number value first second) ∷ says) = ap (λ gs. let g : ℕ × ℕ = (number, value) in g ∷ gs) (same_given says)
same_given (Err fault ∷ says) = same_given says

same_widths : (says : List Reading) → widths (map placeless says) ≡ widths says
same_widths [] = refl
same_widths (Ok Nothing ∷ says) = same_widths says
same_widths (Ok (Version version place) ∷ says) = same_widths says
same_widths (Ok (Section number place) ∷ says) = same_widths says
same_widths (Ok (Width width first second) ∷ says) = ap (λ ws. width ∷ ws) (same_widths says)
same_widths (Ok (Register number value first second) ∷ says) = same_widths says
same_widths (Err fault ∷ says) = same_widths says

same_versions : (says : List Reading) → versions (map placeless says) ≡ versions says
same_versions [] = refl
same_versions (Ok Nothing ∷ says) = same_versions says
same_versions (Ok (Version version place) ∷ says) = ap (λ vs. version ∷ vs) (same_versions says)
same_versions (Ok (Section number place) ∷ says) = same_versions says
same_versions (Ok (Width width first second) ∷ says) = same_versions says
same_versions (Ok (Register number value first second) ∷ says) = same_versions says
same_versions (Err fault ∷ says) = same_versions says

same_numbers : (says : List Reading) → section_numbers (map placeless says) ≡ section_numbers says
same_numbers [] = refl
same_numbers (Ok Nothing ∷ says) = same_numbers says
same_numbers (Ok (Version version place) ∷ says) = same_numbers says
same_numbers (Ok (Section number place) ∷ says) = ap (λ ns. number ∷ ns) (same_numbers says)
same_numbers (Ok (Width width first second) ∷ says) = same_numbers says
same_numbers (Ok (Register number value first second) ∷ says) = same_numbers says
same_numbers (Err fault ∷ says) = same_numbers says

same_good : (says : List Reading) → list_all is_ok (map placeless says) ≡ list_all is_ok says
same_good [] = refl
same_good (Ok Nothing ∷ says) = same_good says
same_good (Ok (Version version place) ∷ says) = same_good says
same_good (Ok (Section number place) ∷ says) = same_good says
same_good (Ok (Width width first second) ∷ says) = same_good says
same_good (Ok (Register number value first second) ∷ says) = same_good says
same_good (Err fault ∷ says) = refl

same_behind : (says : List Reading) → versions (behind_first (map placeless says)) ≡ versions (behind_first says)
same_behind [] = refl
same_behind (Ok Nothing ∷ says) = same_behind says
same_behind (Ok (Version version place) ∷ says) = same_versions says
same_behind (Ok (Section number place) ∷ says) = same_versions says
same_behind (Ok (Width width first second) ∷ says) = same_versions says
same_behind (Ok (Register number value first second) ∷ says) = same_versions says
same_behind (Err fault ∷ says) = same_versions says

same_up_to : (says : List Reading) → up_to_section (map placeless says) ≡ map placeless (up_to_section says)
same_up_to [] = refl
same_up_to (Ok Nothing ∷ says) = ap (λ ls. placeless (Ok Nothing) ∷ ls) (same_up_to says)
same_up_to (Ok (Version version place) ∷ says) = ap (λ ls. placeless (Ok (Version version place)) ∷ ls) (same_up_to says)
same_up_to (Ok (Section number place) ∷ says) = refl
same_up_to (Ok (Width width first second) ∷ says) = ap (λ ls. placeless (Ok (Width width first second)) ∷ ls) (same_up_to says)
same_up_to (Ok (Register number value first second) ∷ says) = ap (λ ls. placeless (Ok (Register number value first second)) ∷ ls) (same_up_to says)
same_up_to (Err fault ∷ says) = ap (λ ls. placeless (Err fault) ∷ ls) (same_up_to says)

same_sections : (says : List Reading) → behind_sections (map placeless says) ≡ map (map placeless) (behind_sections says)
same_sections [] = refl
same_sections (Ok Nothing ∷ says) = same_sections says
same_sections (Ok (Version version place) ∷ says) = same_sections says
same_sections (Ok (Section number place) ∷ says) = ap (λ ls. ls ∷ behind_sections (map placeless says)) (same_up_to says) ∙ ap (λ ss. map placeless (up_to_section says) ∷ ss) (same_sections says)
same_sections (Ok (Width width first second) ∷ says) = same_sections says
same_sections (Ok (Register number value first second) ∷ says) = same_sections says
same_sections (Err fault ∷ says) = same_sections says

-- Lines that say the same of a dump.
record Alike (new old : List Reading) : Type 0 where
  good : list_all is_ok new ≡ list_all is_ok old
  told : versions new ≡ versions old
  behind : versions (behind_first new) ≡ versions (behind_first old)
  numbers : section_numbers new ≡ section_numbers old
  given_inside : given (up_to_section new) ≡ given (up_to_section old)
  widths_inside : widths (up_to_section new) ≡ widths (up_to_section old)
  given_in : map given (sections_of new) ≡ map given (sections_of old)
  widths_in : map widths (sections_of new) ≡ map widths (sections_of old)

all_given : (sections : List (List Reading)) → map given (map (map placeless) sections) ≡ map given sections
all_given [] = refl
all_given (s ∷ sections) = ap (λ g. g ∷ map given (map (map placeless) sections)) (same_given s) ∙ ap (λ gs. given s ∷ gs) (all_given sections)

all_widths : (sections : List (List Reading)) → map widths (map (map placeless) sections) ≡ map widths sections
all_widths [] = refl
all_widths (s ∷ sections) = ap (λ w. w ∷ map widths (map (map placeless) sections)) (same_widths s) ∙ ap (λ ws. widths s ∷ ws) (all_widths sections)

given_in_sections : (says : List Reading) → map given (sections_of (map placeless says)) ≡ map given (sections_of says)
given_in_sections says = ap (λ bs. map given (sections_in (map placeless says) bs)) (same_sections says) ∙ by (behind_sections says)
  where
    by : (behind : List (List Reading)) → map given (sections_in (map placeless says) (map (map placeless) behind)) ≡ map given (sections_in says behind)
    by [] = all_given (says ∷ [])
    by (s ∷ sections) = all_given (s ∷ sections)

widths_in_sections : (says : List Reading) → map widths (sections_of (map placeless says)) ≡ map widths (sections_of says)
widths_in_sections says = ap (λ bs. map widths (sections_in (map placeless says) bs)) (same_sections says) ∙ by (behind_sections says)
  where
    by : (behind : List (List Reading)) → map widths (sections_in (map placeless says) (map (map placeless) behind)) ≡ map widths (sections_in says behind)
    by [] = all_widths (says ∷ [])
    by (s ∷ sections) = all_widths (s ∷ sections)

alike : (new old : List Reading) → map placeless new ≡ map placeless old → Alike new old
alike new old same = record {
  good = sym (same_good new) ∙ ap (list_all is_ok) same ∙ same_good old;
  told = sym (same_versions new) ∙ ap versions same ∙ same_versions old;
  behind = sym (same_behind new) ∙ ap (λ says. versions (behind_first says)) same ∙ same_behind old;
  numbers = sym (same_numbers new) ∙ ap section_numbers same ∙ same_numbers old;
  given_inside = sym (same_given (up_to_section new)) ∙ ap given (sym (same_up_to new) ∙ ap up_to_section same ∙ same_up_to old) ∙ same_given (up_to_section old);
  widths_inside = sym (same_widths (up_to_section new)) ∙ ap widths (sym (same_up_to new) ∙ ap up_to_section same ∙ same_up_to old) ∙ same_widths (up_to_section old);
  given_in = sym (given_in_sections new) ∙ ap (λ says. map given (sections_of says)) same ∙ given_in_sections old;
  widths_in = sym (widths_in_sections new) ∙ ap (λ says. map widths (sections_of says)) same ∙ widths_in_sections old;
}

-- a line without words before them
behind_nothing : (says : List Reading) → Alike (Ok Nothing ∷ says) says
behind_nothing says = record {
  good = refl;
  told = refl;
  behind = refl;
  numbers = refl;
  given_inside = refl;
  widths_inside = refl;
  given_in = given_by (behind_sections says);
  widths_in = widths_by (behind_sections says);
}
  where
    given_by : (behind : List (List Reading)) → map given (sections_in (Ok Nothing ∷ says) behind) ≡ map given (sections_in says behind)
    given_by [] = refl
    given_by (s ∷ sections) = refl

    widths_by : (behind : List (List Reading)) → map widths (sections_in (Ok Nothing ∷ says) behind) ≡ map widths (sections_in says behind)
    widths_by [] = refl
    widths_by (s ∷ sections) = refl

section_same : (new old : List Reading) (file : RegisterFile) → given new ≡ given old → widths new ≡ widths old → ShowsSection old file → ShowsSection new file
section_same new old file gives has s = record {
  once = λ number. subst (λ g. times number g ≤ 1) (sym gives) (s.once number);
  one_width = subst (λ w. length w ≤ 1) (sym has) s.one_width;
  values = subst (AllByRecursion (λ register. value_at file register.0 ≡ Some register.1)) (sym gives) s.values;
  defaults = λ number none. s.defaults number (ap (times number) (sym gives) ∙ none);
  is_file = s.is_file;
}

abbrev head_of : {X : Type 0} → List (List X) → List X
head_of [] = []
head_of (x ∷ xs) = x

abbrev rest_of : {X : Type 0} → List X → List X
rest_of [] = []
rest_of (x ∷ xs) = xs

later_same : (first : RegisterFile) (new old : List (List Reading)) (files : List RegisterFile) → map given new ≡ map given old → map widths new ≡ map widths old → ShowAllLater first old files → ShowAllLater first new files
later_same first [] [] files gives has shown = shown
later_same first [] (o ∷ old) files gives has shown = cc gives
later_same first (n ∷ new) [] files gives has shown = cc gives
later_same first (n ∷ new) (o ∷ old) [] gives has shown = shown
later_same first (n ∷ new) (o ∷ old) (f ∷ files) gives has shown =
    let g : given n ≡ given o = ap head_of gives in
    let w : widths n ≡ widths o = ap head_of has in (
      record {
        section = section_same n o f g w shown.0.section;
        same_widths = subst (AllByRecursion (λ width. width ≡ first.width)) (sym w) shown.0.same_widths;
        width = shown.0.width;
        capabilities = shown.0.capabilities;
      },
      later_same first new old files (ap rest_of gives) (ap rest_of has) shown.1,
    )

all_same : (new old : List (List Reading)) (files : List RegisterFile) → map given new ≡ map given old → map widths new ≡ map widths old → ShowAll old files → ShowAll new files
all_same [] [] files gives has shown = shown
all_same [] (o ∷ old) files gives has shown = cc gives
all_same (n ∷ new) [] files gives has shown = absurd shown
all_same (n ∷ new) (o ∷ old) [] gives has shown = shown
all_same (n ∷ new) (o ∷ old) (f ∷ files) gives has shown =
    let g : given n ≡ given o = ap head_of gives in
    let w : widths n ≡ widths o = ap head_of has in (
      record {
        section = section_same n o f g w shown.0.section;
        capabilities = (shown.0.capabilities.0, g ∙ shown.0.capabilities.1);
        width = shown.0.width ∙ ap width_of (sym w);
      },
      later_same f new old files (ap rest_of gives) (ap rest_of has) shown.1,
    )

shown_alike : (new old : List Reading) (dump : Dump) → Alike new old → ShownBy old dump → ShownBy new dump
shown_alike new old dump same s = record {
  good = same.good ∙ s.good;
  version = s.version ∙ ap (λ (versions : List ℕ). slice_index_or versions 0 1) (sym same.told);
  told_first = same.behind ∙ s.told_first;
  numbers = same.numbers ∙ s.numbers;
  inside = λ two. (same.given_inside ∙ (s.inside two).0, same.widths_inside ∙ (s.inside two).1);
  sections = all_same (sections_of new) (sections_of old) dump.files same.given_in same.widths_in s.sections;
}

-- ---- a comment

comment_line : (comment text : List ℕ) → list_all (λ b. not (is_line_end b)) comment ≡ true → lines_of (comment ++ 10 ∷ text) ≡ comment ∷ lines_of text
comment_line [] text none = refl
comment_line (byte ∷ bytes) text none =
    let parts = and_parts (not (is_line_end byte)) (list_all (λ b. not (is_line_end b)) bytes) none in
    rw (no_end byte parts.0) (ap (onto_first byte) (comment_line bytes text parts.1))
  where
    no_end : (byte : ℕ) → not (is_line_end byte) ≡ true → is_line_end byte ≡ false
    no_end byte other = grind (arith, nat_tests)

no_words : (comment : List ℕ) → words_of (35 ∷ comment) ≡ []
no_words [] = refl
no_words (byte ∷ bytes) = refl

comment_said : (number : ℕ) (comment : List ℕ) → length comment < 4096 → said_of number (35 ∷ comment) ≡ Ok Nothing
comment_said number comment few =
    let short : nat_lt 4096 (length (35 ∷ comment)) ≡ false = grind (arith, nat_tests) in
    rw short (ap (said_words number) (no_words comment))

pub shown_behind_comment : (comment text : List ℕ) (dump : Dump) → list_all (λ b. not (is_line_end b)) comment ≡ true → length comment < 4096
    → Shown text dump → Shown (35 ∷ (comment ++ 10 ∷ text)) dump
shown_behind_comment comment text dump none few shown =
    let lines : lines_of (35 ∷ (comment ++ 10 ∷ text)) ≡ (35 ∷ comment) ∷ lines_of text = comment_line (35 ∷ comment) text none in
    let says : said_by (35 ∷ (comment ++ 10 ∷ text)) ≡ Ok Nothing ∷ said_from 2 (lines_of text) =
    ap (said_from 1) lines ∙ ap (λ r. r ∷ said_from 2 (lines_of text)) (comment_said 1 comment few) in
    let moved = shown_alike (said_from 2 (lines_of text)) (said_by text) dump (alike (said_from 2 (lines_of text)) (said_by text) (lines_alike 2 1 (lines_of text))) shown in
    subst (λ rs. ShownBy rs dump) (sym says) (shown_alike (Ok Nothing ∷ said_from 2 (lines_of text)) (said_from 2 (lines_of text)) dump (behind_nothing (said_from 2 (lines_of text))) moved)
