-- Facts that tell of files give the files back, and so does a table whose lines are read as registers of a file.
use Rattle.std.proofs.Common.{◌≡◌, ◌∙◌, ◌^◌, ◌<◌, ℕ, Bool, true, false, not, List, [], ◌∷◌, ◌++◌, Some, None, refl, sym, ap, subst, inl, inr, arith, lit<}
use Rattle.std.specs.Prelude.{◌⊎◌}
use Rattle.std.specs.List.{AllByRecursion, list_all}
use Rattle.std.proofs.lemmas.Bool.{and_parts}
use Rattle.mt_text.specs.Text.{is_line_end, lines_of}
use Rattle.mt_text.specs.declared.place.Place.{Place}
use Rattle.mt_text.proofs.Plain.{is_plain, no_line_end}
use Rattle.mt_regs.specs.RegisterFile.{IsRegisterFile, RegisterFile}
use Rattle.mt_regs.specs.Registers.{IsWithin, number_of, value_of}
use Rattle.mt_regs.proofs.ByNumber.{value_at-number_of}
use Rattle.mt_regs.specs.Words.{HasWords}
use Rattle.mt_dump.specs.Canon.{ended}
use Rattle.mt_import.specs.declared.format.Choice.TheVariants.{Only}
use Rattle.mt_import.specs.declared.format.Format.{Format}
use Rattle.mt_import.specs.declared.reading.LineSays.TheVariants.{Width}
use Rattle.mt_import.specs.Readings.{Fact, starts}
use Rattle.mt_import.specs.Shown.{said_of, shown}
use Rattle.mt_import.specs.Slot.{all_bits}
use Rattle.mt_import.specs.Supplied.{Supplied, supplied_value}
use Rattle.mt_import.specs.Outcome.{Seen, findings_of, nothing_seen, facts_outcome, processors, seen_after, slot_shown, values_of}
use Rattle.mt_import.specs.Import.{log_outcome}
use Rattle.mt_import_laws.specs.Origins.{IsAmong}
use Rattle.mt_import_laws.specs.Printed.{Agrees, HoldsTable, Key, ReadsAs, ReadsBack, TableReadsBack, number_at, value_in}
use Rattle.mt_import_laws.proofs.Keys.{IsKey, within_whole}
use Rattle.mt_import_laws.proofs.Whole.{AreAlike, IsPart, IsSeen, IsSound, Prints, alone, any_bits, held, known, no_fault, of_first, one_processor, same_file, seen_last, whole_slot}
use Rattle.mt_import_laws.proofs.TableLines.{HasOwn, HasReading, IsTrueSaid, ShowsKey, gathers, lines_have, lines_show_width, lines_true, no_more_true}
use Rattle.mt_import_laws.proofs.Back.{HasWidth, by_lines, by_word, dump_from, ended_back, width_back}

-- a line of the table shows all of the register
pub record HasLine (format : Format) (table : List (List ℕ)) (key : Key) : Type 0 where
  pub line : List ℕ
  pub among : IsAmong line table
  pub shows : (number : ℕ) → ShowsKey key all_bits (said_of format number line)

-- the file has the register
abbrev pub IsInFile : RegisterFile → Key → Type 0
IsInFile file None = Unit {0}
IsInFile file (Some register) = IsWithin file register

pub key_in_file : (file : RegisterFile) (key : Key) → IsRegisterFile file → IsInFile file key → IsKey key
key_in_file file None is within = tt
key_in_file file (Some register) is within = within_whole file register is within

pub fits : (file : RegisterFile) (key : Key) → IsRegisterFile file → HasWords file → IsInFile file key → value_in file key < 2 ^ 64
fits file None is words within = words 0xfe file.capabilities refl
fits file (Some register) is words within = words (number_of register) (value_of file register) (value_at-number_of file register is within)

-- a word gives the register
abbrev pub IsGiven : Supplied → RegisterFile → Key → Type 0
IsGiven supplied file key = supplied_value supplied (number_at key) ≡ Some (value_in file key)

-- The lines of a table tell of a file alone, and show each register that words don't give.
pub record IsReadAs (file : RegisterFile) (format : Format) (table : List (List ℕ)) (supplied : Supplied) : Type 0 where
  pub each : (line : List ℕ) → IsAmong line table → (number : ℕ) → IsTrueSaid file any_bits 0 (said_of format number line)
  pub all : (key : Key) → IsInFile file key → HasLine format table key ⊎ IsGiven supplied file key

-- words or a line of a table give the width
pub record WidthLine (format : Format) (file : RegisterFile) (table : List (List ℕ)) : Type 0 where
  pub line : List ℕ
  pub among : IsAmong line table
  pub place : ℕ → Place
  pub shows : (number : ℕ) → said_of format number line ≡ Width file.width (place number)

-- ---- facts that tell of files

-- what facts come to
abbrev pub gathered : Format → List Fact → Seen
gathered format facts = seen_after (nothing_seen (Some format)) facts

-- the value of a processor's register comes back
abbrev pub IsBack : (ℕ → RegisterFile) → Format → Supplied → List Fact → ℕ → Key → Type 0
IsBack files format supplied facts k key = values_of supplied (findings_of (gathered format facts)) k (number_at key) ≡ Some (value_in (files k) key)

module _ (files : ℕ → RegisterFile) (count : ℕ) (prints : Prints) (format : Format) (supplied : Supplied) (alike : AreAlike files count) (words : (k : ℕ) → k < count → HasWords (files k))
    (facts : List Fact) (sound : AllByRecursion (IsSound files count prints) facts) where
  seen : Seen
  seen = gathered format facts

  is_seen : IsSeen files count prints seen
  unfolding seen
  is_seen = seen_last files count prints facts (nothing_seen (Some format)) (record { readings = tt; width = tt }) sound

  pub gathered_seen : IsSeen files count prints (gathered format facts)
  unfolding seen
  gathered_seen = is_seen

  fit : (k : ℕ) → k < count → (key : Key) → IsInFile (files k) key → value_in (files k) key < 2 ^ 64
  fit k less key within = fits (files k) key (alike.is_file k less) (words k less) within

  is_key : (k : ℕ) → k < count → (key : Key) → IsInFile (files k) key → IsKey key
  is_key k less key within = key_in_file (files k) key (alike.is_file k less) within

  -- by a register of which all is shown
  by_slot : (k : ℕ) → k < count → (key : Key) → IsInFile (files k) key → (slot_shown seen.readings k (number_at key)).fresh ≡ all_bits
      → values_of supplied (findings_of seen) k (number_at key) ≡ Some (value_in (files k) key)
  by_slot k less key within whole =
      by_lines supplied seen k (number_at key) (value_in (files k) key)
      (whole_slot (slot_shown seen.readings k (number_at key)) (value_in (files k) key) (known files count prints seen.readings k key is_seen.readings (is_key k less key within)) (fit k less key within) whole)

  pub slot_back : (k : ℕ) → k < count → (key : Key) → IsInFile (files k) key → (slot_shown (gathered format facts).readings k (number_at key)).fresh ≡ all_bits → IsBack files format supplied facts k key
  unfolding seen
  slot_back k less key within whole = by_slot k less key within whole

  by_fact : (k : ℕ) → k < count → (key : Key) → IsInFile (files k) key → HasOwn k key all_bits facts ⊎ IsGiven supplied (files k) key → values_of supplied (findings_of seen) k (number_at key) ≡ Some (value_in (files k) key)
  unfolding seen
  by_fact k less key within (inl has) =
      by_slot k less key within
      (held files count prints seen.readings k has.reading key is_seen.readings (is_key k less key within) (gathers facts (nothing_seen (Some format)) has.reading (inl has.among)) has.own has.number has.bits)
  by_fact k less key within (inr given) =
      by_word supplied seen k (number_at key) (value_in (files k) key) (known files count prints seen.readings k key is_seen.readings (is_key k less key within)) (fit k less key within) given

  pub fact_back : (k : ℕ) → k < count → (key : Key) → IsInFile (files k) key → HasOwn k key all_bits facts ⊎ IsGiven supplied (files k) key → IsBack files format supplied facts k key
  unfolding seen
  fact_back k less key within by = by_fact k less key within by

  pub values_back : ((k : ℕ) → k < count → Agrees supplied (files k)) → HasWidth (files 0) supplied facts → processors (gathered format facts).readings ≡ count
      → ((k : ℕ) → k < count → (key : Key) → IsInFile (files k) key → IsBack files format supplied facts k key) → ReadsAs (facts_outcome false supplied (nothing_seen (Some format)) facts) (dump_from files count)
  unfolding seen
  values_back agrees width number all =
      let none = no_fault files count prints alike supplied agrees facts (nothing_seen (Some format)) (record { readings = tt; width = tt }) sound in
      rw none
      (ended_back false supplied seen files count alike number
      (width_back files count prints supplied (slot_shown seen.readings) facts (nothing_seen (Some format)) sound is_seen.width width) (λ k less. all k less None tt) (λ k less register within. all k less (Some register) within))

-- ---- facts that tell of one file

module _ (file : RegisterFile) (prints : Prints) (format : Format) (supplied : Supplied) (is : IsRegisterFile file) (words : HasWords file)
    (facts : List Fact) (sound : AllByRecursion (IsSound (same_file file) 1 prints) facts) where
  abbrev OneBack : Key → Type 0
  OneBack key = IsBack (same_file file) format supplied facts 0 key

  only : AllByRecursion (IsPart (same_file file) 1 prints) (gathered format facts).readings
  only = (gathered_seen (same_file file) 1 prints format supplied (alone file is) (λ k less. words) facts sound).readings

  of_processor : (key : Key) → HasReading key all_bits facts → HasOwn 0 key all_bits facts
  of_processor key has = record { reading = has.reading; among = has.among; number = has.number; bits = has.bits; own = of_first file prints (gathered format facts).readings has.reading only (gathers facts (nothing_seen (Some format)) has.reading (inl has.among)) }

  pub one_by_slot : (key : Key) → IsInFile file key → (slot_shown (gathered format facts).readings 0 (number_at key)).fresh ≡ all_bits → OneBack key
  one_by_slot key within whole = slot_back (same_file file) 1 prints format supplied (alone file is) (λ k less. words) facts sound 0 (lit< tt) key within whole

  pub one_by_fact : (key : Key) → IsInFile file key → HasReading key all_bits facts ⊎ IsGiven supplied file key → OneBack key
  one_by_fact key within (inl has) = fact_back (same_file file) 1 prints format supplied (alone file is) (λ k less. words) facts sound 0 (lit< tt) key within (inl (of_processor key has))
  one_by_fact key within (inr given) = fact_back (same_file file) 1 prints format supplied (alone file is) (λ k less. words) facts sound 0 (lit< tt) key within (inr given)

  pub one_back : Agrees supplied file → HasWidth file supplied facts → ((key : Key) → IsInFile file key → OneBack key) → ReadsBack (facts_outcome false supplied (nothing_seen (Some format)) facts) file
  one_back agrees width all =
      values_back (same_file file) 1 prints format supplied (alone file is) (λ k less. words) facts sound (λ k less. agrees) width (one_processor file prints (gathered format facts).readings is only)
      (λ k less key within. subst (λ j. IsBack (same_file file) format supplied facts j key) (zero_of k less) (all key within))
    where
      zero_of : (k : ℕ) → k < 1 → 0 ≡ k
      zero_of k less = omega (arith, less)

pub facts_back : (file : RegisterFile) (prints : Prints) (format : Format) (supplied : Supplied) → IsRegisterFile file → HasWords file → Agrees supplied file → (facts : List Fact) → HasWidth file supplied facts
    → AllByRecursion (IsSound (same_file file) 1 prints) facts → ((key : Key) → IsInFile file key → HasReading key all_bits facts ⊎ IsGiven supplied file key) → ReadsBack (facts_outcome false supplied (nothing_seen (Some format)) facts) file
facts_back file prints format supplied is words agrees facts width sound all =
    one_back file prints format supplied is words facts sound agrees width (λ key within. one_by_fact file prints format supplied is words facts sound key within (all key within))

-- ---- a log that holds a table

module _ (file : RegisterFile) (format : Format) (table : List (List ℕ)) (supplied : Supplied) (text : List ℕ)
    (is : IsRegisterFile file) (words : HasWords file) (agrees : Agrees supplied file) (width : (supplied.width ≡ Some file.width) ⊎ WidthLine format file table)
    (read : IsReadAs file format table supplied) (holds : HoldsTable format file table text) where
  all_true : (line : List ℕ) → IsAmong line (lines_of text) → (number : ℕ) → IsTrueSaid file any_bits 0 (said_of format number line)
  all_true line among number = elim (holds.others line among) [
    | inl own ↦ read.each line own number
    | inr more ↦ no_more_true format file any_bits (said_of format number line) is (λ shown key same at. refl) (more number)
  ]

  width_shown : HasWidth file supplied (shown (Some format) text)
  width_shown = elim width [
    | inl given ↦ inl given
    | inr line ↦ inr (lines_show_width format (lines_of text) (starts (Some format)) 1 line.line file.width line.place refl (holds.has line.line line.among) line.shows)
  ]

  all_shown : (key : Key) → IsInFile file key → HasReading key all_bits (shown (Some format) text) ⊎ IsGiven supplied file key
  all_shown key within = elim (read.all key within) [
    | inl line ↦ inl (lines_have format (lines_of text) (starts (Some format)) 1 key all_bits line.line refl (key_in_file file key is within) (holds.has line.line line.among) line.shows)
    | inr given ↦ inr given
  ]

  reads_back : ReadsBack (log_outcome (Only format) supplied text) file
  reads_back =
      facts_back file any_bits format supplied is words agrees (shown (Some format) text) width_shown
      (lines_true (same_file file) 1 any_bits 0 (lit< tt) refl format (lines_of text) (starts (Some format)) 1 refl refl all_true) all_shown

-- ---- the table alone

-- no byte of a line ends it
abbrev pub IsOneLine : List ℕ → Type 0
IsOneLine line = list_all (λ byte. not (is_line_end byte)) line ≡ true

ended_line : (line rest : List ℕ) → IsOneLine line → lines_of (line ++ 10 ∷ rest) ≡ line ∷ lines_of rest
ended_line [] rest one = refl
ended_line (byte ∷ bytes) rest one =
    let parts = and_parts (not (is_line_end byte)) (list_all (λ other. not (is_line_end other)) bytes) one in
    rw (not_true (is_line_end byte) parts.0, ended_line bytes rest parts.1) refl
  where
    not_true : (test : Bool) → not test ≡ true → test ≡ false
    not_true true is = cc is
    not_true false is = refl

pub one_lines_back : (lines : List (List ℕ)) → AllByRecursion IsOneLine lines → lines_of (ended lines) ≡ lines
one_lines_back [] ones = refl
one_lines_back (line ∷ lines) ones = ended_line line (ended lines) ones.0 ∙ ap (λ ls. line ∷ ls) (one_lines_back lines ones.1)

one_line : (line : List ℕ) → list_all is_plain line ≡ true → IsOneLine line
one_line [] plain = refl
one_line (byte ∷ bytes) plain =
    let parts = and_parts (is_plain byte) (list_all is_plain bytes) plain in
    rw (no_line_end byte parts.0) (one_line bytes parts.1)

pub one_lines : (lines : List (List ℕ)) → AllByRecursion (λ line. list_all is_plain line ≡ true) lines → AllByRecursion IsOneLine lines
one_lines [] plain = tt
one_lines (line ∷ lines) plain = (one_line line plain.0, one_lines lines plain.1)

pub lines_back : (lines : List (List ℕ)) → AllByRecursion (λ line. list_all is_plain line ≡ true) lines → lines_of (ended lines) ≡ lines
lines_back lines plain = one_lines_back lines (one_lines lines plain)

holds_itself : (format : Format) (file : RegisterFile) (table : List (List ℕ)) → AllByRecursion (λ line. list_all is_plain line ≡ true) table → HoldsTable format file table (ended table)
holds_itself format file table plain =
    let same = lines_back table plain in
    record { has = λ line among. subst (IsAmong line) (sym same) among; others = λ line among. inl (subst (IsAmong line) same among) }

-- ---- both

module _ (file : RegisterFile) (format : Format) (table : List (List ℕ)) (supplied : Supplied)
    (is : IsRegisterFile file) (words : HasWords file) (agrees : Agrees supplied file) (width : (supplied.width ≡ Some file.width) ⊎ WidthLine format file table)
    (read : IsReadAs file format table supplied) (plain : AllByRecursion (λ line. list_all is_plain line ≡ true) table) where
  pub table_back : TableReadsBack format table supplied file
  table_back = record {
    alone = reads_back file format table supplied (ended table) is words agrees width read (holds_itself format file table plain);
    among = λ text holds. reads_back file format table supplied text is words agrees width read holds;
  }
