-- What x86info prints of all processors reads back.
use Rattle.std.proofs.Common.{◌≡◌, ◌∙◌, ◌+◌, ◌<◌, ◌≤◌, ℕ, zero, suc, true, not, List, [], ◌∷◌, ◌++◌, length, None, Some, refl, sym, ap, subst, inl, inr, arith}
use Rattle.std.specs.Fmt.{digits}
use Rattle.std.specs.Prelude.{◌⊎◌}
use Rattle.std.specs.List.{AllByRecursion, list_all}
use Rattle.std.proofs.lemmas.Bool.{cases_lt}
use Rattle.mt_text.specs.Text.{is_line_end}
use Rattle.mt_text.specs.declared.place.Place.{Place}
use Rattle.mt_regs.specs.RegisterFile.{RegisterFile}
use Rattle.mt_regs.specs.Words.{HasWords}
use Rattle.mt_dump.specs.Canon.{ended}
use Rattle.mt_import.specs.declared.format.Choice.TheVariants.{Only}
use Rattle.mt_import.specs.declared.format.Format.TheVariants.{X86info}
use Rattle.mt_import.specs.declared.reading.Context.{Context}
use Rattle.mt_import.specs.declared.reading.LineSays.TheVariants.{Turns}
use Rattle.mt_import.specs.declared.reading.Turn.TheVariants.{To}
use Rattle.mt_import.specs.Readings.{Fact, is_line, is_match, is_width, starts}
use Rattle.mt_import.specs.Shown.{context_behind, facts_from, facts_of_line, said_of}
use Rattle.mt_import.specs.Slot.{all_bits}
use Rattle.mt_import.specs.Supplied.{Supplied}
use Rattle.mt_import.specs.Import.{log_outcome}
use Rattle.mt_import_laws.specs.FirstLine.{IsOfNoHost, takes}
use Rattle.mt_import_laws.specs.Origins.{IsAmong, context_after_lines}
use Rattle.mt_import_laws.specs.Printed.{Agrees, Key, ReadsAs, dump_of_all}
use Rattle.mt_import_laws.specs.PrintedByX86info.{Print, SuitsX86info, SuitsX86infoOfAll, cpu_line, cpu_lines, files_in, line_of, x86info_lines}
use Rattle.mt_import_laws.proofs.Among.{join_among_first, join_among_second}
use Rattle.mt_import_laws.proofs.Back.{HasWidth}
use Rattle.mt_import_laws.proofs.Below.{passes}
use Rattle.mt_import_laws.proofs.InteltoolLines.{turns_as, turns_to}
use Rattle.mt_import_laws.proofs.PrintedBack.{HasLine, IsGiven, IsInFile, IsOneLine, WidthLine, one_lines_back, key_in_file, one_lines}
use Rattle.mt_import_laws.proofs.Several.{are_alike, file_at, first_at, several_back}
use Rattle.mt_import_laws.proofs.TableLines.{HasOwn, IsTrueSaid, all_join, facts_split, lines_format, lines_have_own, lines_show_width, lines_true, next_format, own_first, own_later}
use Rattle.mt_import_laws.proofs.Whole.{AreAlike, IsSound, any_bits}
use Rattle.mt_import_laws.proofs.X86infoTable.{all_told_first, capability_line, each_key, table_plain, table_true, width}

-- ---- `CPU #1:`

turns : (k number : ℕ) → k < 16 → said_of X86info number (cpu_line k) ≡ Turns (To k)
unfolding digits
turns k number less = turns_as k (said_of X86info number (cpu_line k)) (passes (λ j. turns_to j (said_of X86info number (cpu_line j))) 16 k refl less)

one_cpu_line : (k : ℕ) → k < 16 → IsOneLine (cpu_line k)
unfolding digits
one_cpu_line k less = passes (λ j. list_all (λ byte. not (is_line_end byte)) (cpu_line j)) 16 k refl less

-- ---- the lines, by the places of processors

print_at : List (Print × RegisterFile) → ℕ → Print
print_at [] k = record { names = λ key. []; fields = λ key. []; virtual = None }
print_at (cpu ∷ cpus) zero = cpu.0
print_at (cpu ∷ cpus) (suc k) = print_at cpus k

abbrev lines_by : (ℕ → Print) → (ℕ → RegisterFile) → ℕ → ℕ → List (List ℕ)
lines_by prints files k zero = []
lines_by prints files k (suc n) = cpu_line k ∷ (x86info_lines (prints k) (files k) ++ lines_by prints files (k + 1) n)

same_lines : (cpus : List (Print × RegisterFile)) (prints : ℕ → Print) (files : ℕ → RegisterFile) (k : ℕ) → ((j : ℕ) → j < length cpus → (print_at cpus j ≡ prints (k + j)) × (file_at (files_in cpus) j ≡ files (k + j)))
    → cpu_lines k cpus ≡ lines_by prints files k (length cpus)
unfolding print_at
same_lines [] prints files k same = refl
same_lines (cpu ∷ cpus) prints files k same =
    let none : k + 0 ≡ k = omega arith in
    let here = same 0 (omega arith) in
    ap (λ p. cpu_line k ∷ (x86info_lines p cpu.1 ++ cpu_lines (k + 1) cpus)) (here.0 ∙ ap prints none)
    ∙ ap (λ f. cpu_line k ∷ (x86info_lines (prints k) f ++ cpu_lines (k + 1) cpus)) (here.1 ∙ ap files none)
    ∙ ap (λ (ls : List (List ℕ)). cpu_line k ∷ (x86info_lines (prints k) (files k) ++ ls))
    (same_lines cpus prints files (k + 1) (λ j less. let later = same (suc j) (omega (arith, less)) in (later.0 ∙ ap prints (shift k j), later.1 ∙ ap files (shift k j))))
  where
    shift : (a b : ℕ) → a + suc b ≡ a + 1 + b
    shift a b = omega arith

long : (cpus : List (Print × RegisterFile)) → length (files_in cpus) ≡ length cpus
long [] = refl
long (cpu ∷ cpus) = let later = long cpus in omega (arith, later)

suits_at : (supplied : Supplied) (cpus : List (Print × RegisterFile)) (k : ℕ) → k < length cpus → AllByRecursion (λ (cpu : Print × RegisterFile). SuitsX86info cpu.0 cpu.1 supplied) cpus
    → SuitsX86info (print_at cpus k) (file_at (files_in cpus) k) supplied
unfolding print_at
suits_at supplied [] k less all = absurd (omega (arith, less))
suits_at supplied (cpu ∷ cpus) zero less all = all.0
suits_at supplied (cpu ∷ cpus) (suc k) less all = suits_at supplied cpus k (omega (arith, less)) all.1

of_files : (supplied : Supplied) (P : RegisterFile → Type 0) → ((print : Print) (file : RegisterFile) → SuitsX86info print file supplied → P file) → (cpus : List (Print × RegisterFile))
    → AllByRecursion (λ (cpu : Print × RegisterFile). SuitsX86info cpu.0 cpu.1 supplied) cpus → AllByRecursion P (files_in cpus)
of_files supplied P each [] all = tt
of_files supplied P each (cpu ∷ cpus) all = (each cpu.0 cpu.1 all.0, of_files supplied P each cpus all.1)

-- ---- what all lines come to

abbrev Behind : (List Fact → Type 0) → List (List ℕ) → Type 0
Behind Q lines = (context : Context) (number : ℕ) → context.format ≡ Some X86info → Q (facts_from context number lines)

module _ (prints : ℕ → Print) (files : ℕ → RegisterFile) (count : ℕ) (supplied : Supplied) (alike : AreAlike files count) (suits : (k : ℕ) → k < count → SuitsX86info (prints k) (files k) supplied) where
  abbrev Sound : List Fact → Type 0
  Sound = AllByRecursion (IsSound files count any_bits)

  abbrev block : ℕ → List (List ℕ)
  block k = x86info_lines (prints k) (files k)

  below : (k : ℕ) → k < count → k < 16
  below k less = let few = alike.few in omega (arith, less, few)

  -- ---- one processor

  module _ (k : ℕ) (less : k < count) (context : Context) (number : ℕ) (is : context.format ≡ Some X86info) where
    -- behind the line of the processor
    abbrev turned : Context
    turned = context_behind context number (cpu_line k)

    turned_format : turned.format ≡ Some X86info
    turned_format = next_format X86info context number (cpu_line k) is

    turned_to : turned.processor ≡ Some k
    turned_to = rw (is, turns k number (below k less)) refl

    cpu_facts : facts_of_line context number (cpu_line k) ≡ is_line number (Some X86info) true ∷ []
    cpu_facts = rw (is, turns k number (below k less)) refl

    -- behind its registers
    abbrev last : Context
    last = context_after_lines turned (number + 1) (block k)

    last_format : last.format ≡ Some X86info
    last_format = lines_format X86info (block k) turned (number + 1) turned_format

    abbrev block_facts : List Fact
    block_facts = facts_from turned (number + 1) (block k)

    own_true : (line : List ℕ) → IsAmong line (block k) → (at : ℕ) → IsTrueSaid (files k) any_bits k (said_of X86info at line)
    own_true = table_true k (prints k) (files k) supplied (suits k less)

    block_sound : Sound block_facts
    block_sound = lines_true files count any_bits k less (alike.widths k less) X86info (block k) turned (number + 1) turned_format turned_to own_true

    block_has : (key : Key) → IsInFile (files k) key → HasLine X86info (block k) key → HasOwn k key all_bits block_facts
    block_has key within has =
        lines_have_own files count any_bits k less (alike.widths k less) X86info (block k) turned (number + 1) key all_bits has.line turned_format turned_to own_true (key_in_file (files k) key (alike.is_file k less) within) has.among has.shows

    -- what the lines of the processor and those behind them come to
    split : (rest : List (List ℕ)) → facts_from context number (cpu_line k ∷ (block k ++ rest)) ≡ facts_of_line context number (cpu_line k) ++ (block_facts ++ facts_from last (number + 1 + length (block k)) rest)
    split rest = ap (λ (fs : List Fact). facts_of_line context number (cpu_line k) ++ fs) (facts_split (block k) turned (number + 1) rest)

  -- ---- all of them

  all_sound : (k n : ℕ) → k + n ≤ count → Behind Sound (lines_by prints files k n)
  all_sound k zero within context number is = tt
  all_sound k (suc n) within context number is =
      let less : k < count = omega (arith, within) in
      let rest = lines_by prints files (k + 1) n in
      let behind : List Fact = facts_from (last k less context number is) (number + 1 + length (block k)) rest in
      subst Sound (sym (split k less context number is rest))
      (all_join (IsSound files count any_bits) (facts_of_line context number (cpu_line k)) (block_facts k less context number is ++ behind)
      (subst Sound (sym (cpu_facts k less context number is)) (tt, tt))
      (all_join (IsSound files count any_bits) (block_facts k less context number is) behind (block_sound k less context number is)
      (all_sound (k + 1) n (omega (arith, within)) (last k less context number is) (number + 1 + length (block k)) (last_format k less context number is))))

  all_have : (j : ℕ) (key : Key) (k n : ℕ) → k + n ≤ count → k ≤ j → j < k + n → IsInFile (files j) key → HasLine X86info (block j) key → Behind (HasOwn j key all_bits) (lines_by prints files k n)
  all_have j key k zero within low high inside has context number is = absurd (omega (arith, low, high))
  all_have j key k (suc n) within low high inside has context number is =
      let less : k < count = omega (arith, within) in
      let rest = lines_by prints files (k + 1) n in
      let behind : List Fact = facts_from (last k less context number is) (number + 1 + length (block k)) rest in
      subst (HasOwn j key all_bits) (sym (split k less context number is rest))
      (own_later j key all_bits (facts_of_line context number (cpu_line k)) (block_facts k less context number is ++ behind)
      (elim (cases_lt k j) [
        | inl below_j ↦
            own_later j key all_bits (block_facts k less context number is) behind
            (all_have j key (k + 1) n (omega (arith, within)) (omega (arith, below_j)) (omega (arith, high)) inside has (last k less context number is) (number + 1 + length (block k)) (last_format k less context number is))
        | inr above ↦
            let same : j ≡ k = omega (arith, low, above) in
            own_first j key all_bits (block_facts k less context number is) behind
            (subst (λ i. HasOwn i key all_bits (block_facts k less context number is)) (sym same)
            (block_has k less context number is key (subst (λ i. IsInFile (files i) key) same inside) (subst (λ i. HasLine X86info (block i) key) same has)))
      ]))

  -- the width that the first processor's lines show
  abbrev HasW : List Fact → Type 0
  HasW facts = (place : Place) × IsAmong (is_width (files 0).width place) facts

  first_width : (n : ℕ) → suc n ≤ count → WidthLine X86info (files 0) (block 0) → Behind HasW (lines_by prints files 0 (suc n))
  first_width n within line context number is =
      let less : 0 < count = omega (arith, within) in
      let rest = lines_by prints files 1 n in
      let behind : List Fact = facts_from (last 0 less context number is) (number + 1 + length (block 0)) rest in
      let has = lines_show_width X86info (block 0) (turned 0 less context number is) (number + 1) line.line (files 0).width line.place (turned_format 0 less context number is) line.among line.shows in
      subst HasW (sym (split 0 less context number is rest)) (
        has.0,
        join_among_second (facts_of_line context number (cpu_line 0)) (block_facts 0 less context number is ++ behind) (is_width (files 0).width has.0)
            (join_among_first (block_facts 0 less context number is) behind (is_width (files 0).width has.0) has.1),
      )

  all_ones : (k n : ℕ) → k + n ≤ count → AllByRecursion IsOneLine (lines_by prints files k n)
  all_ones k zero within = tt
  all_ones k (suc n) within =
      let less : k < count = omega (arith, within) in
      (one_cpu_line k (below k less), all_join IsOneLine (block k) (lines_by prints files (k + 1) n) (one_lines (block k) (table_plain k (prints k) (files k) supplied (suits k less))) (all_ones (k + 1) n (omega (arith, within))))

-- ---- the text

module _ (cpus : List (Print × RegisterFile)) (supplied : Supplied) (suits : SuitsX86infoOfAll cpus supplied) where
  abbrev files : List RegisterFile
  files = files_in cpus

  alike : AreAlike (file_at files) (length files)
  alike = are_alike files suits.is_dump

  each : (k : ℕ) → k < length files → SuitsX86info (print_at cpus k) (file_at files k) supplied
  each k less = let same = long cpus in suits_at supplied cpus k (omega (arith, less, same)) suits.each

  same : cpu_lines 0 cpus ≡ lines_by (print_at cpus) (file_at files) 0 (length files)
  same =
      same_lines cpus (print_at cpus) (file_at files) 0 (λ j less. let e : j ≡ 0 + j = omega arith in (ap (print_at cpus) e, ap (file_at files) e))
      ∙ ap (lines_by (print_at cpus) (file_at files) 0) (sym (long cpus))

  abbrev facts : List Fact
  facts = facts_from (starts (Some X86info)) 1 (cpu_lines 0 cpus)

  ones : AllByRecursion IsOneLine (cpu_lines 0 cpus)
  ones = subst (AllByRecursion IsOneLine) (sym same) (all_ones (print_at cpus) (file_at files) (length files) supplied alike each 0 (length files) (omega arith))

  sound : AllByRecursion (IsSound (file_at files) (length files) any_bits) facts
  sound =
      subst (λ ls. AllByRecursion (IsSound (file_at files) (length files) any_bits) (facts_from (starts (Some X86info)) 1 ls)) (sym same)
      (all_sound (print_at cpus) (file_at files) (length files) supplied alike each 0 (length files) (omega arith) (starts (Some X86info)) 1 refl)

  have : (k : ℕ) → k < length files → (key : Key) → IsInFile (file_at files k) key → HasLine X86info (x86info_lines (print_at cpus k) (file_at files k)) key → HasOwn k key all_bits facts
  have k less key within line =
      subst (λ ls. HasOwn k key all_bits (facts_from (starts (Some X86info)) 1 ls)) (sym same)
      (all_have (print_at cpus) (file_at files) (length files) supplied alike each k key 0 (length files) (omega arith) (omega arith) (omega (arith, less)) within line (starts (Some X86info)) 1 refl)

  by : (k : ℕ) → k < length files → (key : Key) → IsInFile (file_at files k) key → HasLine X86info (x86info_lines (print_at cpus k) (file_at files k)) key ⊎ IsGiven supplied (file_at files k) key
      → HasOwn k key all_bits facts ⊎ IsGiven supplied (file_at files k) key
  by k less key within (inl line) = inl (have k less key within line)
  by k less key within (inr given) = inr given

  width_by : (n : ℕ) → length files ≡ suc n → (supplied.width ≡ Some (file_at files 0).width) ⊎ WidthLine X86info (file_at files 0) (x86info_lines (print_at cpus 0) (file_at files 0)) → HasWidth (file_at files 0) supplied facts
  width_by n size (inl given) = inl given
  width_by n size (inr line) =
      inr (subst (λ ls. (place : Place) × IsAmong (is_width (file_at files 0).width place) (facts_from (starts (Some X86info)) 1 ls)) (sym (same ∙ ap (lines_by (print_at cpus) (file_at files) 0) size))
      (first_width (print_at cpus) (file_at files) (length files) supplied alike each n (omega (arith, size)) line (starts (Some X86info)) 1 refl))

  shown_width : (n : ℕ) → length files ≡ n → HasWidth (file_at files 0) supplied facts
  shown_width zero none = let some = alike.some in absurd (omega (arith, some, none))
  shown_width (suc n) size =
      let less : 0 < length files = omega (arith, size) in
      width_by n size (width 0 (print_at cpus 0) (file_at files 0) supplied (each 0 less) (print_at cpus 0).virtual refl)

  pub reads : ReadsAs (log_outcome (Only X86info) supplied (ended (cpu_lines 0 cpus))) (dump_of_all files)
  reads =
      several_back X86info any_bits supplied files suits.is_dump (of_files supplied HasWords (λ print file is. is.has_words) cpus suits.each) (of_files supplied (Agrees supplied) (λ print file is. is.agrees) cpus suits.each)
      (cpu_lines 0 cpus) (one_lines_back (cpu_lines 0 cpus) ones) sound (subst (λ file. HasWidth file supplied facts) (first_at files) (shown_width (length files) refl))
      (λ k less. have k less None tt (first_line k less))
      (λ k less key within. by k less key within (each_key k (print_at cpus k) (file_at files k) supplied (each k less) key within))
    where
      first_line : (k : ℕ) → k < length files → HasLine X86info (x86info_lines (print_at cpus k) (file_at files k)) None
      first_line k less = capability_line k (print_at cpus k) (file_at files k) supplied (each k less)

-- Of several processors too `auto` takes the format.
pub several_taken : (print : Print) (file : RegisterFile) (cpus : List (Print × RegisterFile)) (supplied : Supplied) → SuitsX86infoOfAll ((print, file) ∷ cpus) supplied → IsOfNoHost (line_of print file None)
    → takes (cpu_lines 0 ((print, file) ∷ cpus)) ≡ Some X86info
several_taken print file cpus supplied suits host =
    let alike = are_alike (files_in ((print, file) ∷ cpus)) suits.is_dump in
    let count = long ((print, file) ∷ cpus) in
    let few = alike.few in
    all_told_first print file cpus supplied suits.each (λ j number less. ap is_match (turns j number (omega (arith, less, count, few)))) host
