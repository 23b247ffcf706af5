-- Lines of a kernel's table in their order, among lines that say no more of a dump than the file.
use Rattle.std.proofs.Common.{◌≡◌, ◌∙◌, ◌+◌, ◌==◌, ℕ, Bool, true, false, List, [], ◌∷◌, ◌++◌, Option, Some, None, refl, sym, ap, subst, inl, inr, lit<}
use Rattle.std.specs.Prelude.{◌||◌, if◌then◌else◌}
use Rattle.std.specs.List.{AllByRecursion}
use Rattle.mt_regs.specs.declared.registers.Register.TheVariants.{PhysBase, PhysMask, FixedRange, Pat, DefaultType}
use Rattle.mt_regs.specs.RegisterFile.{IsRegisterFile, RegisterFile, pair_at}
use Rattle.mt_import.specs.declared.format.Format.{Format}
use Rattle.mt_import.specs.declared.reading.Context.{Context}
use Rattle.mt_import.specs.declared.reading.LineSays.{LineSays}
use Rattle.mt_import.specs.declared.reading.LineSays.TheVariants.{Nothing, Shows, Turns, Warns, Width}
use Rattle.mt_import.specs.declared.reading.Turn.TheVariants.{To}
use Rattle.mt_import.specs.declared.shape.FixedLine.{FixedLine}
use Rattle.mt_import.specs.declared.shape.Shown.{Shown}
use Rattle.mt_import.specs.Readings.{Fact, fixed_after, is_line, is_match, is_register, is_register_value, named_processor, processor_after, said_facts, shown_facts, shows_facts, table_behind}
use Rattle.mt_import.specs.Shown.{context_behind, facts_from, facts_of_line, said_of}
use Rattle.mt_import_laws.specs.Origins.{IsAmong, context_after_lines}
use Rattle.mt_import_laws.specs.Printed.{IsSame, Key, SaysNoMore, TellsNoMore, Weaves, is_kernel, no_match, number_at, only_shows, only_turns, only_warns, only_width}
use Rattle.mt_import_laws.specs.PrintedByEdk2.{is_valid}
use Rattle.mt_import_laws.proofs.Among.{each_among}
use Rattle.mt_import_laws.proofs.Bits.{same_number}
use Rattle.mt_import_laws.proofs.KernelParts.{kernel_bits}
use Rattle.mt_import_laws.proofs.PartsBack.{IsOfTable}
use Rattle.mt_import_laws.proofs.TableLines.{IsTrueShown, all_join, lines_true, no_more_true, of_line, said_true, shows_true}
use Rattle.mt_import_laws.proofs.Whole.{IsSound, same_file}

-- ---- each line of the table is one of the log, and each line of the log one of the table or no more
pub weaves_among : (format : Format) (file : RegisterFile) (table log : List (List ℕ)) (line : List ℕ) → Weaves format file table log → IsAmong line table → IsAmong line log
weaves_among format file [] log line weaves among = absurd among
weaves_among format file (first ∷ table) [] line weaves among = absurd weaves
weaves_among format file (first ∷ table) (other ∷ log) line (inl weaves) (inl same) = inl (weaves.0 ∙ same)
weaves_among format file (first ∷ table) (other ∷ log) line (inl weaves) (inr later) = inr (weaves_among format file table log line weaves.1 later)
weaves_among format file (first ∷ table) (other ∷ log) line (inr weaves) among = inr (weaves_among format file (first ∷ table) log line weaves.1 among)

pub weaves_itself : (format : Format) (file : RegisterFile) (table : List (List ℕ)) → Weaves format file table table
weaves_itself format file [] = tt
weaves_itself format file (line ∷ table) = inl (refl, weaves_itself format file table)

-- ---- the lines in front of a table

pub record Split (format : Format) (file : RegisterFile) (heading : List ℕ) (rest log : List (List ℕ)) : Type 0 where
  pub front : List (List ℕ)
  pub behind : List (List ℕ)
  pub log_is : log ≡ front ++ heading ∷ behind
  pub others : AllByRecursion (TellsNoMore format file) front
  pub weaves : Weaves format file rest behind

pub split : (format : Format) (file : RegisterFile) (heading : List ℕ) (rest log : List (List ℕ)) → Weaves format file (heading ∷ rest) log → Split format file heading rest log
split format file heading rest [] weaves = absurd weaves
split format file heading rest (other ∷ log) (inl weaves) = record { front = []; behind = log; log_is = ap (λ l. l ∷ log) weaves.0; others = tt; weaves = weaves.1 }
split format file heading rest (other ∷ log) (inr weaves) =
    let later = split format file heading rest log weaves.1 in
    record { front = other ∷ later.front; behind = later.behind; log_is = ap (λ ls. other ∷ ls) later.log_is; others = (weaves.0, later.others); weaves = later.weaves }

-- ---- facts of one table that tell of a file

module _ (file : RegisterFile) where
  pub record IsGood (facts : List Fact) : Type 0 where
    pub sound : AllByRecursion (IsSound (same_file file) 1 (kernel_bits file)) facts
    pub table : AllByRecursion (IsOfTable 1) facts

  pub good_join : (a b : List Fact) → IsGood a → IsGood b → IsGood (a ++ b)
  good_join a b one two = record { sound = all_join (IsSound (same_file file) 1 (kernel_bits file)) a b one.sound two.sound; table = all_join (IsOfTable 1) a b one.table two.table }

  table_of : (processor table : ℕ) (shows : List (Option Shown)) → AllByRecursion (IsOfTable table) (shows_facts processor table shows)
  table_of processor table [] = tt
  table_of processor table (shown ∷ shows) = all_join (IsOfTable table) (shown_facts processor table shown) (shows_facts processor table shows) (by shown) (table_of processor table shows)
    where
      by : (o : Option Shown) → AllByRecursion (IsOfTable table) (shown_facts processor table o)
      by None = tt
      by (Some shown) = test (is_register shown.number)
        where
          test : (is : Bool) → AllByRecursion (IsOfTable table) (if is
              then is_register_value (record { processor = processor; table = table; number = shown.number; bits = shown.bits; value = shown.value; place = shown.place }) ∷ []
              else [])
          test true = (refl, tt)
          test false = tt

  pub shows_good : (table : ℕ) (shows : List (Option Shown)) → table ≡ 1 → AllByRecursion (IsTrueShown file (kernel_bits file)) shows → IsGood (shows_facts 0 table shows)
  shows_good table shows one tells = record { sound = shows_true (same_file file) 1 (kernel_bits file) 0 0 table shows (lit< tt) refl tells; table = subst (λ t. AllByRecursion (IsOfTable 1) (shows_facts 0 t shows)) (sym one) (table_of 0 1 shows) }

  pub line_good : (fact : Fact) (facts : List Fact) → IsSound (same_file file) 1 (kernel_bits file) fact → IsOfTable 1 fact → IsGood facts → IsGood (fact ∷ facts)
  line_good fact facts sound table good = record { sound = (sound, good.sound); table = (table, good.table) }

  -- ---- lines that leave the table as it is

  -- what a table's lines lead to, with what holds of the last line on fixed ranges
  pub record IsWithin (format : Format) (table : ℕ) (fixed : Option FixedLine → Type 0) (context : Context) : Type 0 where
    pub format_is : context.format ≡ Some format
    pub processor_is : context.processor ≡ Some 0
    pub table_is : context.table ≡ table
    pub fixed_is : fixed context.fixed

  pub record ShowsTrue (format : Format) (line : List ℕ) : Type 0 where
    pub shows : ℕ → List (Option Shown)
    pub said : (number : ℕ) → said_of format number line ≡ Shows (Some 0) (shows number)
    pub tells : (number : ℕ) → AllByRecursion (IsTrueShown file (kernel_bits file)) (shows number)

  -- of a mask whose V is clear no bit but V is shown
  same_printed : (format : Format) → is_kernel format ≡ true → (shown : Shown) (key : Key) → IsSame format file shown → shown.number ≡ number_at key → kernel_bits file key shown.bits ≡ true
  same_printed format kernel shown None same at = refl
  same_printed format kernel shown (Some (PhysBase n)) same at = refl
  same_printed format kernel shown (Some (PhysMask n)) same at = by (is_valid (pair_at file.pairs n)) refl
    where
      by : (test : Bool) → is_valid (pair_at file.pairs n) ≡ test → (test || shown.bits == 0x800) ≡ true
      by true valid = refl
      by false hidden = same_number shown.bits 0x800 (same.off kernel n at hidden)
  same_printed format kernel shown (Some (FixedRange place)) same at = refl
  same_printed format kernel shown (Some Pat) same at = refl
  same_printed format kernel shown (Some DefaultType) same at = refl

  no_more_table : (format : Format) (context : Context) (said : LineSays) → context.table ≡ 1 → SaysNoMore format file said → AllByRecursion (IsOfTable 1) (said_facts context said)
  no_more_table format context said one (no_match is) = rw is tt
  no_more_table format context said one (only_width place is) = rw is (tt, tt)
  no_more_table format context said one (only_warns warning at is) = rw is (tt, tt)
  no_more_table format context said one (only_turns is) = rw is tt
  no_more_table format context said one (only_shows processor shows is own others) =
      rw is (subst (λ t. AllByRecursion (IsOfTable 1) (shows_facts (named_processor processor context.processor) t shows)) (sym one) (table_of (named_processor processor context.processor) 1 shows))

  module _ (format : Format) (table : ℕ) (fixed : Option FixedLine → Type 0) where
    pub keeps : (context : Context) (number : ℕ) (line : List ℕ) (said : LineSays) → said_of format number line ≡ said → processor_after said context.processor ≡ context.processor → table_behind said context.table ≡ context.table
        → fixed_after said context.table context.fixed ≡ context.fixed → IsWithin format table fixed context → IsWithin format table fixed (context_behind context number line)
    keeps context number line said said_is one two three is = record {
      format_is = rw is.format_is refl;
      processor_is = rw (is.format_is, said_is) (one ∙ is.processor_is);
      table_is = rw (is.format_is, said_is) (two ∙ is.table_is);
      fixed_is = rw (is.format_is, said_is) (subst fixed (sym three) is.fixed_is);
    }

    pub no_more_next : (context : Context) (number : ℕ) (line : List ℕ) → IsWithin format table fixed context → SaysNoMore format file (said_of format number line) → IsWithin format table fixed (context_behind context number line)
    no_more_next context number line is (no_match said) = keeps context number line Nothing said refl refl refl is
    no_more_next context number line is (only_width place said) = keeps context number line (Width file.width place) said refl refl refl is
    no_more_next context number line is (only_warns warning at said) = keeps context number line (Warns warning at) said refl refl refl is
    no_more_next context number line is (only_turns said) = keeps context number line (Turns (To 0)) said (sym is.processor_is) refl refl is
    no_more_next context number line is (only_shows processor shows said own others) = keeps context number line (Shows processor shows) said refl refl refl is

    -- behind such lines
    pub front_within : (front : List (List ℕ)) (context : Context) (number : ℕ) → AllByRecursion (TellsNoMore format file) front → IsWithin format table fixed context → IsWithin format table fixed (context_after_lines context number front)
    front_within [] context number others is = is
    front_within (line ∷ front) context number others is = front_within front (context_behind context number line) (number + 1) others.1 (no_more_next context number line is (others.0 number))

  module _ (format : Format) (kernel : is_kernel format ≡ true) (is_file : IsRegisterFile file) (fixed : Option FixedLine → Type 0) where
    no_more_good : (context : Context) (number : ℕ) (line : List ℕ) → IsWithin format 1 fixed context → SaysNoMore format file (said_of format number line) → IsGood (facts_of_line context number line)
    no_more_good context number line is more =
        subst IsGood (sym (of_line format context number line is.format_is))
        (line_good (is_line number (Some format) (is_match (said_of format number line))) (said_facts context (said_of format number line)) tt tt (record {
          sound = said_true (same_file file) 1 (kernel_bits file) 0 context (said_of format number line) (lit< tt) refl is.processor_is
              (no_more_true format file (kernel_bits file) (said_of format number line) is_file (same_printed format kernel) more);
          table = no_more_table format context (said_of format number line) is.table_is more;
        }))

  -- lines in front of a table tell of the file
  pub front_sound : (format : Format) → is_kernel format ≡ true → IsRegisterFile file → (front : List (List ℕ)) (context : Context) (number : ℕ) → context.format ≡ Some format → context.processor ≡ Some 0
      → AllByRecursion (TellsNoMore format file) front → AllByRecursion (IsSound (same_file file) 1 (kernel_bits file)) (facts_from context number front)
  front_sound format kernel is_file front context number is own others =
      lines_true (same_file file) 1 (kernel_bits file) 0 (lit< tt) refl format front context number is own (λ line among at.
      no_more_true format file (kernel_bits file) (said_of format at line) is_file (same_printed format kernel) (each_among (TellsNoMore format file) front line others among at))

  -- ---- what holds of the facts of a log in which lines stand

  module _ (format : Format) (kernel : is_kernel format ≡ true) (is_file : IsRegisterFile file) (Q : List Fact → Type 0) (grow : (a b : List Fact) → IsGood a → Q b → Q (a ++ b)) where
    abbrev pub Leads : (Option FixedLine → Type 0) → List (List ℕ) → Type 0
    Leads fixed lines = (log : List (List ℕ)) (context : Context) (number : ℕ) → Weaves format file lines log → IsWithin format 1 fixed context → Q (facts_from context number log)

    -- by a line and those behind it
    pub by_next : (line : List ℕ) (lines : List (List ℕ)) (fixed then_fixed : Option FixedLine → Type 0)
        → ((context : Context) (number : ℕ) → IsWithin format 1 fixed context → IsGood (facts_of_line context number line) × IsWithin format 1 then_fixed (context_behind context number line))
        → Leads then_fixed lines → Leads fixed (line ∷ lines)
    by_next line lines fixed then_fixed here behind [] context number weaves is = absurd weaves
    by_next line lines fixed then_fixed here behind (other ∷ log) context number (inl weaves) is =
        let good : IsGood (facts_of_line context number other) × IsWithin format 1 then_fixed (context_behind context number other) =
        subst (λ l. IsGood (facts_of_line context number l) × IsWithin format 1 then_fixed (context_behind context number l)) (sym weaves.0) (here context number is) in
        grow (facts_of_line context number other) (facts_from (context_behind context number other) (number + 1) log) good.0 (behind log (context_behind context number other) (number + 1) weaves.1 good.1)
    by_next line lines fixed then_fixed here behind (other ∷ log) context number (inr weaves) is =
        grow (facts_of_line context number other) (facts_from (context_behind context number other) (number + 1) log) (no_more_good format kernel is_file fixed context number other is (weaves.0 number))
        (by_next line lines fixed then_fixed here behind log (context_behind context number other) (number + 1) weaves.1 (no_more_next format 1 fixed context number other is (weaves.0 number)))

    -- by a line alone
    pub by_line : ((a b : List Fact) → Q a → Q (a ++ b)) → (line : List ℕ) (lines : List (List ℕ)) (fixed : Option FixedLine → Type 0)
        → ((context : Context) (number : ℕ) → IsWithin format 1 fixed context → Q (facts_of_line context number line)) → Leads fixed (line ∷ lines)
    by_line first line lines fixed here [] context number weaves is = absurd weaves
    by_line first line lines fixed here (other ∷ log) context number (inl weaves) is =
        first (facts_of_line context number other) (facts_from (context_behind context number other) (number + 1) log)
        (subst (λ l. Q (facts_of_line context number l)) (sym weaves.0) (here context number is))
    by_line first line lines fixed here (other ∷ log) context number (inr weaves) is =
        grow (facts_of_line context number other) (facts_from (context_behind context number other) (number + 1) log) (no_more_good format kernel is_file fixed context number other is (weaves.0 number))
        (by_line first line lines fixed here log (context_behind context number other) (number + 1) weaves.1 (no_more_next format 1 fixed context number other is (weaves.0 number)))

    -- by what stands behind lines that show registers
    pub by_shows : (lines rest : List (List ℕ)) (fixed : Option FixedLine → Type 0) → ((line : List ℕ) → IsAmong line lines → ShowsTrue format line) → Leads fixed rest → Leads fixed (lines ++ rest)
    by_shows [] rest fixed shows behind = behind
    by_shows (line ∷ lines) rest fixed shows behind =
        let here = shows line (inl refl) in
        by_next line (lines ++ rest) fixed fixed (λ context number is.
        let facts : facts_of_line context number line ≡ is_line number (Some format) true ∷ shows_facts 0 context.table (here.shows number) = rw (is.format_is, here.said number) refl in (
          subst IsGood (sym facts) (line_good (is_line number (Some format) true) (shows_facts 0 context.table (here.shows number)) tt tt (shows_good context.table (here.shows number) is.table_is (here.tells number))),
          keeps format 1 fixed context number line (Shows (Some 0) (here.shows number)) (here.said number) refl refl refl is,
        )) (by_shows lines rest fixed (λ l among. shows l (inr among)) behind)

  -- behind the table
  pub ends_good : (format : Format) (kernel : is_kernel format ≡ true) (is_file : IsRegisterFile file) (fixed : Option FixedLine → Type 0) → Leads format kernel is_file IsGood good_join fixed []
  ends_good format kernel is_file fixed [] context number weaves is = record { sound = tt; table = tt }
  ends_good format kernel is_file fixed (other ∷ log) context number weaves is =
      good_join (facts_of_line context number other) (facts_from (context_behind context number other) (number + 1) log) (no_more_good format kernel is_file fixed context number other is (weaves.0 number))
      (ends_good format kernel is_file fixed log (context_behind context number other) (number + 1) weaves.1 (no_more_next format 1 fixed context number other is (weaves.0 number)))
