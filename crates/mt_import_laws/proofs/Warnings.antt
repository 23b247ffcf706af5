-- What lines warn of is told.
use Rattle.std.proofs.Common.{◌≡◌, ◌+◌, ℕ, Bool, true, false, List, [], ◌∷◌, ◌++◌, length, Option, Some, None, refl, sym, ◌∙◌, ap, subst, inl, inr, arith, append_assoc}
use Rattle.std.specs.Prelude.{◌⊎◌, if◌then◌else◌, is_some, IsSome}
use Rattle.std.specs.Option.{option_or}
use Rattle.std.proofs.lemmas.List.{append-nil}
use Rattle.mt_ports.specs.declared.status.Status.TheVariants.{Done, Refused}
use Rattle.mt_text.specs.Text.{is_too_long}
use Rattle.mt_import.specs.declared.fault.ImportFault.{ImportFault}
use Rattle.mt_import.specs.declared.format.Choice.{Choice}
use Rattle.mt_import.specs.declared.format.Format.{Format}
use Rattle.mt_import.specs.declared.reading.Context.{Context}
use Rattle.mt_import.specs.declared.reading.LineSays.TheVariants.{Warns}
use Rattle.mt_import.specs.declared.shape.Reading.{Reading}
use Rattle.mt_import.specs.declared.shape.Warned.{Warned}
use Rattle.mt_import.specs.declared.shape.Warning.{Warning}
use Rattle.mt_import.specs.declared.shape.Warning.TheVariants.{Unlike, WrongMask, LostMemory, TopOfMemory, Syscfg, MemoryBits}
use Rattle.mt_import.specs.Readings.{Fact, is_fault, is_line, is_register_value, is_warning, is_width, said_facts, starts}
use Rattle.mt_import.specs.Census.{format_of, front_of}
use Rattle.mt_import.specs.Shown.{context_behind, facts_from, facts_of_line, is_auto, said_in, shown, unmarked}
use Rattle.mt_import.specs.Supplied.{Supplied}
use Rattle.mt_import.specs.Outcome.{Seen, Summary, Outcome, advice_of, facts_outcome, count_line, dump_outcome, ended, fact_fault, facts_fault, fault_line, findings_of, is_empty, missing_of, nothing_seen, refusal, seen_after, seen_with, summary_of, unless, warned_till}
use Rattle.mt_import.specs.Warnings.{has_memory_bits, line_warned, warned_with, warning_lines, warning_of}
use Rattle.mt_import_laws.specs.Origins.{IsAmong, context_after_lines, seen_of}
use Rattle.mt_import_laws.specs.Warnings.{AreAround, AreWarning, HasWarning, IsWarned, SaysNothing, TellsWarnings, beside_dump, beside_fault, beside_missing, by_register, by_words, facts_read, read_of}
use Rattle.mt_import_laws.proofs.Alike.{keeps_format}
use Rattle.mt_import_laws.proofs.Among.{join_among_first, join_among_second}
use Rattle.mt_import_laws.proofs.Faults.{fault_of, till_of}

-- ---- the line warns

says_warns : (format : Option Format) (number : ℕ) (line : List ℕ) (warning : Warning) → warning_of (unmarked line) ≡ Some warning → is_too_long line ≡ false → SaysNothing format number line
    → said_in format number line ≡ Warns warning number
says_warns None number line warning warns short alone = rw (short, warns) refl
says_warns (Some format) number line warning warns short alone = rw (short, alone, warns) refl

-- what a line comes to is among what all lines come to
of_lines : (before : List (List ℕ)) (context : Context) (number : ℕ) (line : List ℕ) (others : List (List ℕ)) (fact : Fact) → IsAmong fact (facts_of_line (context_after_lines context number before) (number + length before) line)
    → IsAmong fact (facts_from context number (before ++ line ∷ others))
of_lines [] context number line others fact among =
    join_among_first (facts_of_line context number line) (facts_from (context_behind context number line) (number + 1) others) fact (subst (λ n. IsAmong fact (facts_of_line context n line)) (omega arith) among)
of_lines (first ∷ before) context number line others fact among =
    join_among_second (facts_of_line context number first) (facts_from (context_behind context number first) (number + 1) (before ++ line ∷ others)) fact
    (of_lines before (context_behind context number first) (number + 1) line others fact
    (subst (λ n. IsAmong fact (facts_of_line (context_after_lines (context_behind context number first) (number + 1) before) n line)) (omega arith) among))

pub warned_of : (choice : Choice) (text : List ℕ) (warning : Warning) (has : HasWarning choice text warning) → IsWarned choice text warning (1 + length has.before)
warned_of choice text warning has =
    let start = starts (format_of choice text) in
    let context = context_after_lines start 1 has.before in
    let number = 1 + length has.before in
    let said : said_in context.format number has.line ≡ Warns warning number =
    subst (λ o. said_in o number has.line ≡ Warns warning number) (sym (keeps_format has.before start 1)) (says_warns (format_of choice text) number has.line warning has.warns has.short has.alone) in
    let here : IsAmong (is_warning warning number) (facts_of_line context number has.line) = inr (subst (λ s. IsAmong (is_warning warning number) (said_facts context s)) (sym said) (inl refl)) in
    by_words (subst (λ lines. IsAmong (is_warning warning number) (facts_from start 1 lines)) (sym has.lines) (of_lines has.before start 1 has.line has.others (is_warning warning number) here))

-- ---- one warning more

-- what was warned of stays
stays : (one other : Warning) (number : ℕ) (warned : Warned) → IsSome (line_warned warned other) → IsSome (line_warned (warned_with one number warned) other)
stays Unlike Unlike number warned some = refl
stays Unlike other number warned some = some
stays WrongMask WrongMask number warned some = refl
stays WrongMask other number warned some = some
stays LostMemory LostMemory number warned some = refl
stays LostMemory other number warned some = some
stays TopOfMemory TopOfMemory number warned some = refl
stays TopOfMemory other number warned some = some
stays Syscfg Syscfg number warned some = refl
stays Syscfg other number warned some = some
stays MemoryBits MemoryBits number warned some = refl
stays MemoryBits other number warned some = some

arises : (one : Warning) (number : ℕ) (warned : Warned) → IsSome (line_warned (warned_with one number warned) one)
arises Unlike number warned = refl
arises WrongMask number warned = refl
arises LostMemory number warned = refl
arises TopOfMemory number warned = refl
arises Syscfg number warned = refl
arises MemoryBits number warned = refl

-- What is warned of was warned of before, or is this.
was_or_is : (one other : Warning) (number line : ℕ) (warned : Warned) → line_warned (warned_with one number warned) other ≡ Some line → (line_warned warned other ≡ Some line) ⊎ ((one ≡ other) × (number ≡ line))
was_or_is Unlike Unlike number line warned is = inr (refl, cc is)
was_or_is Unlike other number line warned is = inl is
was_or_is WrongMask WrongMask number line warned is = inr (refl, cc is)
was_or_is WrongMask other number line warned is = inl is
was_or_is LostMemory LostMemory number line warned is = inr (refl, cc is)
was_or_is LostMemory other number line warned is = inl is
was_or_is TopOfMemory TopOfMemory number line warned is = inr (refl, cc is)
was_or_is TopOfMemory other number line warned is = inl is
was_or_is Syscfg Syscfg number line warned is = inr (refl, cc is)
was_or_is Syscfg other number line warned is = inl is
was_or_is MemoryBits MemoryBits number line warned is = inr (refl, cc is)
was_or_is MemoryBits other number line warned is = inl is

-- ---- facts

module _ (warning : Warning) where
  still_by : (test : Bool) (number : ℕ) (warned : Warned) → IsSome (line_warned warned warning) → IsSome (line_warned (if test then warned_with MemoryBits number warned else warned) warning)
  still_by true number warned some = stays MemoryBits warning number warned some
  still_by false number warned some = some

  still : (facts : List Fact) (seen : Seen) → IsSome (line_warned seen.tally.warned warning) → IsSome (line_warned (seen_after seen facts).tally.warned warning)
  still [] seen some = some
  still (fact ∷ facts) seen some = still facts (seen_with seen fact) (by fact)
    where
      by : (f : Fact) → IsSome (line_warned (seen_with seen f).tally.warned warning)
      by (is_line number format matched) = some
      by (is_register_value reading) = still_by (has_memory_bits reading) reading.place.line seen.tally.warned some
      by (is_width width place) = some
      by (is_warning other number) = stays other warning number seen.tally.warned some
      by (is_fault fault) = some

  now_by_words : (facts : List Fact) (seen : Seen) (number : ℕ) → IsAmong (is_warning warning number) facts → IsSome (line_warned (seen_after seen facts).tally.warned warning)
  now_by_words [] seen number among = absurd among
  now_by_words (fact ∷ facts) seen number (inl same) =
      still facts (seen_with seen fact) (subst (λ (f : Fact). IsSome (line_warned (seen_with seen f).tally.warned warning)) (sym same) (arises warning number seen.tally.warned))
  now_by_words (fact ∷ facts) seen number (inr later) = now_by_words facts (seen_with seen fact) number later

now_by_register : (facts : List Fact) (seen : Seen) (reading : Reading) → has_memory_bits reading ≡ true → IsAmong (is_register_value reading) facts → IsSome (line_warned (seen_after seen facts).tally.warned MemoryBits)
now_by_register [] seen reading has among = absurd among
now_by_register (fact ∷ facts) seen reading has (inl same) =
    still MemoryBits facts (seen_with seen fact) (subst (λ (f : Fact). IsSome (line_warned (seen_with seen f).tally.warned MemoryBits)) (sym same) (rw has refl))
now_by_register (fact ∷ facts) seen reading has (inr later) = now_by_register facts (seen_with seen fact) reading has later

now_warned : (facts : List Fact) (seen : Seen) (warning : Warning) (number : ℕ) → AreWarning facts warning number → IsSome (line_warned (seen_after seen facts).tally.warned warning)
now_warned facts seen warning number (by_words among) = now_by_words warning facts seen number among
now_warned facts seen warning number (by_register reading among has same at) = subst (λ w. IsSome (line_warned (seen_after seen facts).tally.warned w)) same (now_by_register facts seen reading has among)

-- ---- nothing else is warned of

later_too : (fact : Fact) (facts : List Fact) (warning : Warning) (number : ℕ) → AreWarning facts warning number → AreWarning (fact ∷ facts) warning number
later_too fact facts warning number (by_words among) = by_words (inr among)
later_too fact facts warning number (by_register reading among has same at) = by_register reading (inr among) has same at

module _ (warning : Warning) (number : ℕ) where
  abbrev Known : Seen → List Fact → Type 0
  Known seen facts = (line_warned seen.tally.warned warning ≡ Some number) ⊎ AreWarning facts warning number

  of_bits : (reading : Reading) (test : Bool) → has_memory_bits reading ≡ test → (warned : Warned) (facts : List Fact)
      → line_warned (if test then warned_with MemoryBits reading.place.line warned else warned) warning ≡ Some number
      → (line_warned warned warning ≡ Some number) ⊎ AreWarning (is_register_value reading ∷ facts) warning number
  of_bits reading false has warned facts is = inl is
  of_bits reading true has warned facts is = by (was_or_is MemoryBits warning reading.place.line number warned is)
    where
      by : (line_warned warned warning ≡ Some number) ⊎ ((MemoryBits ≡ warning) × (reading.place.line ≡ number)) → (line_warned warned warning ≡ Some number) ⊎ AreWarning (is_register_value reading ∷ facts) warning number
      by (inl was) = inl was
      by (inr now) = inr (by_register reading (inl refl) has now.0 now.1)

  of_fact : (seen : Seen) (fact : Fact) (facts : List Fact) → Known (seen_with seen fact) facts → Known seen (fact ∷ facts)
  of_fact seen fact facts (inr later) = inr (later_too fact facts warning number later)
  of_fact seen (is_line at format matched) facts (inl is) = inl is
  of_fact seen (is_register_value reading) facts (inl is) = of_bits reading (has_memory_bits reading) refl seen.tally.warned facts is
  of_fact seen (is_width width place) facts (inl is) = inl is
  of_fact seen (is_warning one at) facts (inl is) = by (was_or_is one warning at number seen.tally.warned is)
    where
      by : (line_warned seen.tally.warned warning ≡ Some number) ⊎ ((one ≡ warning) × (at ≡ number)) → Known seen (is_warning one at ∷ facts)
      by (inl was) = inl was
      by (inr now) = inr (by_words (inl (ap (λ w. is_warning w at) now.0 ∙ ap (is_warning warning) now.1)))
  of_fact seen (is_fault fault) facts (inl is) = inl is

  only_after : (facts : List Fact) (seen : Seen) → line_warned (seen_after seen facts).tally.warned warning ≡ Some number → Known seen facts
  only_after [] seen is = inl is
  only_after (fact ∷ facts) seen is = of_fact seen fact facts (only_after facts (seen_with seen fact) is)

  none_first : (facts : List Fact) (format : Option Format) → Known (nothing_seen format) facts → AreWarning facts warning number
  none_first facts format (inr are) = are
  none_first facts format (inl is) = absurd (no_line warning is)
    where
      no_line : (w : Warning) → line_warned (nothing_seen format).tally.warned w ≡ Some number → ⊥
      no_line Unlike e = cc e
      no_line WrongMask e = cc e
      no_line LostMemory e = cc e
      no_line TopOfMemory e = cc e
      no_line Syscfg e = cc e
      no_line MemoryBits e = cc e

-- ---- what is read

read_till : (supplied : Supplied) (seen : Seen) (facts : List Fact) → warned_till supplied seen facts ≡ (seen_after seen (read_of supplied seen facts)).tally.warned
read_till supplied seen [] = refl
read_till supplied seen (fact ∷ facts) = by (is_some (fact_fault supplied seen fact)) (read_till supplied (seen_with seen fact) facts)
  where
    by : (test : Bool) → warned_till supplied (seen_with seen fact) facts ≡ (seen_after (seen_with seen fact) (read_of supplied (seen_with seen fact) facts)).tally.warned
        → (if test then seen.tally.warned else warned_till supplied (seen_with seen fact) facts) ≡ (seen_after seen (if test then [] else fact ∷ read_of supplied (seen_with seen fact) facts)).tally.warned
    by true later = refl
    by false later = later

read_all : (supplied : Supplied) (seen : Seen) (facts : List Fact) → facts_fault supplied seen facts ≡ None → read_of supplied seen facts ≡ facts
read_all supplied seen [] fine = refl
read_all supplied seen (fact ∷ facts) fine = by (fact_fault supplied seen fact) (read_all supplied (seen_with seen fact) facts) fine
  where
    by : (own : Option ImportFault) → (facts_fault supplied (seen_with seen fact) facts ≡ None → read_of supplied (seen_with seen fact) facts ≡ facts)
        → option_or own (facts_fault supplied (seen_with seen fact) facts) ≡ None → (if is_some own then [] else fact ∷ read_of supplied (seen_with seen fact) facts) ≡ fact ∷ facts
    by (Some fault) later is = cc is
    by None later is = ap (λ (fs : List Fact). fact ∷ fs) (later is)

-- ---- it is told

-- the texts around the warnings of an outcome behind all facts
data AreAroundEnd (auto : Bool) (supplied : Supplied) (seen : Seen) (told : Outcome) (before others : List ℕ) : Type 0 where
  by_dump : told.status ≡ Done → before ≡ (if auto then count_line seen.tally else []) → others ≡ [] → AreAroundEnd auto supplied seen told before others
  by_missing : told.status ≡ Refused → before ≡ count_line seen.tally → (advice : List ℕ) → others ≡ missing_of supplied (findings_of seen) ++ advice
      → (advice ≡ []) ⊎ (advice ≡ advice_of auto supplied (findings_of seen)) → AreAroundEnd auto supplied seen told before others

-- the lines on what was warned of are within a text
record IsWithin (auto : Bool) (supplied : Supplied) (seen : Seen) (told : Outcome) : Type 0 where
  before : List ℕ
  others : List ℕ
  whole_is : told.reasons ≡ before ++ (warning_lines seen.tally.warned ++ others)
  around : AreAroundEnd auto supplied seen told before others

module _ (auto : Bool) (supplied : Supplied) (seen : Seen) where
  abbrev told : Summary
  told = summary_of auto supplied (findings_of seen) seen.tally

  refused_told : (advice : List ℕ) → (advice ≡ []) ⊎ (advice ≡ advice_of auto supplied (findings_of seen)) → IsWithin auto supplied seen (refusal seen.tally (told.missing ++ advice))
  refused_told advice is = record { before = count_line seen.tally; others = told.missing ++ advice; whole_is = refl; around = by_missing refl refl advice refl is }

  bare_told : IsWithin auto supplied seen (refusal seen.tally told.missing)
  bare_told = record { before = count_line seen.tally; others = told.missing; whole_is = refl; around = by_missing refl refl [] (sym (append-nil told.missing)) (inl refl) }

  dump_told : (width capabilities : Option ℕ) → IsWithin auto supplied seen (dump_outcome (refusal seen.tally told.missing) told width capabilities)
  dump_told (Some width) (Some capabilities) = record {
    before = if auto then count_line seen.tally else [];
    others = [];
    whole_is = ap (λ (t : List ℕ). (if auto then count_line seen.tally else []) ++ t) (sym (append-nil (warning_lines seen.tally.warned)));
    around = by_dump refl refl refl;
  }
  dump_told (Some width) None = bare_told
  dump_told None capabilities = bare_told

  end_told : IsWithin auto supplied seen (ended auto supplied seen)
  end_told = by (is_empty told.missing)
    where
      by : (test : Bool) → IsWithin auto supplied seen (if test then dump_outcome (refusal seen.tally told.missing) told told.width (told.values 0 0xfe) else refusal seen.tally (told.missing ++ told.advice))
      by true = dump_told told.width (told.values 0 0xfe)
      by false = refused_told told.advice (inr refl)

module _ (choice : Choice) (supplied : Supplied) (text : List ℕ) where
  abbrev facts : List Fact
  facts = shown (format_of choice text) text

  abbrev start : Seen
  start = nothing_seen (format_of choice text)

  abbrev read : List Fact
  read = facts_read choice supplied text

  only_read : (warned : Warned) → warned ≡ (seen_after start read).tally.warned → (warning : Warning) (number : ℕ) → line_warned warned warning ≡ Some number → AreWarning read warning number
  only_read warned same warning number is = none_first warning number read (format_of choice text) (only_after warning number read start (ap (λ w. line_warned w warning) (sym same) ∙ is))

  each_read : (warned : Warned) → warned ≡ (seen_after start read).tally.warned → (warning : Warning) (number : ℕ) → AreWarning read warning number → IsSome (line_warned warned warning)
  each_read warned same warning number are = subst (λ w. IsSome (line_warned w warning)) (sym same) (now_warned read start warning number are)

  -- what is told but for the lines that are passed over
  abbrev told_in : Outcome
  told_in = facts_outcome (is_auto choice) supplied start facts

  around_end : (end_of : Outcome) (before others : List ℕ) → told_in ≡ end_of → AreAroundEnd (is_auto choice) supplied (seen_of choice text) end_of before others → AreAround choice supplied text (front_of choice text ++ before) others
  around_end end_of before others is (by_dump status front back) = beside_dump (ap (λ (o : Outcome). o.status) is ∙ status) (ap (λ (t : List ℕ). front_of choice text ++ t) front) back
  around_end end_of before others is (by_missing status front advice back which) = beside_missing (ap (λ (o : Outcome). o.status) is ∙ status) (ap (λ (t : List ℕ). front_of choice text ++ t) front) advice back which

  by_fault : (fault : Option ImportFault) → fault_of choice supplied text ≡ fault → TellsWarnings choice supplied text
  by_fault (Some fault) found =
      let is : told_in ≡ unless (Some fault) (till_of choice supplied text) (ended (is_auto choice) supplied (seen_of choice text)) =
      ap (λ f. unless f (till_of choice supplied text) (ended (is_auto choice) supplied (seen_of choice text))) found in
      record {
        warned = till_of choice supplied text;
        before = front_of choice text;
        others = fault_line fault;
        reasons_are = ap (λ (o : Outcome). front_of choice text ++ o.reasons) is;
        around = beside_fault (ap (λ (o : Outcome). o.status) is) refl fault found refl;
        only = only_read (till_of choice supplied text) (read_till supplied start facts);
        each = each_read (till_of choice supplied text) (read_till supplied start facts);
        all = λ fine. absurd (fine (ap (λ (o : Outcome). o.status) is));
      }
  by_fault None found =
      let is : told_in ≡ ended (is_auto choice) supplied (seen_of choice text) =
      ap (λ f. unless f (till_of choice supplied text) (ended (is_auto choice) supplied (seen_of choice text))) found in
      let within = end_told (is_auto choice) supplied (seen_of choice text) in
      let all : read ≡ facts = read_all supplied start facts found in
      let same : (seen_of choice text).tally.warned ≡ (seen_after start read).tally.warned = ap (λ fs. (seen_after start fs).tally.warned) (sym all) in
      record {
        warned = (seen_of choice text).tally.warned;
        before = front_of choice text ++ within.before;
        others = within.others;
        reasons_are =
            ap (λ (o : Outcome). front_of choice text ++ o.reasons) is ∙ ap (λ (t : List ℕ). front_of choice text ++ t) within.whole_is
            ∙ sym (append_assoc (front_of choice text) within.before (warning_lines (seen_of choice text).tally.warned ++ within.others));
        around = around_end (ended (is_auto choice) supplied (seen_of choice text)) within.before within.others is within.around;
        only = only_read (seen_of choice text).tally.warned same;
        each = each_read (seen_of choice text).tally.warned same;
        all = λ fine. all;
      }

  pub warnings_told : TellsWarnings choice supplied text
  warnings_told = by_fault (fault_of choice supplied text) refl
