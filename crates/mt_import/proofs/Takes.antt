-- How a line leads on the readers of a log's tables.
use Rattle.std.proofs.Common.{◌≡◌, ◌+◌, ◌≤◌, ◌<◌, ℕ, Bool, true, false, List, [], ◌∷◌, ◌++◌, length, take, Option, Some, None, refl, sym, subst, ◌∙◌, ap, arith, inl, inr, append_assoc}
use Rattle.std.specs.Prelude.{IfOk, Result, Ok, Err, if◌then◌else◌, is_some, unwrap_or}
use Rattle.std.specs.Option.{option_or}
use Rattle.std.proofs.lemmas.Bool.Decides.{nat_tests}
use Rattle.std.proofs.lemmas.Bool.{cases_lt}
use Rattle.std.proofs.lemmas.List.{append-nil, length-take-le, take_all}
use Rattle.mt_text.specs.Text.{is_too_long, lines_of, past_limit}
use Rattle.mt_text.specs.Reader.{Course}
use Rattle.mt_text.specs.declared.place.Place.{Place}
use Rattle.mt_import.specs.declared.fault.ImportFault.{ImportFault}
use Rattle.mt_import.specs.declared.fault.ImportFault.TheVariants.{BadLine}
use Rattle.mt_import.specs.declared.fault.Reason.TheVariants.{LongLine}
use Rattle.mt_import.specs.declared.format.Format.{Format}
use Rattle.mt_import.specs.declared.reading.Context.{Context}
use Rattle.mt_import.specs.declared.reading.LineSays.{LineSays}
use Rattle.mt_import.specs.declared.reading.LineSays.TheVariants.{Bad}
use Rattle.mt_import.specs.declared.shape.Failure.{Failure}
use Rattle.mt_import.specs.declared.shape.Pick.{Pick}
use Rattle.mt_import.specs.declared.shape.Pick.TheVariants.{Each, Number, Last}
use Rattle.mt_import.specs.declared.shape.Tables.{Tables}
use Rattle.mt_import.specs.declared.shape.Tally.{Tally}
use Rattle.mt_import.specs.declared.shape.Told.{Told}
use Rattle.mt_import.specs.declared.shape.Way.{Way}
use Rattle.mt_import.specs.Readings.{Fact, context_after, line_facts, starts}
use Rattle.mt_import.specs.declared.format.Choice.TheVariants.{Only}
use Rattle.mt_import.specs.Shown.{said_in}
use Rattle.mt_import.specs.Supplied.{Supplied}
use Rattle.mt_import.specs.Outcome.{Seen, Outcome, ended_by, facts_fault, nothing_seen, refusal, seen_after, warned_till}
use Rattle.mt_import.specs.Import.{answered, closed, failure, log_answer, tables_outcome}
use Rattle.mt_import.specs.LogTables.{begins_table, context_told, facts_alone, facts_told, has_picked, is_read, kept, missing_table, tables_behind, tables_with, told_by, way_at_end, way_behind, way_from}
use Rattle.mt_import.specs.Reader.{HasTakenFacts, State, TakesFacts, summary_in}
use Rattle.mt_import.specs.Tries.{AreTried, Begins, HasTried, LeadsTo, Tried, TriesSeen, contexts_with, current_behind, current_from, facts_with, failure_or, fault_in}
use Rattle.mt_import.proofs.Facts.{fault_append, seen_append, till_goes, till_stops}
use Rattle.mt_import.proofs.Same.{same_end}

-- ---- one reader

none_of : {A : Type 0} (o : Option A) → is_some o ≡ false → o ≡ None
none_of None is = refl
none_of (Some x) is = cc is

-- Facts without a fault warn of what is known behind them.
till_whole : (supplied : Supplied) (start : Seen) (facts : List Fact) → facts_fault supplied start facts ≡ None → warned_till supplied start facts ≡ (seen_after start facts).tally.warned
till_whole supplied start facts none = sym (ap (warned_till supplied start) (append-nil facts)) ∙ till_goes supplied [] start facts none

-- Behind a fault the rest doesn't matter.
pub tried_stops : (supplied : Supplied) (start : Seen) (facts more : List Fact) (context other : Context) (tried : Tried) → is_some tried.fault ≡ true → HasTried supplied start facts context tried
    → HasTried supplied start (facts ++ more) other tried
tried_stops supplied start facts more context other tried is held = record {
  fault_is = held.fault_is ∙ sym (fault_append supplied start facts more ∙ stays (facts_fault supplied start facts) (ap is_some (sym held.fault_is) ∙ is));
  warned_is = held.warned_is ∙ sym (warns (facts_fault supplied start facts) (ap is_some (sym held.fault_is) ∙ is) refl);
  taken = λ none. let e : true ≡ false = sym is ∙ ap is_some none in cc e;
  context_is = λ none. let e : true ≡ false = sym is ∙ ap is_some none in cc e;
}
  where
    stays : (fault : Option ImportFault) → is_some fault ≡ true → option_or fault (facts_fault supplied (seen_after start facts) more) ≡ fault
    stays None some = cc some
    stays (Some fault) some = refl

    warns : (fault : Option ImportFault) → is_some fault ≡ true → facts_fault supplied start facts ≡ fault → warned_till supplied start (facts ++ more) ≡ warned_till supplied start facts
    warns None some found = cc some
    warns (Some fault) some found = till_stops supplied more start facts fault found

module _ (supplied : Supplied) (start : Seen) (facts : List Fact) (context : Context) (old : Tried) (new : State) (number : ℕ) (format : Option Format) (said : LineSays) where
  abbrev more : Context → List Fact
  more known = line_facts number format known said

  -- the first fault, where these facts had none
  later : old.fault ≡ None → HasTried supplied start facts context old → facts_fault supplied start (facts ++ more context) ≡ facts_fault supplied (seen_after start facts) (more old.state.context)
  later none held = rw (fault_append supplied start facts (more context), sym held.fault_is ∙ none) (ap (λ k. facts_fault supplied (seen_after start facts) (more k)) (sym (held.context_is none)))

  pub tried_on : {U : Type 0} (value : U) → old.fault ≡ None → HasTried supplied start facts context old → TakesFacts supplied old.state new (more old.state.context) (Ok value)
      → new.context ≡ context_after old.state.context format said → HasTried supplied start (facts ++ more context) (context_after context format said) (record { state = new; fault = None })
  tried_on value none held took known =
      let parts = took.taken (seen_after start facts) (held.taken none) in
      let fine = later none held ∙ parts.1 in
      let all = subst (λ k. HasTakenFacts new (seen_after start (facts ++ more k))) (held.context_is none) (rw (seen_append start facts (more old.state.context)) parts.0) in
      record {
        fault_is = sym fine;
        warned_is = ap (λ (t : Tally). t.warned) all.tally_is ∙ sym (till_whole supplied start (facts ++ more context) fine);
        taken = λ _. all;
        context_is = λ _. known ∙ ap (λ k. context_after k format said) (held.context_is none);
      }

  pub tried_fails : {U : Type 0} (fault : ImportFault) → old.fault ≡ None → HasTried supplied start facts context old → TakesFacts {U = U} supplied old.state new (more old.state.context) (Err fault)
      → HasTried supplied start (facts ++ more context) (context_after context format said) (record { state = new; fault = Some fault })
  tried_fails fault none held took =
      let parts = took.taken (seen_after start facts) (held.taken none) in
      record {
        fault_is = sym (later none held ∙ parts.0);
        warned_is = parts.1 ∙ ap (λ k. warned_till supplied (seen_after start facts) (more k)) (held.context_is none) ∙ sym (till_goes supplied (more context) start facts (sym held.fault_is ∙ none));
        taken = λ e. cc e;
        context_is = λ e. cc e;
      }

pub told_tried : {U : Type 0} (supplied : Supplied) (start : Seen) (facts : List Fact) (context : Context) (old : Tried) (new : State) (told : Told) (read : Bool) (said : LineSays) (result : Result U ImportFault)
    → said ≡ kept read told → is_some old.fault ≡ false → HasTried supplied start facts context old → TakesFacts supplied old.state new (line_facts told.number told.format old.state.context said) result
    → IfOk result (λ _. new.context ≡ context_after old.state.context told.format said)
    → HasTried supplied start (facts ++ facts_told read context told) (context_told read context told) (record { state = new; fault = fault_in result })
told_tried supplied start facts context old new told read said (Ok value) is none held took known =
    rw (← is) (tried_on supplied start facts context old new told.number told.format said value (none_of old.fault none) held took known)
told_tried supplied start facts context old new told read said (Err fault) is none held took known =
    rw (← is) (tried_fails supplied start facts context old new told.number told.format said fault (none_of old.fault none) held took)

-- ---- both readers

-- the same facts behind a heading in the line of this number
begins_there : (pick : Pick) (supplied : Supplied) (start : Seen) (facts : Tables → List Fact) (contexts : Tables → Context) (old : TriesSeen) (format : Option Format) (number : ℕ)
    → old.way.tables.last < number → AreTried pick supplied start facts contexts old
    → AreTried pick supplied start facts contexts (record { current = current_from pick old.outside old.current; outside = old.outside; way = record { format = format; tables = tables_with old.way.tables number } })
begins_there Last supplied start facts contexts old format number less held = record {
  current = λ whole same. held.outside whole refl (rw (sym (same refl)) less);
  outside = λ whole is later. held.outside whole refl (omega (arith, less, later));
}
begins_there Each supplied start facts contexts old format number less held = record {
  current = λ whole same. held.current whole (λ e. cc e);
  outside = λ whole is later. cc is;
}
begins_there (Number n) supplied start facts contexts old format number less held = record {
  current = λ whole same. held.current whole (λ e. cc e);
  outside = λ whole is later. cc is;
}

-- and behind any line
goes_behind : (pick : Pick) (supplied : Supplied) (start : Seen) (facts : Tables → List Fact) (contexts : Tables → Context) (old : TriesSeen) (told : Told)
    → old.way.tables.last < told.number → AreTried pick supplied start facts contexts old
    → AreTried pick supplied start facts contexts (record { current = current_behind pick told old.outside old.current; outside = old.outside; way = way_behind old.way told })
goes_behind pick supplied start facts contexts old told less held = by (begins_table told)
  where
    by : (test : Bool) → AreTried pick supplied start facts contexts
        (record {
          current = if test then current_from pick old.outside old.current else old.current;
          outside = old.outside;
          way = record { format = told.format; tables = if test then tables_with old.way.tables told.number else old.way.tables };
        })
    by true = begins_there pick supplied start facts contexts old told.format told.number less held
    by false = record { current = held.current; outside = held.outside }

-- A line is taken by both.
pub line_tried : (pick : Pick) (supplied : Supplied) (start : Seen) (facts : Tables → List Fact) (contexts : Tables → Context) (old : TriesSeen) (told : Told) (read : Bool) (middle current outside : Tried) (way : Way)
    → way ≡ way_behind old.way told → middle ≡ current_behind pick told old.outside old.current
    → ((whole : Tables) → (pick ≡ Last → way.tables.last ≡ whole.last) → read ≡ is_read pick whole way.tables)
    → ((facts : List Fact) (context : Context) → HasTried supplied start facts context middle → HasTried supplied start (facts ++ facts_told read context told) (context_told read context told) current)
    → ((facts : List Fact) (context : Context) → HasTried supplied start facts context old.outside → HasTried supplied start (facts ++ facts_told false context told) (context_told false context told) outside)
    → old.way.tables.last < told.number → AreTried pick supplied start facts contexts old
    → AreTried pick supplied start (facts_with pick way.tables told contexts facts) (contexts_with pick way.tables told contexts) (record { current = current; outside = outside; way = way })
line_tried pick supplied start facts contexts old told read middle current outside way way_is middle_is reads taken taken_too less held =
    let begun : AreTried pick supplied start facts contexts (record { current = middle; outside = old.outside; way = way }) =
    rw (middle_is, way_is) (goes_behind pick supplied start facts contexts old told less held) in
    record {
      current = λ whole last.
          subst (λ r. HasTried supplied start (facts whole ++ facts_told r (contexts whole) told) (context_told r (contexts whole) told) current) (reads whole last) (taken (facts whole) (contexts whole) (begun.current whole last));
      outside = λ whole is later.
          let unread : false ≡ is_read pick whole way.tables = rw is (grind (arith, nat_tests, later)) in
          subst (λ r. HasTried supplied start (facts whole ++ facts_told r (contexts whole) told) (context_told r (contexts whole) told) outside) unread (taken_too (facts whole) (contexts whole) (begun.outside whole is later));
    }

-- ---- the call that takes a line

-- a line that is too long says so in each format
said_long : (format : Option Format) (number : ℕ) (line : List ℕ) → is_too_long line ≡ true → said_in format number line ≡ Bad LongLine (past_limit number)
said_long (Some format) number line far = rw far refl
said_long None number line far = rw far refl

module _ (auto : Bool) (supplied : Supplied) where
  answer_fault : (whole : Tables) (start : Seen) (facts : List Fact) (fault : ImportFault) → facts_fault supplied start facts ≡ Some fault → log_answer auto supplied whole start facts ≡ Err (failure whole (warned_till supplied start facts) fault)
  answer_fault whole start facts fault is = rw is refl

  -- A fault behind facts warns of no more than a reader of these knows.
  till_known : (start : Seen) (before rest : List Fact) (context : Context) (tried : Tried) → HasTried supplied start before context tried
      → warned_till supplied (seen_after start before) rest ≡ (seen_after start before).tally.warned → warned_till supplied start (before ++ rest) ≡ tried.state.tally.warned
  till_known start before rest context tried held next = by (facts_fault supplied start before) refl
    where
      by : (fault : Option ImportFault) → facts_fault supplied start before ≡ fault → warned_till supplied start (before ++ rest) ≡ tried.state.tally.warned
      by None none = till_goes supplied rest start before none ∙ next ∙ sym (till_whole supplied start before none) ∙ sym held.warned_is
      by (Some fault) found = till_stops supplied rest start before fault found ∙ sym held.warned_is

  -- Whatever is behind a line that is too long: the first fault is that of the lines before it, or the line itself.
  pub stops_long : (tries : TriesSeen) (number : ℕ) (course : Course (Result Outcome Failure)) (line : List ℕ) (lines : List (List ℕ)) (end : Place) → LeadsTo auto supplied tries number course → is_too_long line ≡ true
      → course (line ∷ lines) end ≡ Err (failure_or tries (BadLine LongLine (past_limit number)))
  stops_long tries number course line lines end led far =
      let whole = tries.way.tables in
      let told = told_by tries.way.format number line in
      let held = led.tried.current whole (λ _. refl) in
      let before = led.facts whole in
      let rest = facts_alone (is_read supplied.table whole) tries.way (led.contexts whole) number (line ∷ lines) in
      let at_end : way_at_end tries.way number (line ∷ lines) ≡ tries.way = rw far refl in
      let says : told.said ≡ Bad LongLine (past_limit number) = said_long told.format number line far in
      let next : facts_fault supplied (seen_after led.start before) rest ≡ Some (BadLine LongLine (past_limit number)) = rw says refl in
      let warns : warned_till supplied (seen_after led.start before) rest ≡ (seen_after led.start before).tally.warned = rw says refl in
      let first : facts_fault supplied led.start (before ++ rest) ≡ Some (unwrap_or tries.current.fault (BadLine LongLine (past_limit number))) =
      fault_append supplied led.start before rest ∙ ap (λ f. option_or f (facts_fault supplied (seen_after led.start before) rest)) (sym held.fault_is)
      ∙ ap (option_or tries.current.fault) next ∙ or_some tries.current.fault in
      led.leads (line ∷ lines) end
      ∙ ap (λ (w : Way). log_answer auto supplied w.tables led.start (led.facts w.tables ++ facts_alone (is_read supplied.table w.tables) tries.way (led.contexts w.tables) number (line ∷ lines))) at_end
      ∙ answer_fault whole led.start (before ++ rest) _ first
      ∙ ap (λ warned. Err (failure whole warned (unwrap_or tries.current.fault (BadLine LongLine (past_limit number))))) (till_known led.start before rest (led.contexts whole) tries.current held warns)
    where
      or_some : (fault : Option ImportFault) → option_or fault (Some (BadLine LongLine (past_limit number))) ≡ Some (unwrap_or fault (BadLine LongLine (past_limit number)))
      or_some None = refl
      or_some (Some fault) = refl

  -- A line that isn't too long leads on.
  pub leads_on : (old new : TriesSeen) (number : ℕ) (course : Course (Result Outcome Failure)) (line : List ℕ) → LeadsTo auto supplied old number course → is_too_long line ≡ false
      → new.way ≡ way_behind old.way (told_by old.way.format number line)
      → ((start : Seen) (facts : Tables → List Fact) (contexts : Tables → Context) → AreTried supplied.table supplied start facts contexts old → old.way.tables.last < number
      → AreTried supplied.table supplied start (facts_with supplied.table new.way.tables (told_by old.way.format number line) contexts facts) (contexts_with supplied.table new.way.tables (told_by old.way.format number line) contexts) new)
      → LeadsTo auto supplied new (number + 1) (λ lines. course (line ∷ lines))
  leads_on old new number course line led short way tried = record {
    start = led.start;
    facts = facts_with supplied.table new.way.tables told led.contexts led.facts;
    contexts = contexts_with supplied.table new.way.tables told led.contexts;
    tried = tried led.start led.facts led.contexts led.tried led.before;
    before = rw way (last_behind old.way.tables told led.before);
    leads = λ lines end. rw way (
        led.leads (line ∷ lines) end
        ∙ ap (λ (w : Way). log_answer auto supplied w.tables led.start (led.facts w.tables ++ facts_alone (is_read supplied.table w.tables) old.way (led.contexts w.tables) number (line ∷ lines))) (at_end_is lines)
        ∙ ap (log_answer auto supplied (at_end lines) led.start) (joins (at_end lines) lines));
  }
    where
      told : Told
      told = told_by old.way.format number line

      behind : Way
      behind = way_behind old.way (told_by old.way.format number line)

      at_end : List (List ℕ) → Tables
      at_end lines = (way_at_end (way_behind old.way (told_by old.way.format number line)) (number + 1) lines).tables

      at_end_is : (lines : List (List ℕ)) → way_at_end old.way number (line ∷ lines) ≡ way_at_end (way_behind old.way (told_by old.way.format number line)) (number + 1) lines
      at_end_is lines = rw short refl

      last_behind : (tables : Tables) (t : Told) → tables.last < t.number → (tables_behind tables t).last < t.number + 1
      last_behind tables t less = search (arith, less)

      joins : (whole : Tables) (lines : List (List ℕ))
          → led.facts whole ++ facts_alone (is_read supplied.table whole) old.way (led.contexts whole) number (line ∷ lines)
          ≡ facts_with supplied.table behind.tables told led.contexts led.facts whole ++ facts_alone (is_read supplied.table whole) behind (contexts_with supplied.table behind.tables told led.contexts whole) (number + 1) lines
      joins whole lines = sym (append_assoc (led.facts whole) (facts_told (is_read supplied.table whole behind.tables) (led.contexts whole) told) (facts_alone (is_read supplied.table whole) behind (contexts_with supplied.table behind.tables told led.contexts whole) (number + 1) lines))

  -- The same by the call's own values.
  pub leads_by : (old new : TriesSeen) (number : ℕ) (course : Course (Result Outcome Failure)) (line whole : List ℕ) (told : Told) (pick : Pick) → LeadsTo auto supplied old number course → is_too_long whole ≡ false → line ≡ whole
      → told ≡ told_by old.way.format number line → pick ≡ supplied.table → new.way ≡ way_behind old.way told
      → ((start : Seen) (facts : Tables → List Fact) (contexts : Tables → Context) → AreTried pick supplied start facts contexts old → old.way.tables.last < told.number
      → AreTried pick supplied start (facts_with pick new.way.tables told contexts facts) (contexts_with pick new.way.tables told contexts) new)
      → LeadsTo auto supplied new (number + 1) (λ lines. course (whole ∷ lines))
  leads_by old new number course line whole told pick led short same is asked way tried =
      let told_is : told ≡ told_by old.way.format number whole = is ∙ ap (told_by old.way.format number) same in
      leads_on old new number course whole led short (way ∙ ap (way_behind old.way) told_is) (rw (told_is, asked) at tried)

  -- ---- the end

  module _ (tries : TriesSeen) (number : ℕ) (course : Course (Result Outcome Failure)) (end : Place) (led : LeadsTo auto supplied tries number course) where
    whole : Tables
    whole = tries.way.tables

    at_last : course [] end ≡ log_answer auto supplied tries.way.tables led.start (led.facts tries.way.tables)
    at_last = led.leads [] end ∙ ap (log_answer auto supplied tries.way.tables led.start) (append-nil (led.facts tries.way.tables))

    ends_at : (fault : ImportFault) → tries.current.fault ≡ Some fault → course [] end ≡ Err (failure tries.way.tables tries.current.state.tally.warned fault)
    ends_at fault is =
        let held = led.tried.current tries.way.tables (λ _. refl) in
        at_last ∙ answer_fault tries.way.tables led.start (led.facts tries.way.tables) fault (sym held.fault_is ∙ is) ∙ ap (λ warned. Err (failure tries.way.tables warned fault)) (sym held.warned_is)

    pub ends_failed : (fault : ImportFault) (failed : Failure) → tries.current.fault ≡ Some fault → failed ≡ failure_or tries fault → Err failed ≡ course [] end
    ends_failed fault failed is told = rw (told, is) (sym (ends_at fault is))

    pub ends_closed : (outcome : Outcome) → tries.current.fault ≡ None → ((seen : Seen) → HasTakenFacts tries.current.state seen → outcome ≡ closed auto supplied tries.way.tables seen) → course [] end ≡ Ok outcome
    ends_closed outcome none told =
        let held = led.tried.current tries.way.tables (λ _. refl) in
        at_last ∙ rw (sym held.fault_is ∙ none) (ap Ok (sym (told (seen_after led.start (led.facts tries.way.tables)) (held.taken none))))

-- ---- all lines

module _ (auto : Bool) (supplied : Supplied) (format : Option Format) where
  -- what all lines lead to
  abbrev pub log_course : Course (Result Outcome Failure)
  log_course lines end =
      let whole = (way_at_end (way_from format) 1 lines).tables in
      log_answer auto supplied whole (nothing_seen format) (facts_alone (is_read supplied.table whole) (way_from format) (starts format) 1 lines)

  pub begins_log : (tries : TriesSeen) → Begins format tries → LeadsTo auto supplied tries 1 log_course
  begins_log tries begins = record {
    start = nothing_seen format;
    facts = λ whole. [];
    contexts = λ whole. starts format;
    tried = begins.1 supplied.table supplied;
    before = rw begins.0 (omega arith);
    leads = λ lines end. rw begins.0 refl;
  }

-- Of the format that a word names nothing is told in front.
pub only_outcome : (format : Format) (supplied : Supplied) (bytes : List ℕ) (end : Place) (answer : Result Outcome Failure) → answer ≡ log_course false supplied (Some format) (lines_of bytes) end
    → answered supplied.table answer ≡ tables_outcome (Only format) supplied bytes
only_outcome format supplied bytes end answer is = ap (answered supplied.table) is

-- ---- what a feed lends of a line

pub long_whole : (bytes whole : List ℕ) → 4096 < length bytes → bytes ≡ take 4097 whole → is_too_long whole ≡ true
long_whole bytes whole many cut = elim (cases_lt 4096 (length whole)) [
  | inl far ↦ grind (arith, nat_tests, far)
  | inr few ↦ let same : length bytes ≡ length whole = ap length (cut ∙ take_all 4097 whole (omega (arith, few))) in absurd (omega (arith, many, few, same))
]

pub short_whole : (bytes whole : List ℕ) → (4096 < length bytes → ⊥) → bytes ≡ take 4097 whole → (bytes ≡ whole) × (is_too_long whole ≡ false) × (length whole ≤ 4096)
short_whole bytes whole few cut = elim (cases_lt 4096 (length whole)) [
  | inl far ↦ let size : length bytes ≡ 4097 = ap length cut ∙ length-take-le 4097 whole (omega (arith, far)) in absurd (few (omega (arith, size)))
  | inr less ↦ (cut ∙ take_all 4097 whole (omega (arith, less)), grind (arith, nat_tests, less), less)
]

-- ---- what a reader comes to at the end

module _ (auto : Bool) (supplied : Supplied) (tables : Tables) (tried : Tried) (seen : Seen) (taken : HasTakenFacts tried.state seen) where
  pub closes : (state : State) → state ≡ tried.state → has_picked supplied.table tables ≡ true → ended_by (summary_in auto supplied state) ≡ closed auto supplied tables seen
  closes state same has = rw has (ap (λ s. ended_by (summary_in auto supplied s)) same ∙ same_end auto supplied tried.state seen taken)

  pub lacks : (state : State) → state ≡ tried.state → has_picked supplied.table tables ≡ false → refusal state.tally (missing_table supplied.table tables) ≡ closed auto supplied tables seen
  lacks state same has = rw has (ap (λ (s : State). refusal s.tally (missing_table supplied.table tables)) same ∙ ap (λ t. refusal t (missing_table supplied.table tables)) taken.tally_is)
