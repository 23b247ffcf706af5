-- A line that matches nothing may be left out.
use Rattle.std.proofs.Common.{◌≡◌, ◌≢◌, ◌∙◌, ◌+◌, ◌-◌, ◌≤◌, ◌<◌, nat_le, ℕ, suc, Bool, true, false, List, [], ◌∷◌, ◌++◌, length, map, slice_set, Option, Some, None, is_some, refl, sym, ap, subst, arith, length-append, append_assoc}
use Rattle.std.specs.Prelude.{if◌then◌else◌}
use Rattle.std.specs.Option.{option_or}
use Rattle.std.proofs.lemmas.Bool.Decides.{nat_tests}
use Rattle.std.proofs.lemmas.List.{append-nil, map-append}
use Rattle.mt_text.specs.Text.{lines_of}
use Rattle.mt_text.specs.declared.place.Place.{Place}
use Rattle.mt_import.specs.declared.fault.ImportFault.{ImportFault}
use Rattle.mt_import.specs.declared.fault.ImportFault.TheVariants.{BadLine}
use Rattle.mt_import.specs.declared.fault.Reason.TheVariants.{MixedNumbers}
use Rattle.mt_import.specs.declared.format.Choice.{Choice}
use Rattle.mt_import.specs.declared.format.Format.{Format}
use Rattle.mt_import.specs.declared.reading.Context.{Context}
use Rattle.mt_import.specs.declared.reading.LineSays.{LineSays}
use Rattle.mt_import.specs.declared.reading.LineSays.TheVariants.{Nothing, Announces, Value, Turns, Shows, Lists, Begins, FixedRanges, VariableRanges, Width, Warns, Bad}
use Rattle.mt_import.specs.declared.shape.Announced.{Announced}
use Rattle.mt_import.specs.declared.shape.Shown.{Shown}
use Rattle.mt_import.specs.declared.shape.Tally.{Tally}
use Rattle.mt_import.specs.declared.shape.Warned.{Warned}
use Rattle.mt_import.specs.Import.{log_outcome}
use Rattle.mt_import.specs.Outcome.{facts_outcome, WidthAndFormat, Findings, Outcome, Seen, Slots, Summary, advice_of, count_line, dump_outcome, ended, ended_by, facts_fault, findings_of, firm_of, hint_of, is_empty, missing_of, notes_of, nothing_seen, processors, refusal, remarks, seen_after, seen_with, slot_shown, summary_of, unless, values_of, warned_till}
use Rattle.mt_import.specs.Pieces.{shown_as}
use Rattle.mt_import.specs.Readings.{Fact, context_after, fixed_clash, fixed_facts, fixed_shows, is_fault, is_line, is_match, is_mixed, is_register, is_register_value, line_facts, named_processor, reading_facts, said_facts, shown_facts, shows_facts, starts, unless_clash, value_facts, variable_shows}
use Rattle.mt_ports.specs.declared.status.Status.TheVariants.{Done}
use Rattle.mt_ports.specs.Causes.{one_more}
use Rattle.mt_import.specs.declared.format.Choice.TheVariants.{Auto, Only}
use Rattle.mt_import.specs.declared.shape.Census.{Census}
use Rattle.mt_import.specs.Census.{beside, census_after, census_behind, census_by, census_of, format_at, format_of, front_of, have_register, lines_in, no_census, passed_over, place_of, shows_register, taken}
use Rattle.mt_import.specs.Shown.{context_behind, facts_from, facts_of_line, format_told, is_auto, said_in, said_of, shown}
use Rattle.mt_import.specs.Supplied.{Supplied}
use Rattle.mt_import.specs.Values.{width_by}
use Rattle.mt_import.specs.Warnings.{none_warned, warning_lines}
use Rattle.mt_import.proofs.Facts.{fault_append, seen_append, till_goes, till_stops}
use Rattle.mt_import.proofs.Same.{same_summary}
use Rattle.mt_text.specs.Text.{is_too_long}
use Rattle.mt_import_laws.specs.Alike.{MatchesNothing}
use Rattle.mt_import_laws.specs.FirstLine.{ComeToSame}
use Rattle.mt_import_laws.specs.Origins.{context_after_lines}
use Rattle.mt_import_laws.proofs.Alike.{keeps_format, nothing_short, uncounted}
use Rattle.mt_import_laws.proofs.Moved.{in_format, moved_said, moved_shown, same_told}
use Rattle.mt_import_laws.specs.Spare.{moved_fault, AreMovedReasons, ComeToSameWithout, HasSpareLine, TakesNoneBack, no_value_next, none_waits, number_without, moved_warned, of_count, of_fault, of_warnings, one_line_less}
use Rattle.mt_import_laws.proofs.TableLines.{facts_split}
use Rattle.mt_import_laws.proofs.MovedFacts.{Moves, all_slots, context_moved, facts_moved, fault_moved, moved_context, moved_fact, moved_faults, moved_seen, moved_slot, matched, same_processors, seen_moved, till_moved}

-- ---- the count of lines and the format

-- Such facts keep them.
abbrev Keeps : List Fact → Type 0
Keeps facts = (seen : Seen) → ((seen_after seen facts).tally.lines ≡ seen.tally.lines) × ((seen_after seen facts).tally.format ≡ seen.tally.format)

keeps_if : (test : Bool) (xs ys : List Fact) → Keeps xs → Keeps ys → Keeps (if test then xs else ys)
keeps_if true xs ys one two = one
keeps_if false xs ys one two = two

keeps_reading : (processor table : ℕ) (s : Shown) → Keeps (reading_facts processor table s)
keeps_reading processor table s =
    keeps_if (is_register s.number) (is_register_value (record { processor = processor; table = table; number = s.number; bits = s.bits; value = s.value; place = s.place }) ∷ []) [] (λ seen. (refl, refl)) (λ seen. (refl, refl))

keeps_shown : (processor table : ℕ) (s : Option Shown) → Keeps (shown_facts processor table s)
keeps_shown processor table None seen = (refl, refl)
keeps_shown processor table (Some s) seen = keeps_reading processor table s seen

keeps_shows : (processor table : ℕ) (shows : List (Option Shown)) → Keeps (shows_facts processor table shows)
keeps_shows processor table [] seen = (refl, refl)
keeps_shows processor table (s ∷ shows) seen =
    let both = seen_append seen (shown_facts processor table s) (shows_facts processor table shows) in
    let here = keeps_shown processor table s seen in
    let later = keeps_shows processor table shows (seen_after seen (shown_facts processor table s)) in
    (ap (λ (x : Seen). x.tally.lines) both ∙ later.0 ∙ here.0, ap (λ (x : Seen). x.tally.format) both ∙ later.1 ∙ here.1)

keeps_value : (announced : Option Announced) (table value : ℕ) (place : Place) → Keeps (value_facts announced table value place)
keeps_value None table value place seen = (refl, refl)
keeps_value (Some announced) table value place seen = keeps_shown announced.processor table (shown_as announced.number value place) seen

keeps_unless : (clash : Option ℕ) (place : Place) (facts : List Fact) → Keeps facts → Keeps (unless_clash clash place facts)
keeps_unless None place facts keeps seen = keeps seen
keeps_unless (Some line) place facts keeps seen = (refl, refl)

keeps_fixed : (context : Context) (enabled alone : Bool) (place : Place) → Keeps (fixed_facts context enabled alone place)
keeps_fixed context enabled alone place =
    keeps_unless (fixed_clash context.fixed enabled) place (shows_facts 0 context.table (fixed_shows enabled alone place)) (keeps_shows 0 context.table (fixed_shows enabled alone place))

keeps_said : (context : Context) (said : LineSays) → Keeps (said_facts context said)
keeps_said context Nothing seen = (refl, refl)
keeps_said context (Announces processor number) seen = (refl, refl)
keeps_said context (Value value place) seen = keeps_value context.announced context.table value place seen
keeps_said context (Turns turn) seen = (refl, refl)
keeps_said context (Shows processor shows) seen = keeps_shows _ context.table shows seen
keeps_said context (Begins shows) seen = keeps_shows 0 _ shows seen
keeps_said context (FixedRanges enabled alone place) seen = keeps_fixed context enabled alone place seen
keeps_said context (VariableRanges enabled place) seen = keeps_shows 0 context.table (variable_shows context enabled place) seen
keeps_said context (Width width place) seen = (refl, refl)
keeps_said context (Warns warning number) seen = (refl, refl)
keeps_said context (Lists processor shown) seen =
    keeps_if (is_mixed context.lists_processors (is_some processor)) (is_fault (BadLine MixedNumbers shown.place) ∷ []) (reading_facts (named_processor processor (Some 0)) context.table shown)
    (λ seen. (refl, refl)) (keeps_reading (named_processor processor (Some 0)) context.table shown) seen
keeps_said context (Bad why place) seen = (refl, refl)

-- All lines in front of this number are counted, and the format is the one that they lead to.
record IsTallied (context : Context) (number : ℕ) (seen : Seen) : Type 0 where
  lines : seen.tally.lines + 1 ≡ number
  format : seen.tally.format ≡ context.format

tallied : (lines : List (List ℕ)) (context : Context) (number : ℕ) (seen : Seen) → IsTallied context number seen
    → IsTallied (context_after_lines context number lines) (number + length lines) (seen_after seen (facts_from context number lines))
tallied [] context number seen is = let e : number ≡ number + 0 = omega arith in record { lines = is.lines ∙ e; format = is.format }
tallied (line ∷ lines) context number seen is =
    let said : LineSays = said_in context.format number line in
    let counted : Seen = seen_with seen (is_line number context.format (is_match said)) in
    let kept = keeps_said context said counted in
    let behind : Seen = seen_after seen (facts_of_line context number line) in
    let later = tallied lines (context_behind context number line) (number + 1) behind (record { lines = ap (λ n. n + 1) kept.0; format = kept.1 }) in
    let joined = seen_append seen (facts_of_line context number line) (facts_from (context_behind context number line) (number + 1) lines) in
    let e : number + 1 + length lines ≡ number + length (line ∷ lines) = omega arith in
    record { lines = ap (λ (x : Seen). x.tally.lines + 1) joined ∙ later.lines ∙ e; format = ap (λ (x : Seen). x.tally.format) joined ∙ later.format }

-- ---- a call that waits for its value

abbrev quiet : Context → Context
quiet context = record { format = context.format; announced = None; processor = context.processor; table = context.table; fixed = context.fixed; lists_processors = context.lists_processors }

record SaysNothing (context : Context) (format : Option Format) (said : LineSays) : Type 0 where
  facts : said_facts (quiet context) said ≡ said_facts context said
  behind : context_after (quiet context) format said ≡ context_after context format said

-- What is no value doesn't ask for the call.
no_value : (context : Context) (format : Option Format) (said : LineSays) → ((value : ℕ) (place : Place) → said ≢ Value value place) → SaysNothing context format said
no_value context format Nothing other = record { facts = refl; behind = refl }
no_value context format (Announces processor number) other = record { facts = refl; behind = refl }
no_value context format (Value value place) other = absurd (other value place refl)
no_value context format (Turns turn) other = record { facts = refl; behind = refl }
no_value context format (Shows processor shows) other = record { facts = refl; behind = refl }
no_value context format (Begins shows) other = record { facts = refl; behind = refl }
no_value context format (FixedRanges enabled alone place) other = record { facts = refl; behind = refl }
no_value context format (VariableRanges enabled place) other = record { facts = refl; behind = refl }
no_value context format (Width width place) other = record { facts = refl; behind = refl }
no_value context format (Warns warning number) other = record { facts = refl; behind = refl }
no_value context format (Lists processor shown) other = record { facts = refl; behind = refl }
no_value context format (Bad why place) other = record { facts = refl; behind = refl }

quiet_facts : (context : Context) (number : ℕ) (others : List (List ℕ)) → TakesNoneBack context number others → facts_from (quiet context) number others ≡ facts_from context number others
quiet_facts context number others (none_waits none) =
    ap (λ waiting. facts_from (record { format = context.format; announced = waiting; processor = context.processor; table = context.table; fixed = context.fixed; lists_processors = context.lists_processors }) number others) (sym none)
quiet_facts context number [] (no_value_next next) = refl
quiet_facts context number (line ∷ lines) (no_value_next next) =
    let format : Option Format = context.format in
    let said : LineSays = said_in format number line in
    let same = no_value context format said next in
    ap (λ (fs : List Fact). is_line number format (is_match said) ∷ fs ++ facts_from (context_after (quiet context) format said) (number + 1) lines) same.facts
    ∙ ap (λ (c : Context). is_line number format (is_match said) ∷ said_facts context said ++ facts_from c (number + 1) lines) same.behind

-- ---- numbers

module _ (at : ℕ) where
  abbrev move : ℕ → ℕ
  move = number_without at

  zero_stays : move 0 ≡ 0
  zero_stays = by (nat_le at 0)
    where
      by : (test : Bool) → (if test then 0 - 1 else 0) ≡ 0
      by true = refl
      by false = refl

  below : (number : ℕ) → number < at → move number ≡ number
  below number less = grind (arith, nat_tests, less)

  above : (number : ℕ) → at ≤ number → move number ≡ number - 1
  above number more = grind (arith, nat_tests, more)

  stay : (lines : List (List ℕ)) (number : ℕ) → number + length lines ≤ at → Moves move number number lines
  stay [] number few = tt
  stay (line ∷ lines) number few = (below number (omega (arith, few)), stay lines (number + 1) (omega (arith, few)))

  shift : (lines : List (List ℕ)) (number : ℕ) → at ≤ number → Moves move (number + 1) number lines
  shift [] number from = tt
  shift (line ∷ lines) number from =
      let e : number + 1 - 1 ≡ number = omega arith in
      (above (number + 1) (omega (arith, from)) ∙ e, shift lines (number + 1) (omega (arith, from)))

-- ---- the outcome

-- The texts but for counts of lines don't depend on which lines show.
module _ (move : ℕ → ℕ) (supplied : Supplied) (slots : Slots) (count : ℕ) (known : WidthAndFormat) where
  abbrev found : Findings
  found = record { slots = slots; count = count; shown = known }

  abbrev moved : Findings
  moved = record { slots = λ k number. moved_slot move (slots k number); count = count; shown = known }

  same_missing : missing_of supplied moved ≡ missing_of supplied found
  unfolding values_of hint_of
  same_missing = refl

  same_advice : (auto : Bool) → advice_of auto supplied moved ≡ advice_of auto supplied found
  unfolding values_of hint_of
  same_advice auto = refl

  same_notes : notes_of supplied moved ≡ notes_of supplied found
  unfolding values_of firm_of
  same_notes = refl

  same_values : (k n : ℕ) → values_of supplied moved k n ≡ values_of supplied found k n
  unfolding values_of
  same_values k n = refl

  same_width : width_by supplied moved.slots known.width ≡ width_by supplied slots known.width
  same_width = refl

  pub unmoved : (auto : Bool) (tally : Tally) → ended_by (summary_of auto supplied moved tally) ≡ ended_by (summary_of auto supplied found tally)
  unmoved auto tally = same_summary (summary_of auto supplied moved tally) (summary_of auto supplied found tally) same_values same_notes refl refl refl same_missing (same_advice auto) same_width

module _ (at : ℕ) where
  -- reasons with nothing in front
  plainly : (auto : Bool) (longer shorter : Outcome) → ComeToSame longer shorter → AreMovedReasons auto longer.status at longer.reasons shorter.reasons → ComeToSameWithout auto at longer shorter
  plainly auto longer shorter same moved = record { same = same; front = []; longer_reasons = longer.reasons; shorter_reasons = shorter.reasons; longer_are = refl; shorter_are = refl; moved = moved }

  remarked : (auto : Bool) (tally : Tally) → AreMovedReasons auto Done at (remarks auto tally) (remarks auto (one_line_less at tally))
  remarked true tally =
      of_count tally [] (ap (λ (t : List ℕ). count_line tally ++ t) (sym (append-nil (warning_lines tally.warned))))
      (ap (λ (t : List ℕ). count_line (one_line_less at tally) ++ t) (sym (append-nil (warning_lines (one_line_less at tally).warned))))
  remarked false tally = of_warnings refl refl tally.warned refl refl

  refused : (auto : Bool) (tally : Tally) (missing : List ℕ) → ComeToSameWithout auto at (refusal tally missing) (refusal (one_line_less at tally) missing)
  refused auto tally missing = plainly auto (refusal tally missing) (refusal (one_line_less at tally) missing) (record { notes = refl; dump = refl; status = refl }) (of_count tally missing refl refl)

  abbrev less_by_one : Summary → Summary
  less_by_one told = record told { tally = one_line_less at told.tally }

  dumped : (told : Summary) (width capabilities : Option ℕ)
      → ComeToSameWithout told.auto at (dump_outcome (refusal told.tally told.missing) told width capabilities)
      (dump_outcome (refusal (one_line_less at told.tally) told.missing) (less_by_one told) width capabilities)
  dumped told (Some width) (Some capabilities) = plainly told.auto _ _ (record { notes = refl; dump = refl; status = refl }) (remarked told.auto told.tally)
  dumped told (Some width) None = refused told.auto told.tally told.missing
  dumped told None capabilities = refused told.auto told.tally told.missing

  less : (told : Summary) → ComeToSameWithout told.auto at (ended_by told) (ended_by (less_by_one told))
  less told = by (is_empty told.missing)
    where
      by : (test : Bool)
          → ComeToSameWithout told.auto at (if test then dump_outcome (refusal told.tally told.missing) told told.width (told.values 0 0xfe) else refusal told.tally (told.missing ++ told.advice))
          (if test then dump_outcome (refusal (one_line_less at told.tally) told.missing) (less_by_one told) told.width (told.values 0 0xfe) else refusal (one_line_less at told.tally) (told.missing ++ told.advice))
      by true = dumped told told.width (told.values 0 0xfe)
      by false = refused told.auto told.tally (told.missing ++ told.advice)

  moved_ended : (auto : Bool) (supplied : Supplied) (seen : Seen) → 1 ≤ seen.tally.lines → at ≤ seen.tally.lines
      → ComeToSameWithout auto at (ended auto supplied seen) (ended auto supplied (moved_seen (number_without at) seen))
  moved_ended auto supplied seen some later =
      let slots : Slots = slot_shown seen.readings in
      let known : WidthAndFormat = (findings_of seen).shown in
      let count : ℕ = processors seen.readings in
      let tally : Tally = (moved_seen (number_without at) seen).tally in
      let fewer : tally ≡ one_line_less at seen.tally = ap (λ n. let t : Tally = record { format = seen.tally.format; lines = n; matches = seen.tally.matches; warned = moved_warned (number_without at) seen.tally.warned } in t) (above at seen.tally.lines later) in
      let same : ended_by (summary_of auto supplied (findings_of seen) (one_line_less at seen.tally)) ≡ ended auto supplied (moved_seen (number_without at) seen) =
      ap (λ (t : Tally). ended_by (summary_of auto supplied (findings_of seen) t)) (sym fewer)
      ∙ sym (unmoved (number_without at) supplied slots count known auto tally)
      ∙ ap (λ (s : Slots). ended_by (summary_of auto supplied (record { slots = s; count = count; shown = known }) tally)) (all_slots (number_without at) (zero_stays at) seen.readings)
      ∙ ap (λ n. ended_by (summary_of auto supplied (record { slots = slot_shown (moved_seen (number_without at) seen).readings; count = n; shown = known }) tally))
      (sym (same_processors (number_without at) (zero_stays at) seen.readings)) in
      subst (ComeToSameWithout auto at (ended auto supplied seen)) same (less (summary_of auto supplied (findings_of seen) seen.tally))

  by_fault : (auto : Bool) (fault : Option ImportFault) (warned : Warned) (longer shorter : Outcome) → ComeToSameWithout auto at longer shorter
      → ComeToSameWithout auto at (unless fault warned longer) (unless (moved_faults (number_without at) fault) (moved_warned (number_without at) warned) shorter)
  by_fault auto None warned longer shorter same = same
  by_fault auto (Some fault) warned longer shorter same = plainly auto (unless (Some fault) warned longer) (unless (Some (moved_fault (number_without at) fault)) (moved_warned (number_without at) warned) shorter) (record { notes = refl; dump = refl; status = refl }) (of_fault refl warned fault refl refl)

-- ---- the format that is taken

nothing_in : (choice : Choice) (text : List ℕ) (number : ℕ) (line : List ℕ) → MatchesNothing choice number line → said_in (format_of choice text) number line ≡ Nothing
nothing_in Auto text number line nothing = nothing (format_of Auto text)
nothing_in (Only format) text number line nothing = nothing

module _ (n : ℕ) where
  abbrev to_it : ℕ → ℕ
  to_it number = n

  same_shows : (shows : List (Option Shown)) → have_register (map (moved_shown to_it) shows) ≡ have_register shows
  same_shows [] = refl
  same_shows (None ∷ shows) = same_shows shows
  same_shows (Some shown ∷ shows) = ap (λ later. if is_register shown.number then true else later) (same_shows shows)

  same_register : (said : LineSays) → shows_register (moved_said to_it said) ≡ shows_register said
  same_register Nothing = refl
  same_register (Announces processor number) = refl
  same_register (Value value place) = refl
  same_register (Turns turn) = refl
  same_register (Shows processor shows) = same_shows shows
  same_register (Begins shows) = same_shows shows
  same_register (FixedRanges enabled alone place) = refl
  same_register (VariableRanges enabled place) = refl
  same_register (Width width place) = refl
  same_register (Warns warning number) = refl
  same_register (Lists processor shown) = refl
  same_register (Bad why place) = refl

  -- A line counts for the same format whatever its number.
  behind_at : (census : Census) (number : ℕ) (line : List ℕ) → census_behind census number line ≡ census_behind census n line
  unfolding census_behind
  behind_at census number line = ap (λ o. census_by o number line census) (at census.first) ∙ by (format_at census.first n line)
    where
      says : (format : Format) → moved_said to_it (said_of format number line) ≡ said_of format n line
      says format = in_format to_it (Some format) number line

      at : (first : Option Format) → format_at first number line ≡ format_at first n line
      at None = sym (same_told to_it number line)
      at (Some format) =
          ap (λ test. if test then Some format else format_told number line) (sym (matched to_it (said_of format number line)) ∙ ap is_match (says format))
          ∙ ap (λ told. if is_match (said_of format n line) then Some format else told) (sym (same_told to_it number line))

      by : (told : Option Format) → census_by told number line census ≡ census_by told n line census
      by None = refl
      by (Some format) =
          ap (λ test. let c : Census = record { first = option_or census.first (Some format); counts = if test then slice_set census.counts (place_of format) (one_more (lines_in census format)) else census.counts } in c)
          (sym (same_register (said_of format number line)) ∙ ap shows_register (says format))

same_numbers : (lines : List (List ℕ)) (census : Census) (old new : ℕ) → census_after census old lines ≡ census_after census new lines
same_numbers [] census old new = refl
same_numbers (line ∷ lines) census old new =
    ap (λ c. if is_too_long line then census else c) (ap (λ c. census_after c (old + 1) lines) (behind_at new census old line) ∙ same_numbers lines (census_behind census new line) (old + 1) (new + 1))

-- Without a line that matches nothing in any format the lines count the same.
count_without : (before others : List (List ℕ)) (line : List ℕ) (census : Census) (number : ℕ) → ((format : Option Format) → said_in format (number + length before) line ≡ Nothing)
    → census_after census number (before ++ line ∷ others) ≡ census_after census number (before ++ others)
count_without [] others line census number nothing =
    let zero_more : number + 0 ≡ number = omega arith in
    let here : (format : Option Format) → said_in format number line ≡ Nothing = λ format. subst (λ k. said_in format k line ≡ Nothing) zero_more (nothing format) in
    ap (λ long. if long then census else census_after (census_behind census number line) (number + 1) others) (nothing_short number line here)
    ∙ ap (λ c. census_after c (number + 1) others) (uncounted number line here census)
    ∙ same_numbers others census (number + 1) number
count_without (first ∷ before) others line census number nothing =
    let next : number + suc (length before) ≡ number + 1 + length before = omega arith in
    ap (λ c. if is_too_long first then census else c)
    (count_without before others line (census_behind census number first) (number + 1) (λ format. subst (λ k. said_in format k line ≡ Nothing) next (nothing format)))

taken_without : (choice : Choice) (longer shorter : List ℕ) (has : HasSpareLine choice longer shorter) → (format_of choice longer ≡ format_of choice shorter) × (front_of choice longer ≡ front_of choice shorter)
taken_without (Only format) longer shorter has = (refl, refl)
taken_without Auto longer shorter has =
    let same : census_of longer ≡ census_of shorter =
    ap (census_after no_census 1) has.longer_lines ∙ count_without has.before has.others has.line no_census 1 has.spare ∙ sym (ap (census_after no_census 1) has.shorter_lines) in
    (ap taken same, ap passed_over same)

-- ---- the two logs

module _ (choice : Choice) (supplied : Supplied) (longer shorter : List ℕ) (has : HasSpareLine choice longer shorter) where
  abbrev at : ℕ
  at = 1 + length has.before

  -- by which both are read
  abbrev format : Option Format
  format = format_of choice longer

  abbrev start : Seen
  start = nothing_seen format

  abbrev context : Context
  context = context_after_lines (starts format) 1 has.before

  abbrev first : List Fact
  first = facts_from (starts format) 1 has.before

  abbrev longer_seen : Seen
  longer_seen = seen_after start (shown format longer)

  abbrev shorter_seen : Seen
  shorter_seen = seen_after start (shown format shorter)

  abbrev blank : Fact
  blank = is_line at context.format false

  abbrev later : ℕ → List Fact
  later number = facts_from context number has.others

  -- what the spare line leads to
  of_spare : {A : Type 0} (f : Option Format → LineSays → A) → f context.format (said_in context.format at has.line) ≡ f context.format Nothing
  of_spare f =
      let said : said_in context.format at has.line ≡ Nothing =
      subst (λ o. said_in o at has.line ≡ Nothing) (sym (keeps_format has.before (starts format) 1)) (nothing_in choice longer at has.line has.spare) in
      ap (f context.format) said

  longer_facts : shown format longer ≡ first ++ blank ∷ later (at + 1)
  longer_facts =
      ap (facts_from (starts format) 1) has.longer_lines
      ∙ facts_split has.before (starts format) 1 (has.line ∷ has.others)
      ∙ ap (λ (fs : List Fact). first ++ fs)
      (ap (λ (fs : List Fact). fs ++ facts_from (context_behind context at has.line) (at + 1) has.others) (of_spare (λ format said. line_facts at format context said))
      ∙ ap (λ (c : Context). blank ∷ facts_from c (at + 1) has.others) (of_spare (λ format said. context_after context format said))
      ∙ ap (λ (fs : List Fact). blank ∷ fs) (quiet_facts context (at + 1) has.others has.takes_none_back))

  shorter_facts : shown format shorter ≡ first ++ later at
  shorter_facts = ap (facts_from (starts format) 1) has.shorter_lines ∙ facts_split has.before (starts format) 1 has.others

  same_context : moved_context (number_without at) context ≡ context
  same_context = context_moved (number_without at) has.before (starts format) 1 1 (stay at has.before 1 (omega arith))

  abbrev moved_blank : Fact
  moved_blank = is_line (number_without at at) context.format false

  moved_facts : map (moved_fact (number_without at)) (shown format longer) ≡ first ++ moved_blank ∷ later at
  moved_facts =
      ap (map (moved_fact (number_without at))) longer_facts
      ∙ map-append (moved_fact (number_without at)) first (blank ∷ later (at + 1))
      ∙ ap (λ (fs : List Fact). fs ++ moved_blank ∷ map (moved_fact (number_without at)) (later (at + 1)))
      (facts_moved (number_without at) has.before (starts format) 1 1 (stay at has.before 1 (omega arith)))
      ∙ ap (λ (fs : List Fact). first ++ moved_blank ∷ fs)
      (facts_moved (number_without at) has.others context (at + 1) at (shift at has.others at (omega arith)) ∙ ap (λ (c : Context). facts_from c at has.others) same_context)

  abbrev behind : Seen
  behind = seen_after start first

  is_tallied : IsTallied context at behind
  is_tallied = tallied has.before (starts format) 1 start (record { lines = refl; format = refl })

  -- The line that is left out would count for what is counted already.
  same_behind : seen_with behind moved_blank ≡ behind
  same_behind =
      let number : number_without at at ≡ behind.tally.lines = let e = is_tallied.lines in above at at (omega arith) ∙ omega (arith, e) in
      ap (λ n. seen_with behind (is_line n context.format false)) number ∙ ap (λ f. seen_with behind (is_line behind.tally.lines f false)) (sym is_tallied.format)

  start_stays : moved_seen (number_without at) start ≡ start
  start_stays =
      ap (λ n. let s : Seen = record { width = None; line_of_width = n; readings = []; tally = record { format = format; lines = n; matches = 0; warned = none_warned } } in s) (zero_stays at)

  same_fault : moved_faults (number_without at) (facts_fault supplied start (shown format longer)) ≡ facts_fault supplied start (shown format shorter)
  same_fault =
      fault_moved (number_without at) (zero_stays at) supplied (shown format longer) start
      ∙ ap (λ (s : Seen). facts_fault supplied s (map (moved_fact (number_without at)) (shown format longer))) start_stays
      ∙ ap (facts_fault supplied start) moved_facts
      ∙ fault_append supplied start first (moved_blank ∷ later at)
      ∙ ap (λ (s : Seen). option_or (facts_fault supplied start first) (facts_fault supplied s (later at))) same_behind
      ∙ sym (fault_append supplied start first (later at))
      ∙ ap (facts_fault supplied start) (sym shorter_facts)

  till_later : (fault : Option ImportFault) → facts_fault supplied start first ≡ fault → warned_till supplied start (first ++ moved_blank ∷ later at) ≡ warned_till supplied start (first ++ later at)
  till_later (Some fault) is = till_stops supplied (moved_blank ∷ later at) start first fault is ∙ sym (till_stops supplied (later at) start first fault is)
  till_later None is =
      till_goes supplied (moved_blank ∷ later at) start first is ∙ ap (λ (s : Seen). warned_till supplied s (later at)) same_behind ∙ sym (till_goes supplied (later at) start first is)

  same_warned : moved_warned (number_without at) (warned_till supplied start (shown format longer)) ≡ warned_till supplied start (shown format shorter)
  same_warned =
      till_moved (number_without at) (zero_stays at) supplied (shown format longer) start
      ∙ ap (λ (s : Seen). warned_till supplied s (map (moved_fact (number_without at)) (shown format longer))) start_stays
      ∙ ap (warned_till supplied start) moved_facts
      ∙ till_later (facts_fault supplied start first) refl
      ∙ ap (warned_till supplied start) (sym shorter_facts)

  same_seen : moved_seen (number_without at) longer_seen ≡ shorter_seen
  same_seen =
      seen_moved (number_without at) (zero_stays at) supplied (shown format longer) start
      ∙ ap (λ (s : Seen). seen_after s (map (moved_fact (number_without at)) (shown format longer))) start_stays
      ∙ ap (seen_after start) moved_facts
      ∙ seen_append start first (moved_blank ∷ later at)
      ∙ ap (λ (s : Seen). seen_after s (later at)) same_behind
      ∙ sym (seen_append start first (later at))
      ∙ ap (seen_after start) (sym shorter_facts)

  counts_all : at ≤ longer_seen.tally.lines
  counts_all =
      let all = (tallied (lines_of longer) (starts format) 1 start (record { lines = refl; format = refl })).lines in
      let size : length (lines_of longer) ≡ length (has.before ++ has.line ∷ has.others) = ap length has.longer_lines in
      let parts = length-append has.before (has.line ∷ has.others) in
      omega (arith, all, size, parts)

  abbrev outcome_in : List ℕ → Outcome
  outcome_in text = facts_outcome (is_auto choice) supplied start (shown format text)

  by_format : ComeToSameWithout (is_auto choice) at (outcome_in longer) (outcome_in shorter)
  by_format =
      let some = counts_all in
      let till : Warned = warned_till supplied start (shown format longer) in
      subst (λ f. ComeToSameWithout (is_auto choice) at (outcome_in longer) (unless f (warned_till supplied start (shown format shorter)) (ended (is_auto choice) supplied shorter_seen))) same_fault
      (subst (λ w. ComeToSameWithout (is_auto choice) at (outcome_in longer) (unless (moved_faults (number_without at) (facts_fault supplied start (shown format longer))) w (ended (is_auto choice) supplied shorter_seen))) same_warned
      (by_fault at (is_auto choice) (facts_fault supplied start (shown format longer)) till (ended (is_auto choice) supplied longer_seen) (ended (is_auto choice) supplied shorter_seen)
      (subst (λ (s : Seen). ComeToSameWithout (is_auto choice) at (ended (is_auto choice) supplied longer_seen) (ended (is_auto choice) supplied s)) same_seen
      (moved_ended at (is_auto choice) supplied longer_seen (omega (arith, some)) some))))

  -- The same format is taken, and the same lines are passed over.
  same_taken : (format_of choice longer ≡ format_of choice shorter) × (front_of choice longer ≡ front_of choice shorter)
  same_taken = taken_without choice longer shorter has

  pub without : ComeToSameWithout (is_auto choice) at (log_outcome choice supplied longer) (log_outcome choice supplied shorter)
  without =
      let inner = by_format in
      subst (λ o. ComeToSameWithout (is_auto choice) at (log_outcome choice supplied longer) (beside (front_of choice shorter) (facts_outcome (is_auto choice) supplied (nothing_seen o) (shown o shorter)))) same_taken.0
      (subst (λ front. ComeToSameWithout (is_auto choice) at (log_outcome choice supplied longer) (beside front (outcome_in shorter))) same_taken.1 (record {
        same = record { notes = inner.same.notes; dump = inner.same.dump; status = inner.same.status };
        front = front_of choice longer ++ inner.front;
        longer_reasons = inner.longer_reasons;
        shorter_reasons = inner.shorter_reasons;
        longer_are = ap (λ (t : List ℕ). front_of choice longer ++ t) inner.longer_are ∙ sym (append_assoc (front_of choice longer) inner.front inner.longer_reasons);
        shorter_are = ap (λ (t : List ℕ). front_of choice longer ++ t) inner.shorter_are ∙ sym (append_assoc (front_of choice longer) inner.front inner.shorter_reasons);
        moved = inner.moved;
      }))
