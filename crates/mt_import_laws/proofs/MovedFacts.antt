-- Lines with other numbers come to the same facts, faults and readings but for the lines that they name.
use Rattle.std.proofs.Common.{◌≡◌, ◌∙◌, ◌+◌, ◌==◌, ◌&&◌, nat_lt, max, ℕ, Bool, true, false, List, [], ◌∷◌, ◌++◌, bit_or, map, Option, Some, None, is_some, refl, sym, ap}
use Rattle.std.specs.Prelude.{⊤, if◌then◌else◌, is_some}
use Rattle.std.specs.Option.{option_or}
use Rattle.std.proofs.Math.Path.{fun_ext}
use Rattle.std.proofs.lemmas.List.{map-append}
use Rattle.mt_ports.specs.Causes.{one_more}
use Rattle.mt_regs.specs.RegisterFile.{low_byte}
use Rattle.mt_text.specs.declared.place.Place.{Place}
use Rattle.mt_import.specs.Warnings.{has_memory_bits, warned_by, warned_with}
use Rattle.mt_import.specs.declared.shape.Warning.TheVariants.{Unlike, WrongMask, LostMemory, TopOfMemory, Syscfg, MemoryBits}
use Rattle.mt_import.specs.declared.shape.Tally.{Tally}
use Rattle.mt_import.specs.declared.shape.Warned.{Warned}
use Rattle.mt_import.specs.declared.shape.Warning.{Warning}
use Rattle.mt_import.specs.declared.fault.ImportFault.{ImportFault}
use Rattle.mt_import.specs.declared.fault.ImportFault.TheVariants.{TooManyPairs}
use Rattle.mt_import.specs.declared.fault.Rival.{Rival}
use Rattle.mt_import.specs.declared.fault.Rival.TheVariants.{CapabilityWord, Line, Word}
use Rattle.mt_import.specs.declared.format.Format.{Format}
use Rattle.mt_import.specs.declared.reading.Context.{Context}
use Rattle.mt_import.specs.declared.reading.LineSays.{LineSays}
use Rattle.mt_import.specs.declared.reading.LineSays.TheVariants.{Nothing, Announces, Value, Turns, Shows, Lists, Begins, FixedRanges, VariableRanges, Width, Warns, Bad}
use Rattle.mt_import.specs.declared.shape.Announced.{Announced}
use Rattle.mt_import.specs.declared.shape.FixedLine.{FixedLine}
use Rattle.mt_import.specs.declared.shape.LastPair.{LastPair}
use Rattle.mt_import.specs.declared.shape.Reading.{Reading}
use Rattle.mt_import.specs.declared.shape.Shown.{Shown}
use Rattle.mt_import.specs.declared.shape.Slot.{Slot}
use Rattle.mt_import.specs.Pieces.{shown_as}
use Rattle.mt_import.specs.Readings.{Fact, context_after, fixed_facts, fixed_shows, is_fault, is_line, is_match, is_mixed, is_register, is_register_value, is_warning, is_width, line_facts, named_processor, reading_facts, said_facts, shown_facts, shows_facts, unless_clash, unlike, value_facts, variable_bits, variable_shows}
use Rattle.mt_import.specs.Shown.{context_behind, facts_from, facts_of_line, said_in}
use Rattle.mt_import.specs.Slot.{clashes, slot_with}
use Rattle.mt_import.specs.Supplied.{Supplied, bits_differ, differs, supplied_value}
use Rattle.mt_import.specs.Outcome.{Seen, capabilities_shown, capability_rival, contradiction, count_rival, counted, counts_fewer, fact_fault, facts_fault, fix_shown, fixed_rival, fixless_rival, last_after, last_fixed_line, last_shown, least_count, pairs_fault, processors, ranged_rival, reading_fault, rival, seen_after, seen_with, shows_fixed, shows_no_fix, slot_shown, uncounted_rival, width_contradiction, width_fault, width_rival, warned_till}
use Rattle.mt_import.specs.Values.{lacks_fix}
use Rattle.mt_import_laws.specs.Origins.{context_after_lines}
use Rattle.mt_import_laws.specs.Spare.{moved_fault, moved_place, moved_rival, moved_warned}
use Rattle.mt_import_laws.proofs.Moved.{each, in_format, moved_said, moved_shown}

module _ (move : ℕ → ℕ) where
  abbrev pub moved_reading : Reading → Reading
  moved_reading reading = record { processor = reading.processor; table = reading.table; number = reading.number; bits = reading.bits; value = reading.value; place = moved_place move reading.place }

  abbrev pub moved_fact : Fact → Fact
  moved_fact (is_line number format matched) = is_line (move number) format matched
  moved_fact (is_register_value reading) = is_register_value (moved_reading reading)
  moved_fact (is_width width place) = is_width width (moved_place move place)
  moved_fact (is_warning warning number) = is_warning warning (move number)
  moved_fact (is_fault fault) = is_fault (moved_fault move fault)

  abbrev moved_fixed : Option FixedLine → Option FixedLine
  moved_fixed None = None
  moved_fixed (Some line) = Some (record { is_enabled = line.is_enabled; table = line.table; line = move line.line })

  abbrev pub moved_context : Context → Context
  moved_context context = record { format = context.format; announced = context.announced; processor = context.processor; table = context.table; fixed = moved_fixed context.fixed; lists_processors = context.lists_processors }

  -- ---- the facts of a line

  abbrev read_as : ℕ → ℕ → Shown → Reading
  read_as processor table shown = record { processor = processor; table = table; number = shown.number; bits = shown.bits; value = shown.value; place = shown.place }

  of_reading : (processor table : ℕ) (shown : Shown)
      → map moved_fact (reading_facts processor table shown) ≡ reading_facts processor table (record { number = shown.number; bits = shown.bits; value = shown.value; place = moved_place move shown.place })
  of_reading processor table shown = each (map moved_fact) (is_register shown.number) _ _ _ _ refl refl

  of_shown : (processor table : ℕ) (shown : Option Shown) → map moved_fact (shown_facts processor table shown) ≡ shown_facts processor table (moved_shown move shown)
  of_shown processor table None = refl
  of_shown processor table (Some shown) = of_reading processor table shown

  of_shows : (processor table : ℕ) (shows : List (Option Shown)) → map moved_fact (shows_facts processor table shows) ≡ shows_facts processor table (map (moved_shown move) shows)
  of_shows processor table [] = refl
  of_shows processor table (shown ∷ shows) =
      map-append moved_fact (shown_facts processor table shown) (shows_facts processor table shows)
      ∙ ap (λ (fs : List Fact). fs ++ map moved_fact (shows_facts processor table shows)) (of_shown processor table shown)
      ∙ ap (λ (fs : List Fact). shown_facts processor table (moved_shown move shown) ++ fs) (of_shows processor table shows)

  of_value : (announced : Option Announced) (table value : ℕ) (place : Place) → map moved_fact (value_facts announced table value place) ≡ value_facts announced table value (moved_place move place)
  of_value None table value place = refl
  of_value (Some announced) table value place = of_shown announced.processor table (shown_as announced.number value place)

  flags : (enabled alone : Bool) (place : Place) → map (moved_shown move) (fixed_shows enabled alone place) ≡ fixed_shows enabled alone (moved_place move place)
  flags true alone place = refl
  flags false true place = refl
  flags false false place = refl

  of_flags : (table : ℕ) (enabled alone : Bool) (place : Place) → map moved_fact (shows_facts 0 table (fixed_shows enabled alone place)) ≡ shows_facts 0 table (fixed_shows enabled alone (moved_place move place))
  of_flags table enabled alone place = of_shows 0 table (fixed_shows enabled alone place) ∙ ap (shows_facts 0 table) (flags enabled alone place)

  of_fixed : (format : Option Format) (announced : Option Announced) (processor : Option ℕ) (table : ℕ) (fixed : Option FixedLine) (lists : Option Bool) (enabled alone : Bool) (place : Place)
      → let context : Context = record { format = format; announced = announced; processor = processor; table = table; fixed = fixed; lists_processors = lists } in
      map moved_fact (fixed_facts context enabled alone place) ≡ fixed_facts (moved_context context) enabled alone (moved_place move place)
  of_fixed format announced processor table None lists enabled alone place = of_flags table enabled alone place
  of_fixed format announced processor table (Some line) lists enabled alone place = by (unlike line.is_enabled enabled)
    where
      by : (test : Bool) → map moved_fact (unless_clash (if test then Some line.line else None) place (shows_facts 0 table (fixed_shows enabled alone place)))
          ≡ unless_clash (if test then Some (move line.line) else None) (moved_place move place) (shows_facts 0 table (fixed_shows enabled alone (moved_place move place)))
      by true = refl
      by false = of_flags table enabled alone place

  same_bits : (format : Option Format) (announced : Option Announced) (processor : Option ℕ) (table : ℕ) (fixed : Option FixedLine) (lists : Option Bool) (enabled : Bool)
      → let context : Context = record { format = format; announced = announced; processor = processor; table = table; fixed = fixed; lists_processors = lists } in
      variable_bits context enabled ≡ variable_bits (moved_context context) enabled
  same_bits format announced processor table None lists enabled = refl
  same_bits format announced processor table (Some line) lists enabled = refl

  of_variable : (context : Context) (enabled : Bool) (place : Place)
      → map moved_fact (shows_facts 0 context.table (variable_shows context enabled place)) ≡ shows_facts 0 context.table (variable_shows (moved_context context) enabled (moved_place move place))
  of_variable context enabled place =
      of_shows 0 context.table (variable_shows context enabled place)
      ∙ ap (λ bits. shows_facts 0 context.table (Some (record { number = 0x2ff; bits = bits; value = if enabled then 0x800 else 0; place = moved_place move place }) ∷ None ∷ None ∷ None ∷ None ∷ None ∷ None ∷ None ∷ None ∷ None ∷ None ∷ []))
      (same_bits context.format context.announced context.processor context.table context.fixed context.lists_processors enabled)

  of_said : (context : Context) (said : LineSays) → map moved_fact (said_facts context said) ≡ said_facts (moved_context context) (moved_said move said)
  of_said context Nothing = refl
  of_said context (Announces processor number) = refl
  of_said context (Value value place) = of_value context.announced context.table value place
  of_said context (Turns turn) = refl
  of_said context (Shows processor shows) = of_shows (named_processor processor context.processor) context.table shows
  of_said context (Begins shows) = of_shows 0 (one_more context.table) shows
  of_said context (FixedRanges enabled alone place) = of_fixed context.format context.announced context.processor context.table context.fixed context.lists_processors enabled alone place
  of_said context (VariableRanges enabled place) = of_variable context enabled place
  of_said context (Width width place) = refl
  of_said context (Warns warning number) = refl
  of_said context (Lists processor shown) =
      each (map moved_fact) (is_mixed context.lists_processors (is_some processor)) _ _ _ _ refl (of_reading (named_processor processor (Some 0)) context.table shown)
  of_said context (Bad why place) = refl

  pub matched : (said : LineSays) → is_match (moved_said move said) ≡ is_match said
  matched Nothing = refl
  matched (Announces processor number) = refl
  matched (Value value place) = refl
  matched (Turns turn) = refl
  matched (Shows processor shows) = refl
  matched (Begins shows) = refl
  matched (FixedRanges enabled alone place) = refl
  matched (VariableRanges enabled place) = refl
  matched (Width width place) = refl
  matched (Warns warning number) = refl
  matched (Lists processor shown) = refl
  matched (Bad why place) = refl

  next_context : (context : Context) (format : Option Format) (said : LineSays) → moved_context (context_after context format said) ≡ context_after (moved_context context) format (moved_said move said)
  next_context context format Nothing = refl
  next_context context format (Announces processor number) = refl
  next_context context format (Value value place) = refl
  next_context context format (Turns turn) = refl
  next_context context format (Shows processor shows) = refl
  next_context context format (Begins shows) = refl
  next_context context format (FixedRanges enabled alone place) = refl
  next_context context format (VariableRanges enabled place) = refl
  next_context context format (Width width place) = refl
  next_context context format (Warns warning number) = refl
  next_context context format (Lists processor shown) = refl
  next_context context format (Bad why place) = refl

  -- ---- lines, whose numbers move to those from another on

  abbrev pub Moves : ℕ → ℕ → List (List ℕ) → Type 0
  Moves old new [] = ⊤
  Moves old new (line ∷ lines) = (move old ≡ new) × Moves (old + 1) (new + 1) lines

  -- what it leads to depends on the format and on what the line says
  by_parts : {A : Type 0} (f : Option Format → LineSays → A) (context : Context) (number : ℕ) (line : List ℕ)
      → f context.format (moved_said move (said_in context.format number line)) ≡ f context.format (said_in context.format (move number) line)
  by_parts f context number line = ap (f context.format) (in_format move context.format number line)

  line_moved : (context : Context) (number : ℕ) (line : List ℕ) → map moved_fact (facts_of_line context number line) ≡ facts_of_line (moved_context context) (move number) line
  line_moved context number line =
      let said : LineSays = said_in context.format number line in
      ap (λ (fs : List Fact). is_line (move number) context.format (is_match said) ∷ fs) (of_said context said)
      ∙ ap (λ m. is_line (move number) context.format m ∷ said_facts (moved_context context) (moved_said move said)) (sym (matched said))
      ∙ by_parts (λ format s. line_facts (move number) format (moved_context context) s) context number line

  behind_moved : (context : Context) (number : ℕ) (line : List ℕ) → moved_context (context_behind context number line) ≡ context_behind (moved_context context) (move number) line
  behind_moved context number line =
      next_context context context.format (said_in context.format number line)
      ∙ by_parts (λ format s. context_after (moved_context context) format s) context number line

  pub facts_moved : (lines : List (List ℕ)) (context : Context) (old new : ℕ) → Moves old new lines → map moved_fact (facts_from context old lines) ≡ facts_from (moved_context context) new lines
  facts_moved [] context old new moves = refl
  facts_moved (line ∷ lines) context old new moves =
      map-append moved_fact (facts_of_line context old line) (facts_from (context_behind context old line) (old + 1) lines)
      ∙ ap (λ (fs : List Fact). fs ++ map moved_fact (facts_from (context_behind context old line) (old + 1) lines)) (line_moved context old line ∙ ap (λ n. facts_of_line (moved_context context) n line) moves.0)
      ∙ ap (λ (fs : List Fact). facts_of_line (moved_context context) new line ++ fs)
      (facts_moved lines (context_behind context old line) (old + 1) (new + 1) moves.1
      ∙ ap (λ (c : Context). facts_from c (new + 1) lines) (behind_moved context old line ∙ ap (λ n. context_behind (moved_context context) n line) moves.0))

  pub context_moved : (lines : List (List ℕ)) (context : Context) (old new : ℕ) → Moves old new lines → moved_context (context_after_lines context old lines) ≡ context_after_lines (moved_context context) new lines
  context_moved [] context old new moves = refl
  context_moved (line ∷ lines) context old new moves =
      context_moved lines (context_behind context old line) (old + 1) (new + 1) moves.1
      ∙ ap (λ (c : Context). context_after_lines c (new + 1) lines) (behind_moved context old line ∙ ap (λ n. context_behind (moved_context context) n line) moves.0)

  -- ---- what facts come to

  abbrev pub moved_slot : Slot → Slot
  moved_slot slot = record { bits = slot.bits; fresh = slot.fresh; table = slot.table; value = slot.value; line = move slot.line }

  abbrev moved_last : Option LastPair → Option LastPair
  moved_last None = None
  moved_last (Some last) = Some (record { count = last.count; line = move last.line })

  abbrev moved_line : Option ℕ → Option ℕ
  moved_line None = None
  moved_line (Some line) = Some (move line)

  abbrev pub moved_seen : Seen → Seen
  moved_seen seen = record {
    width = seen.width;
    line_of_width = move seen.line_of_width;
    readings = map moved_reading seen.readings;
    tally = record { format = seen.tally.format; lines = move seen.tally.lines; matches = seen.tally.matches; warned = moved_warned move seen.tally.warned };
  }

  abbrev moved_or_none : Option Rival → Option Rival
  moved_or_none None = None
  moved_or_none (Some rival) = Some (moved_rival move rival)

  abbrev pub moved_faults : Option ImportFault → Option ImportFault
  moved_faults None = None
  moved_faults (Some fault) = Some (moved_fault move fault)

  module _ (zero_stays : move 0 ≡ 0) where
    slots : (readings : List Reading) (processor number : ℕ) → moved_slot (slot_shown readings processor number) ≡ slot_shown (map moved_reading readings) processor number
    slots [] processor number = ap (λ line. let slot : Slot = record { bits = 0; fresh = 0; table = 0; value = 0; line = line } in slot) zero_stays
    slots (reading ∷ before) processor number =
        each moved_slot (reading.processor == processor && reading.number == number) _ _ _ _
        (ap (λ (s : Slot). slot_with s (moved_reading reading)) (slots before processor number)) (slots before processor number)

    -- all slots
    pub all_slots : (readings : List Reading) → (λ processor number. moved_slot (slot_shown readings processor number)) ≡ slot_shown (map moved_reading readings)
    all_slots readings = fun_ext (λ processor. fun_ext (λ number. slots readings processor number))

    of_capabilities : (readings : List Reading) → moved_slot (capabilities_shown readings) ≡ capabilities_shown (map moved_reading readings)
    of_capabilities [] = slots [] 0 0
    of_capabilities (reading ∷ before) =
        each moved_slot (reading.number == 0xfe) _ _ _ _ (ap (λ (s : Slot). slot_with s (moved_reading reading)) (of_capabilities before)) (of_capabilities before)

    of_last : (readings : List Reading) → moved_last (last_shown readings) ≡ last_shown (map moved_reading readings)
    of_last [] = refl
    of_last (reading ∷ before) = later (last_shown before) ∙ ap (last_after (moved_reading reading)) (of_last before)
      where
        later : (last : Option LastPair) → moved_last (last_after reading last) ≡ last_after (moved_reading reading) (moved_last last)
        later None = each moved_last (nat_lt 0 (least_count reading)) _ _ _ _ refl refl
        later (Some last) = each moved_last (nat_lt last.count (least_count reading)) _ _ _ _ refl refl

    of_fixed_line : (readings : List Reading) → moved_line (last_fixed_line readings) ≡ last_fixed_line (map moved_reading readings)
    of_fixed_line [] = refl
    of_fixed_line (reading ∷ before) = each moved_line (shows_fixed reading) _ _ _ _ refl (of_fixed_line before)

    pub same_processors : (readings : List Reading) → processors (map moved_reading readings) ≡ processors readings
    same_processors [] = refl
    same_processors (reading ∷ before) = ap (max (reading.processor + 1)) (same_processors before)

    -- ---- faults

    if_rival : (test : Bool) (x y v w : Option Rival) → moved_or_none x ≡ v → moved_or_none y ≡ w → moved_or_none (if test then x else y) ≡ (if test then v else w)
    if_rival = each moved_or_none

    of_uncounted : (capabilities : Option ℕ) (last : Option LastPair) → moved_or_none (uncounted_rival capabilities last) ≡ uncounted_rival capabilities (moved_last last)
    of_uncounted capabilities None = refl
    of_uncounted capabilities (Some last) = if_rival (counts_fewer capabilities last.count) _ _ _ _ refl refl

    of_capability : (capabilities : Slot) (last : Option LastPair) (reading : Reading)
        → moved_or_none (capability_rival capabilities last reading) ≡ capability_rival (moved_slot capabilities) (moved_last last) (moved_reading reading)
    of_capability capabilities last reading =
        if_rival (clashes capabilities reading) _ _ _ _ refl (of_uncounted (counted (slot_with capabilities reading)) last)

    of_count : (capabilities : Slot) (last : Option LastPair) (reading : Reading)
        → moved_or_none (count_rival capabilities last reading) ≡ count_rival (moved_slot capabilities) (moved_last last) (moved_reading reading)
    of_count capabilities last reading =
        if_rival (counts_fewer (counted capabilities) (least_count reading)) _ _ _ _ refl (if_rival (reading.number == 0xfe) _ _ _ _ (of_capability capabilities last reading) refl)

    module _ (supplied : Supplied) where
      -- the rival by what is shown of the register, of the capability register and of the last pair
      abbrev rival_by : Reading → Slot → Slot → Option LastPair → Option Rival
      rival_by reading slot capabilities last =
          if bits_differ (supplied_value supplied reading.number) reading.bits reading.value then Some Word
          else if counts_fewer (supplied_value supplied 0xfe) (least_count reading) then Some CapabilityWord
          else if clashes slot reading then Some (Line slot.line)
          else count_rival capabilities last reading

      of_rival : (before : List Reading) (reading : Reading) → moved_or_none (rival supplied before reading) ≡ rival supplied (map moved_reading before) (moved_reading reading)
      of_rival before reading =
          let slot : Slot = slot_shown before reading.processor reading.number in
          if_rival (bits_differ (supplied_value supplied reading.number) reading.bits reading.value) _ _ _ _ refl
          (if_rival (counts_fewer (supplied_value supplied 0xfe) (least_count reading)) _ _ _ _ refl
          (if_rival (clashes slot reading) _ _ _ _ refl (of_count (capabilities_shown before) (last_shown before) reading)))
          ∙ ap (λ s. rival_by (moved_reading reading) s (moved_slot (capabilities_shown before)) (moved_last (last_shown before))) (slots before reading.processor reading.number)
          ∙ ap (λ c. rival_by (moved_reading reading) (slot_shown (map moved_reading before) reading.processor reading.number) c (moved_last (last_shown before))) (of_capabilities before)
          ∙ ap (rival_by (moved_reading reading) (slot_shown (map moved_reading before) reading.processor reading.number) (capabilities_shown (map moved_reading before))) (of_last before)

      of_fixless : (word : Option ℕ) (capabilities : Slot) → moved_or_none (fixless_rival word capabilities) ≡ fixless_rival word (moved_slot capabilities)
      of_fixless word capabilities = if_rival (lacks_fix word) _ _ _ _ refl (if_rival (lacks_fix (fix_shown capabilities)) _ _ _ _ refl refl)

      of_ranged : (line : Option ℕ) → moved_or_none (ranged_rival line) ≡ ranged_rival (moved_line line)
      of_ranged None = refl
      of_ranged (Some line) = refl

      of_fixed_rival : (word : Option ℕ) (before : List Reading) (reading : Reading) → moved_or_none (fixed_rival word before reading) ≡ fixed_rival word (map moved_reading before) (moved_reading reading)
      of_fixed_rival word before reading =
          if_rival (shows_fixed reading) _ _ _ _ (of_fixless word (capabilities_shown before) ∙ ap (fixless_rival word) (of_capabilities before))
          (if_rival (shows_no_fix reading) _ _ _ _ (of_ranged (last_fixed_line before) ∙ ap ranged_rival (of_fixed_line before)) refl)

      either_rival : (a b : Option Rival) → moved_or_none (option_or a b) ≡ option_or (moved_or_none a) (moved_or_none b)
      either_rival None b = refl
      either_rival (Some found) b = refl

      of_contradiction : (reading : Reading) (found : Option Rival) → moved_faults (contradiction reading found) ≡ contradiction (moved_reading reading) (moved_or_none found)
      of_contradiction reading None = refl
      of_contradiction reading (Some other) = refl

      either_fault : (a b : Option ImportFault) → moved_faults (option_or a b) ≡ option_or (moved_faults a) (moved_faults b)
      either_fault None b = refl
      either_fault (Some fault) b = refl

      of_pairs : (before : List Reading) (reading : Reading) → moved_faults (pairs_fault before reading) ≡ pairs_fault (map moved_reading before) (moved_reading reading)
      of_pairs before reading =
          each moved_faults (reading.number == 0xfe && nat_lt 32 (low_byte (bit_or (slot_shown before reading.processor 0xfe).value reading.value))) _ _ _ _ refl refl
          ∙ ap (λ (s : Slot). if reading.number == 0xfe && nat_lt 32 (low_byte (bit_or s.value reading.value)) then Some (TooManyPairs (moved_place move reading.place)) else None)
          (slots before reading.processor 0xfe)

      of_reading_fault : (before : List Reading) (reading : Reading) → moved_faults (reading_fault supplied before reading) ≡ reading_fault supplied (map moved_reading before) (moved_reading reading)
      of_reading_fault before reading =
          let word : Option ℕ = supplied_value supplied 0xfe in
          let other : Option Rival = rival supplied before reading in
          let ranges : Option Rival = fixed_rival word before reading in
          each moved_faults (nat_lt 15 reading.processor) _ _ _ _ refl
          (either_fault (contradiction reading (option_or other ranges)) (pairs_fault before reading)
          ∙ ap (λ f. option_or f (moved_faults (pairs_fault before reading))) (of_contradiction reading (option_or other ranges))
          ∙ ap (λ r. option_or (contradiction (moved_reading reading) r) (moved_faults (pairs_fault before reading)))
          (either_rival other ranges ∙ ap (λ r. option_or r (moved_or_none ranges)) (of_rival before reading)
          ∙ ap (option_or (rival supplied (map moved_reading before) (moved_reading reading))) (of_fixed_rival word before reading))
          ∙ ap (option_or (contradiction (moved_reading reading) (option_or (rival supplied (map moved_reading before) (moved_reading reading)) (fixed_rival word (map moved_reading before) (moved_reading reading)))))
          (of_pairs before reading))

      of_width_contradiction : (place : Place) (found : Option Rival) → moved_faults (width_contradiction place found) ≡ width_contradiction (moved_place move place) (moved_or_none found)
      of_width_contradiction place None = refl
      of_width_contradiction place (Some other) = refl

      of_width_rival : (word shown : Option ℕ) (line width : ℕ) → moved_or_none (width_rival word shown line width) ≡ width_rival word shown (move line) width
      of_width_rival word shown line width = if_rival (differs word width) _ _ _ _ refl (if_rival (differs shown width) _ _ _ _ refl refl)

      of_width : (seen : Seen) (width : ℕ) (place : Place) → moved_faults (width_fault supplied seen width place) ≡ width_fault supplied (moved_seen seen) width (moved_place move place)
      of_width seen width place =
          each moved_faults _ _ _ _ _ refl
          (of_width_contradiction place (width_rival supplied.width seen.width seen.line_of_width width)
          ∙ ap (width_contradiction (moved_place move place)) (of_width_rival supplied.width seen.width seen.line_of_width width))

      of_fact : (seen : Seen) (fact : Fact) → moved_faults (fact_fault supplied seen fact) ≡ fact_fault supplied (moved_seen seen) (moved_fact fact)
      of_fact seen (is_line number format matched) = refl
      of_fact seen (is_register_value reading) = of_reading_fault seen.readings reading
      of_fact seen (is_width width place) = of_width seen width place
      of_fact seen (is_warning warning number) = refl
      of_fact seen (is_fault fault) = refl

      abbrev with_warned : Tally → Warned → Tally
      with_warned tally warned = record { format = tally.format; lines = move tally.lines; matches = tally.matches; warned = warned }

      warning_moved : (warning : Warning) (number : ℕ) (warned : Warned) → moved_warned move (warned_with warning number warned) ≡ warned_with warning (move number) (moved_warned move warned)
      warning_moved Unlike number warned = refl
      warning_moved WrongMask number warned = refl
      warning_moved LostMemory number warned = refl
      warning_moved TopOfMemory number warned = refl
      warning_moved Syscfg number warned = refl
      warning_moved MemoryBits number warned = refl

      warned_moved : (reading : Reading) (warned : Warned) → moved_warned move (warned_by reading warned) ≡ warned_by (moved_reading reading) (moved_warned move warned)
      warned_moved reading warned = each (moved_warned move) (has_memory_bits reading) _ _ _ _ refl refl

      next_seen : (seen : Seen) (fact : Fact) → moved_seen (seen_with seen fact) ≡ seen_with (moved_seen seen) (moved_fact fact)
      next_seen seen (is_line number format matched) = refl
      next_seen seen (is_register_value reading) = ap (λ w. let s : Seen = record { width = seen.width; line_of_width = move seen.line_of_width; readings = moved_reading reading ∷ map moved_reading seen.readings; tally = with_warned seen.tally w } in s) (warned_moved reading seen.tally.warned)
      next_seen seen (is_width width place) = refl
      next_seen seen (is_warning warning number) = ap (λ w. let s : Seen = record { width = seen.width; line_of_width = move seen.line_of_width; readings = map moved_reading seen.readings; tally = with_warned seen.tally w } in s) (warning_moved warning number seen.tally.warned)
      next_seen seen (is_fault fault) = refl

      is_some_moved : (fault : Option ImportFault) → is_some (moved_faults fault) ≡ is_some fault
      is_some_moved None = refl
      is_some_moved (Some fault) = refl

      pub till_moved : (facts : List Fact) (seen : Seen) → moved_warned move (warned_till supplied seen facts) ≡ warned_till supplied (moved_seen seen) (map moved_fact facts)
      till_moved [] seen = refl
      till_moved (fact ∷ facts) seen =
          each (moved_warned move) (is_some (fact_fault supplied seen fact)) _ _ (moved_warned move seen.tally.warned) (warned_till supplied (seen_with (moved_seen seen) (moved_fact fact)) (map moved_fact facts)) refl
          (till_moved facts (seen_with seen fact) ∙ ap (λ (s : Seen). warned_till supplied s (map moved_fact facts)) (next_seen seen fact))
          ∙ ap (λ test. if test then moved_warned move seen.tally.warned else warned_till supplied (seen_with (moved_seen seen) (moved_fact fact)) (map moved_fact facts))
          (sym (is_some_moved (fact_fault supplied seen fact)) ∙ ap is_some (of_fact seen fact))

      pub fault_moved : (facts : List Fact) (seen : Seen) → moved_faults (facts_fault supplied seen facts) ≡ facts_fault supplied (moved_seen seen) (map moved_fact facts)
      fault_moved [] seen = refl
      fault_moved (fact ∷ facts) seen =
          either_fault (fact_fault supplied seen fact) (facts_fault supplied (seen_with seen fact) facts)
          ∙ ap (λ f. option_or f (moved_faults (facts_fault supplied (seen_with seen fact) facts))) (of_fact seen fact)
          ∙ ap (option_or (fact_fault supplied (moved_seen seen) (moved_fact fact)))
          (fault_moved facts (seen_with seen fact) ∙ ap (λ (s : Seen). facts_fault supplied s (map moved_fact facts)) (next_seen seen fact))

      pub seen_moved : (facts : List Fact) (seen : Seen) → moved_seen (seen_after seen facts) ≡ seen_after (moved_seen seen) (map moved_fact facts)
      seen_moved [] seen = refl
      seen_moved (fact ∷ facts) seen = seen_moved facts (seen_with seen fact) ∙ ap (λ (s : Seen). seen_after s (map moved_fact facts)) (next_seen seen fact)
