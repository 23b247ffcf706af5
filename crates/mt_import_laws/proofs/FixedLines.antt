-- Lines on fixed ranges that don't agree are a fault.
use Rattle.std.proofs.Common.{◌≡◌, ◌+◌, ℕ, Bool, true, false, List, [], ◌∷◌, Option, Some, None, refl, sym, ◌∙◌, ap, inl, inr}
use Rattle.std.specs.Prelude.{if◌then◌else◌}
use Rattle.mt_ports.specs.declared.status.Status.TheVariants.{BadText}
use Rattle.mt_text.specs.Text.{lines_of}
use Rattle.mt_import.specs.declared.format.Choice.{Choice}
use Rattle.mt_import.specs.declared.reading.Context.{Context}
use Rattle.mt_import.specs.declared.reading.LineSays.{LineSays}
use Rattle.mt_import.specs.declared.reading.LineSays.TheVariants.{Nothing, Announces, Value, Turns, Shows, Lists, Begins, FixedRanges, VariableRanges, Width, Warns, Bad}
use Rattle.mt_import.specs.declared.shape.FixedLine.{FixedLine}
use Rattle.mt_import.specs.Readings.{fixed_after, fixed_clash, fixed_shows, is_line, is_match, said_facts, shows_facts, starts, unless_clash, unlike}
use Rattle.mt_import.specs.Census.{format_of}
use Rattle.mt_import.specs.Shown.{context_behind, facts_from, facts_of_line, is_auto, said_in}
use Rattle.mt_import.specs.Supplied.{Supplied}
use Rattle.mt_import.specs.Outcome.{Seen, ended, facts_fault, nothing_seen, seen_after, seen_with}
use Rattle.mt_import.specs.Import.{log_outcome}
use Rattle.mt_import.proofs.Facts.{fault_append}
use Rattle.mt_import_laws.specs.Origins.{LinesSayFixed, LogSaysFixed, SaysFixed, seen_of}
use Rattle.mt_import_laws.proofs.Faults.{fault_of, faulty, till_of}
use Rattle.mt_import_laws.proofs.Fine.{both_none}

agree : (flag on : Bool) → unlike flag on ≡ false → on ≡ flag
agree true true is = refl
agree true false is = cc is
agree false true is = cc is
agree false false is = refl

like : (test : Bool) (line : ℕ) → (if test then Some line else None) ≡ None → test ≡ false
like true line is = cc is
like false line is = refl

-- a line says one of both
never_both : (said : LineSays) → SaysFixed said true → SaysFixed said false → ⊥
never_both (FixedRanges enabled alone place) on off = let e : true ≡ false = sym on ∙ off in cc e
never_both Nothing on off = on
never_both (Announces processor number) on off = on
never_both (Value value place) on off = on
never_both (Turns turn) on off = on
never_both (Shows processor shows) on off = on
never_both (Begins shows) on off = on
never_both (VariableRanges enabled place) on off = on
never_both (Width width place) on off = on
never_both (Warns warning number) on off = on
never_both (Lists processor shown) on off = on
never_both (Bad why place) on off = on

-- The last line on fixed ranges says this.
record LastSays (fixed : Option FixedLine) (on : Bool) : Type 0 where
  line : FixedLine
  last : fixed ≡ Some line
  says : line.is_enabled ≡ on

module _ (supplied : Supplied) where
  -- a line without a fault says what the last one said
  as_last : (context : Context) (seen : Seen) (said : LineSays) (flag on : Bool) → facts_fault supplied seen (said_facts context said) ≡ None → LastSays context.fixed flag → SaysFixed said on → on ≡ flag
  as_last context seen (FixedRanges enabled alone place) flag on none last says = sym says ∙ by (fixed_clash context.fixed enabled) refl none ∙ last.says
    where
      by : (clash : Option ℕ) → fixed_clash context.fixed enabled ≡ clash → facts_fault supplied seen (unless_clash clash place (shows_facts 0 context.table (fixed_shows enabled alone place))) ≡ None
          → enabled ≡ last.line.is_enabled
      by (Some line) is fault = cc fault
      by None is fault = agree last.line.is_enabled enabled (like (unlike last.line.is_enabled enabled) last.line.line (sym (ap (λ o. fixed_clash o enabled) last.last) ∙ is))
  as_last context seen Nothing flag on none last says = absurd says
  as_last context seen (Announces processor number) flag on none last says = absurd says
  as_last context seen (Value value place) flag on none last says = absurd says
  as_last context seen (Turns turn) flag on none last says = absurd says
  as_last context seen (Shows processor shows) flag on none last says = absurd says
  as_last context seen (Begins shows) flag on none last says = absurd says
  as_last context seen (VariableRanges enabled place) flag on none last says = absurd says
  as_last context seen (Width width place) flag on none last says = absurd says
  as_last context seen (Warns warning number) flag on none last says = absurd says
  as_last context seen (Lists processor shown) flag on none last says = absurd says
  as_last context seen (Bad why place) flag on none last says = absurd says

  -- behind a line that says so, or behind another line
  says_on : (said : LineSays) (table : ℕ) (before : Option FixedLine) (on : Bool) → SaysFixed said on → LastSays (fixed_after said table before) on
  says_on (FixedRanges enabled alone place) table before on says = record { line = record { is_enabled = enabled; table = table; line = place.line }; last = refl; says = says }
  says_on Nothing table before on says = absurd says
  says_on (Announces processor number) table before on says = absurd says
  says_on (Value value place) table before on says = absurd says
  says_on (Turns turn) table before on says = absurd says
  says_on (Shows processor shows) table before on says = absurd says
  says_on (Begins shows) table before on says = absurd says
  says_on (VariableRanges enabled place) table before on says = absurd says
  says_on (Width width place) table before on says = absurd says
  says_on (Warns warning number) table before on says = absurd says
  says_on (Lists processor shown) table before on says = absurd says
  says_on (Bad why place) table before on says = absurd says

  still : (said : LineSays) (table : ℕ) (before : Option FixedLine) (flag : Bool) → ((on : Bool) → SaysFixed said on → on ≡ flag) → LastSays before flag → LastSays (fixed_after said table before) flag
  still (FixedRanges enabled alone place) table before flag same last = record { line = record { is_enabled = enabled; table = table; line = place.line }; last = refl; says = same enabled refl }
  still Nothing table before flag same last = last
  still (Announces processor number) table before flag same last = last
  still (Value value place) table before flag same last = last
  still (Turns turn) table before flag same last = last
  still (Shows processor shows) table before flag same last = last
  still (Begins shows) table before flag same last = last
  still (VariableRanges enabled place) table before flag same last = last
  still (Width width place) table before flag same last = last
  still (Warns warning number) table before flag same last = last
  still (Lists processor shown) table before flag same last = last
  still (Bad why place) table before flag same last = last

  -- ---- lines without a fault

  -- the facts of a line, and of those behind it
  parts : (context : Context) (number : ℕ) (seen : Seen) (line : List ℕ) (lines : List (List ℕ)) → facts_fault supplied seen (facts_from context number (line ∷ lines)) ≡ None
      → (facts_fault supplied seen (facts_of_line context number line) ≡ None) × (facts_fault supplied (seen_after seen (facts_of_line context number line)) (facts_from (context_behind context number line) (number + 1) lines) ≡ None)
  parts context number seen line lines none =
      both_none (facts_fault supplied seen (facts_of_line context number line)) (facts_fault supplied (seen_after seen (facts_of_line context number line)) (facts_from (context_behind context number line) (number + 1) lines))
      (sym (fault_append supplied seen (facts_of_line context number line) (facts_from (context_behind context number line) (number + 1) lines)) ∙ none)

  abbrev said_at : Context → ℕ → List ℕ → LineSays
  said_at context number line = said_in context.format number line

  -- each line says what the last one said
  all_as_last : (lines : List (List ℕ)) (context : Context) (number : ℕ) (seen : Seen) (flag on : Bool) → facts_fault supplied seen (facts_from context number lines) ≡ None → LastSays context.fixed flag
      → LinesSayFixed context number lines on → on ≡ flag
  all_as_last [] context number seen flag on none last says = absurd says
  all_as_last (line ∷ lines) context number seen flag on none last (inl here) =
      as_last context (seen_with seen (is_line number context.format (is_match (said_at context number line)))) (said_at context number line) flag on (parts context number seen line lines none).0 last here
  all_as_last (line ∷ lines) context number seen flag on none last (inr later) =
      let both = parts context number seen line lines none in
      all_as_last lines (context_behind context number line) (number + 1) (seen_after seen (facts_of_line context number line)) flag on both.1
      (still (said_at context number line) context.table context.fixed flag
      (λ other says. as_last context (seen_with seen (is_line number context.format (is_match (said_at context number line)))) (said_at context number line) flag other both.0 last says) last) later

  never : (lines : List (List ℕ)) (context : Context) (number : ℕ) (seen : Seen) → facts_fault supplied seen (facts_from context number lines) ≡ None → LinesSayFixed context number lines true → LinesSayFixed context number lines false → ⊥
  never [] context number seen none on off = on
  never (line ∷ lines) context number seen none (inl on) (inl off) = never_both (said_at context number line) on off
  never (line ∷ lines) context number seen none (inl on) (inr off) =
      let e = all_as_last lines (context_behind context number line) (number + 1) (seen_after seen (facts_of_line context number line)) true false (parts context number seen line lines none).1
      (says_on (said_at context number line) context.table context.fixed true on) off in
      cc e
  never (line ∷ lines) context number seen none (inr on) (inl off) =
      let e = all_as_last lines (context_behind context number line) (number + 1) (seen_after seen (facts_of_line context number line)) false true (parts context number seen line lines none).1
      (says_on (said_at context number line) context.table context.fixed false off) on in
      cc e
  never (line ∷ lines) context number seen none (inr on) (inr off) =
      never lines (context_behind context number line) (number + 1) (seen_after seen (facts_of_line context number line)) (parts context number seen line lines none).1 on off

pub fixed_lines_contradict : (choice : Choice) (supplied : Supplied) (text : List ℕ) → LogSaysFixed choice text true → LogSaysFixed choice text false → (log_outcome choice supplied text).status ≡ BadText
fixed_lines_contradict choice supplied text on off =
    faulty (fault_of choice supplied text) (till_of choice supplied text) (ended (is_auto choice) supplied (seen_of choice text)) (λ none.
    never supplied (lines_of text) (starts (format_of choice text)) 1 (nothing_seen (format_of choice text)) none on off)
