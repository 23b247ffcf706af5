-- Each reading is of one line, and of the table that the last heading begins.
use Rattle.std.proofs.Common.{◌≡◌, ◌+◌, ℕ, Bool, true, false, List, [], ◌∷◌, ◌++◌, length, Option, Some, None, is_some, refl, sym, ◌∙◌, ap, subst, inl, inr, arith}
use Rattle.std.specs.Prelude.{◌⊎◌, if◌then◌else◌}
use Rattle.mt_ports.specs.Causes.{one_more}
use Rattle.mt_text.specs.Text.{lines_of}
use Rattle.mt_text.specs.declared.place.Place.{Place}
use Rattle.mt_import.specs.declared.format.Choice.{Choice}
use Rattle.mt_import.specs.declared.reading.Context.{Context}
use Rattle.mt_import.specs.declared.reading.LineSays.{LineSays}
use Rattle.mt_import.specs.declared.reading.LineSays.TheVariants.{Nothing, Announces, Value, Turns, Shows, Lists, Begins, FixedRanges, VariableRanges, Width, Warns, Bad}
use Rattle.mt_import.specs.declared.shape.Announced.{Announced}
use Rattle.mt_import.specs.declared.shape.Reading.{Reading}
use Rattle.mt_import.specs.declared.shape.Shown.{Shown}
use Rattle.mt_import.specs.Pieces.{shown_as}
use Rattle.mt_import.specs.declared.fault.ImportFault.TheVariants.{BadLine}
use Rattle.mt_import.specs.declared.fault.Reason.TheVariants.{MixedNumbers}
use Rattle.mt_import.specs.Readings.{Fact, fixed_clash, fixed_facts, fixed_shows, is_fault, is_line, is_mixed, is_register, is_register_value, is_warning, is_width, listed_facts, named_processor, reading_facts, said_facts, shown_facts, shows_facts, starts, table_behind, unless_clash, value_facts, variable_shows}
use Rattle.mt_import.specs.Census.{format_of}
use Rattle.mt_import.specs.Shown.{context_behind, facts_from, facts_of_line, said_in, shown}
use Rattle.mt_import.specs.Outcome.{Seen, nothing_seen, seen_after, seen_with}
use Rattle.mt_import_laws.specs.Origins.{IsAmong, IsOfLine, IsRead, context_after_lines, heads, is_heading, readings_of, tables_behind}
use Rattle.mt_import_laws.proofs.Among.{among_join}

-- a reading that was gathered is a fact, or was there before
gathered : (facts : List Fact) (seen : Seen) (reading : Reading) → IsAmong reading (seen_after seen facts).readings → IsAmong (is_register_value reading) facts ⊎ IsAmong reading seen.readings
gathered [] seen reading among = inr among
gathered (fact ∷ facts) seen reading among = elim (gathered facts (seen_with seen fact) reading among) [
  | inl later ↦ inl (inr later)
  | inr here ↦ by fact here
]
  where
    by : (f : Fact) → IsAmong reading (seen_with seen f).readings → IsAmong (is_register_value reading) (f ∷ facts) ⊎ IsAmong reading seen.readings
    by (is_line number format matched) among = inr among
    by (is_register_value other) (inl same) = inl (inl (ap is_register_value same))
    by (is_register_value other) (inr before) = inr before
    by (is_width width place) among = inr among
    by (is_warning warning number) among = inr among
    by (is_fault fault) among = inr among

record AtLine (context : Context) (number : ℕ) (all : List (List ℕ)) (fact : Fact) : Type 0 where
  before : List (List ℕ)
  line : List ℕ
  others : List (List ℕ)
  lines : all ≡ before ++ line ∷ others
  shows : IsAmong fact (facts_of_line (context_after_lines context number before) (number + length before) line)

one_later : (context : Context) (number : ℕ) (first : List ℕ) (all : List (List ℕ)) (fact : Fact) → AtLine (context_behind context number first) (number + 1) all fact → AtLine context number (first ∷ all) fact
one_later context number first all fact at = record {
  before = first ∷ at.before;
  line = at.line;
  others = at.others;
  lines = ap (λ ls. first ∷ ls) at.lines;
  shows = subst (λ n. IsAmong fact (facts_of_line (context_after_lines (context_behind context number first) (number + 1) at.before) n at.line)) (omega arith) at.shows;
}

line_of : (lines : List (List ℕ)) (context : Context) (number : ℕ) (fact : Fact) → IsAmong fact (facts_from context number lines) → AtLine context number lines fact
line_of [] context number fact among = absurd among
line_of (line ∷ lines) context number fact among = elim (among_join (facts_of_line context number line) (facts_from (context_behind context number line) (number + 1) lines) fact among) [
  | inl here ↦ record { before = []; line = line; others = lines; lines = refl; shows = subst (λ n. IsAmong fact (facts_of_line context n line)) (omega arith) here }
  | inr later ↦ one_later context number line lines fact (line_of lines (context_behind context number line) (number + 1) fact later)
]

pub fact_of_line : (choice : Choice) (text : List ℕ) (fact : Fact) → IsAmong fact (shown (format_of choice text) text) → IsOfLine choice text fact
fact_of_line choice text fact among =
    let at = line_of (lines_of text) (starts (format_of choice text)) 1 fact among in
    record { before = at.before; line = at.line; others = at.others; lines = at.lines; shows = at.shows }

-- ---- the table of a reading

-- behind a line there is one table more, where the line is a heading
heading_by : (said : LineSays) (tables : ℕ) → table_behind said tables ≡ (if is_heading said then one_more tables else tables)
heading_by Nothing tables = refl
heading_by (Announces processor number) tables = refl
heading_by (Value value place) tables = refl
heading_by (Turns turn) tables = refl
heading_by (Shows processor shows) tables = refl
heading_by (Begins shows) tables = refl
heading_by (FixedRanges enabled alone place) tables = refl
heading_by (VariableRanges enabled place) tables = refl
heading_by (Width width place) tables = refl
heading_by (Warns warning number) tables = refl
heading_by (Lists processor shown) tables = refl
heading_by (Bad why place) tables = refl

heading_behind : (context : Context) (number : ℕ) (line : List ℕ) → (context_behind context number line).table ≡ (if heads context number line then one_more context.table else context.table)
heading_behind context number line = heading_by (said_in context.format number line) context.table

tables_are : (lines : List (List ℕ)) (context : Context) (number : ℕ) (line : List ℕ)
    → tables_behind context number (lines ++ line ∷ []) context.table ≡ (context_behind (context_after_lines context number lines) (number + length lines) line).table
tables_are [] context number line = sym (heading_behind context number line) ∙ ap (λ n. (context_behind context n line).table) (omega arith)
tables_are (first ∷ lines) context number line =
    ap (tables_behind (context_behind context number first) (number + 1) (lines ++ line ∷ [])) (sym (heading_behind context number first))
    ∙ tables_are lines (context_behind context number first) (number + 1) line
    ∙ ap (λ n. (context_behind (context_after_lines (context_behind context number first) (number + 1) lines) n line).table) (omega arith)

abbrev AreOf : ℕ → List Fact → Type 0
AreOf table facts = (reading : Reading) → IsAmong (is_register_value reading) facts → reading.table ≡ table

abbrev read_as : ℕ → ℕ → Shown → Reading
read_as processor table shown = record { processor = processor; table = table; number = shown.number; bits = shown.bits; value = shown.value; place = shown.place }

of_reading : (processor table : ℕ) (shown : Shown) → AreOf table (reading_facts processor table shown)
of_reading processor table shown = by (is_register shown.number)
  where
    by : (test : Bool) → AreOf table (if test then is_register_value (read_as processor table shown) ∷ [] else [])
    by true reading (inl same) = let e : read_as processor table shown ≡ reading = cc same in sym (ap (λ (r : Reading). r.table) e)
    by true reading (inr none) = absurd none
    by false reading among = absurd among

of_shown : (processor table : ℕ) (shown : Option Shown) → AreOf table (shown_facts processor table shown)
of_shown processor table None reading among = absurd among
of_shown processor table (Some shown) reading among = of_reading processor table shown reading among

of_shows : (processor table : ℕ) (shows : List (Option Shown)) → AreOf table (shows_facts processor table shows)
of_shows processor table [] reading among = absurd among
of_shows processor table (shown ∷ shows) reading among = elim (among_join (shown_facts processor table shown) (shows_facts processor table shows) (is_register_value reading) among) [
  | inl here ↦ of_shown processor table shown reading here
  | inr later ↦ of_shows processor table shows reading later
]

of_value : (announced : Option Announced) (table value : ℕ) (place : Place) → AreOf table (value_facts announced table value place)
of_value None table value place reading among = absurd among
of_value (Some announced) table value place reading among = of_shown announced.processor table (shown_as announced.number value place) reading among

of_fixed : (context : Context) (enabled alone : Bool) (place : Place) → AreOf context.table (fixed_facts context enabled alone place)
of_fixed context enabled alone place = by (fixed_clash context.fixed enabled)
  where
    by : (clash : Option ℕ) → AreOf context.table (unless_clash clash place (shows_facts 0 context.table (fixed_shows enabled alone place)))
    by (Some line) reading (inl same) = cc same
    by (Some line) reading (inr none) = absurd none
    by None reading among = of_shows 0 context.table (fixed_shows enabled alone place) reading among

of_listed : (context : Context) (processor : Option ℕ) (shown : Shown) → AreOf context.table (listed_facts context processor shown)
of_listed context processor shown = by (is_mixed context.lists_processors (is_some processor))
  where
    by : (mixed : Bool) → AreOf context.table (if mixed then is_fault (BadLine MixedNumbers shown.place) ∷ [] else reading_facts (named_processor processor (Some 0)) context.table shown)
    by true reading (inl same) = cc same
    by true reading (inr none) = absurd none
    by false reading among = of_reading (named_processor processor (Some 0)) context.table shown reading among

of_said : (context : Context) (said : LineSays) → AreOf (table_behind said context.table) (said_facts context said)
of_said context Nothing reading among = absurd among
of_said context (Announces processor number) reading among = absurd among
of_said context (Value value place) reading among = of_value context.announced context.table value place reading among
of_said context (Turns turn) reading among = absurd among
of_said context (Shows processor shows) reading among = of_shows (named_processor processor context.processor) context.table shows reading among
of_said context (Begins shows) reading among = of_shows 0 (one_more context.table) shows reading among
of_said context (FixedRanges enabled alone place) reading among = of_fixed context enabled alone place reading among
of_said context (VariableRanges enabled place) reading among = of_shows 0 context.table (variable_shows context enabled place) reading among
of_said context (Width width place) reading (inl same) = cc same
of_said context (Width width place) reading (inr none) = absurd none
of_said context (Warns warning number) reading (inl same) = cc same
of_said context (Warns warning number) reading (inr none) = absurd none
of_said context (Lists processor shown) reading among = of_listed context processor shown reading among
of_said context (Bad why place) reading (inl same) = cc same
of_said context (Bad why place) reading (inr none) = absurd none

of_line : (context : Context) (number : ℕ) (line : List ℕ) → AreOf (context_behind context number line).table (facts_of_line context number line)
of_line context number line reading (inl same) = cc same
of_line context number line reading (inr later) = of_said context (said_in context.format number line) reading later

pub readings_of_lines : (choice : Choice) (text : List ℕ) (reading : Reading) → IsAmong reading (readings_of choice text) → IsRead choice text reading
readings_of_lines choice text reading among = by (gathered (shown (format_of choice text) text) (nothing_seen (format_of choice text)) reading among)
  where
    by : IsAmong (is_register_value reading) (shown (format_of choice text) text) ⊎ ⊥ → IsRead choice text reading
    by (inl fact) =
        let at = fact_of_line choice text (is_register_value reading) fact in
        let context = starts (format_of choice text) in
        record { of_line = at; table = of_line (context_after_lines context 1 at.before) (1 + length at.before) at.line reading at.shows ∙ sym (tables_are at.before context 1 at.line) }
    by (inr none) = absurd none
