-- Tables that are read alone are a log of their own.
use Rattle.std.proofs.Common.{◌≡◌, ◌∙◌, ◌+◌, ◌&&◌, not, ℕ, Bool, true, false, List, [], ◌∷◌, ◌++◌, Option, Some, None, refl, sym, ap}
use Rattle.std.specs.Prelude.{Ok, Err, nat_lt, if◌then◌else◌}
use Rattle.std.specs.Option.{option_map_or}
use Rattle.std.proofs.lemmas.List.{append-nil}
use Rattle.mt_text.specs.Text.{lines_of}
use Rattle.mt_import.specs.declared.fault.ImportFault.{ImportFault}
use Rattle.mt_import.specs.declared.format.Choice.{Choice}
use Rattle.mt_import.specs.declared.format.Choice.TheVariants.{Only}
use Rattle.mt_import.specs.declared.format.Format.{Format}
use Rattle.mt_import.specs.declared.format.Format.TheVariants.{Rdmsr, X86info, Inteltool, Coreboot, Edk2, Linux, Xen, Chipsec, Windbg, Plain}
use Rattle.mt_import.specs.declared.reading.Context.{Context}
use Rattle.mt_import.specs.declared.reading.LineSays.TheVariants.{Nothing}
use Rattle.mt_import.specs.declared.shape.Pick.{Pick}
use Rattle.mt_import.specs.declared.shape.Pick.TheVariants.{Each}
use Rattle.mt_import.specs.declared.shape.Tables.{Tables}
use Rattle.mt_import.specs.declared.shape.Told.{Told}
use Rattle.mt_import.specs.declared.shape.Warned.{Warned}
use Rattle.mt_import.specs.declared.shape.Way.{Way}
use Rattle.mt_import.specs.Import.{answered, closed, failure, log_answer, log_outcome, tables_outcome}
use Rattle.mt_import.specs.LogTables.{context_told, facts_alone, facts_of_tables, facts_told, has_picked, is_all, is_read, kept, line_kept, lines_alone, no_tables, tables_behind, tables_of, told_by, told_by, way_behind, way_from}
use Rattle.mt_import.specs.Outcome.{Seen, ended, facts_outcome, facts_fault, fault_line, nothing_seen, seen_after, unless, warned_till}
use Rattle.mt_import.specs.Readings.{context_after, line_facts, starts}
use Rattle.mt_import.specs.Census.{beside, format_of, front_of}
use Rattle.mt_import.specs.Shown.{facts_from, is_auto, said_in, said_of, shown}
use Rattle.mt_import.specs.Supplied.{Supplied}
use Rattle.mt_import_laws.specs.Alone.{HasAlone, ReadsAll}
use Rattle.mt_import_laws.specs.FirstLine.{ComeToSame}

-- ---- facts

-- an empty line says nothing
empty_says : (format : Format) (number : ℕ) → said_of format number [] ≡ Nothing
empty_says Rdmsr number = refl
empty_says X86info number = refl
empty_says Inteltool number = refl
empty_says Coreboot number = refl
empty_says Edk2 number = refl
empty_says Linux number = refl
empty_says Xen number = refl
empty_says Chipsec number = refl
empty_says Windbg number = refl
empty_says Plain number = refl

module _ (format : Format) (read : Tables → Bool) where
  abbrev way_with : Tables → Way
  way_with tables = record { format = Some format; tables = tables }

  kept_says : (r : Bool) (number : ℕ) (line : List ℕ) → said_of format number (line_kept r (told_by (Some format) number line) line) ≡ kept r (told_by (Some format) number line)
  kept_says r number line = by ((told_by (Some format) number line).is_part && not r)
    where
      by : (test : Bool) → said_of format number (if test then [] else line) ≡ (if test then Nothing else said_of format number line)
      by true = empty_says format number
      by false = refl

  facts_are : (tables : Tables) (context : Context) (number : ℕ) (lines : List (List ℕ)) → context.format ≡ Some format
      → facts_alone read (way_with tables) context number lines ≡ facts_from context number (lines_alone read (way_with tables) number lines)
  facts_are tables context number [] known = refl
  facts_are tables context number (line ∷ lines) known =
      let told = told_by (Some format) number line in
      let behind = tables_behind tables told in
      let r = read behind in
      let line' = line_kept r told line in
      let says = kept_says r number line in
      let rest = lines_alone read (way_with behind) (number + 1) lines in
      ap (λ fs. facts_told r context told ++ fs) (facts_are behind (context_told r context told) (number + 1) lines refl)
      ∙ ap (λ said. line_facts number (Some format) context said ++ facts_from (context_after context (Some format) said) (number + 1) rest) (sym says)
      ∙ ap (λ f. line_facts number f context (said_in f number line') ++ facts_from (context_after context f (said_in f number line')) (number + 1) rest) (sym known)

-- Each tables: every line says what it says.
facts_all : (way : Way) (context : Context) (number : ℕ) (lines : List (List ℕ)) → context.format ≡ way.format → facts_alone (λ tables. true) way context number lines ≡ facts_from context number lines
facts_all way context number [] known = refl
facts_all way context number (line ∷ lines) known =
    let told = told_by way.format number line in
    let all = kept_all told in
    ap (λ fs. facts_told true context told ++ fs) (facts_all (way_behind way told) (context_told true context told) (number + 1) lines refl)
    ∙ ap (λ said. line_facts number told.format context said ++ facts_from (context_after context told.format said) (number + 1) lines) all
    ∙ ap (λ f. line_facts number f context (said_in f number line) ++ facts_from (context_after context f (said_in f number line)) (number + 1) lines) (sym known)
  where
    kept_all : (told : Told) → kept true told ≡ told.said
    kept_all told = by told.is_part
      where
        by : (part : Bool) → (if part && false then Nothing else told.said) ≡ told.said
        by true = refl
        by false = refl

-- ---- the outcome

answered_is : (auto : Bool) (supplied : Supplied) (tables : Tables) (seen : Seen) (warned : Warned) (fault : Option ImportFault) → is_all supplied.table ≡ false → has_picked supplied.table tables ≡ true
    → answered supplied.table (option_map_or (λ f. Err (failure tables warned f)) fault (Ok (closed auto supplied tables seen))) ≡ unless fault warned (ended auto supplied seen)
answered_is auto supplied tables seen warned None asked has = rw has refl
answered_is auto supplied tables seen warned (Some fault) asked has = rw (asked, append-nil (fault_line fault)) refl

pub alone_reads : (format : Format) (supplied : Supplied) (text alone : List ℕ) → HasAlone supplied.table format text alone → tables_outcome (Only format) supplied text ≡ log_outcome (Only format) supplied alone
alone_reads format supplied text alone has =
    let tables = tables_of (Some format) text in
    let read = is_read supplied.table tables in
    let start = nothing_seen (Some format) in
    let same : facts_of_tables supplied.table (Some format) text ≡ shown (Some format) alone =
    facts_are format read no_tables (starts (Some format)) 1 (lines_of text) refl ∙ ap (facts_from (starts (Some format)) 1) (sym has.lines) in
    ap (λ facts. answered supplied.table (log_answer false supplied tables start facts)) same
    ∙ answered_is false supplied tables (seen_after start (shown (Some format) alone)) (warned_till supplied start (shown (Some format) alone)) (facts_fault supplied start (shown (Some format) alone)) has.asked has.has

-- without the word
all_answered : (auto : Bool) (supplied : Supplied) (tables : Tables) (seen : Seen) (warned : Warned) (fault : Option ImportFault) → supplied.table ≡ Each
    → ComeToSame (answered supplied.table (option_map_or (λ f. Err (failure tables warned f)) fault (Ok (closed auto supplied tables seen)))) (unless fault warned (ended auto supplied seen))
all_answered auto supplied tables seen warned None all = rw all (record { notes = refl; dump = refl; status = refl })
all_answered auto supplied tables seen warned (Some fault) all = record { notes = refl; dump = refl; status = refl }

one_answered : (auto : Bool) (supplied : Supplied) (tables : Tables) (seen : Seen) (warned : Warned) (fault : Option ImportFault) → supplied.table ≡ Each → nat_lt 1 tables.count ≡ false
    → answered supplied.table (option_map_or (λ f. Err (failure tables warned f)) fault (Ok (closed auto supplied tables seen))) ≡ unless fault warned (ended auto supplied seen)
one_answered auto supplied tables seen warned None all few = rw all refl
one_answered auto supplied tables seen warned (Some fault) all few = rw (all, few, append-nil (fault_line fault)) refl

all_facts : (pick : Pick) (format : Option Format) (text : List ℕ) → pick ≡ Each → facts_of_tables pick format text ≡ shown format text
all_facts pick format text all = rw all (facts_all (way_from format) (starts format) 1 (lines_of text) refl)

pub reads_all : (choice : Choice) (supplied : Supplied) (text : List ℕ) → supplied.table ≡ Each → ReadsAll choice supplied text
reads_all choice supplied text all =
    let format = format_of choice text in
    let tables = tables_of format text in
    let start = nothing_seen format in
    let facts = all_facts supplied.table format text all in
    let fault = facts_fault supplied start (shown format text) in
    let warned = warned_till supplied start (shown format text) in
    let seen = seen_after start (shown format text) in
    let same : ComeToSame (answered supplied.table (log_answer (is_auto choice) supplied tables start (facts_of_tables supplied.table format text))) (facts_outcome (is_auto choice) supplied start (shown format text)) =
    rw facts (all_answered (is_auto choice) supplied tables seen warned fault all) in
    record {
      same = record { notes = same.notes; dump = same.dump; status = same.status };
      one = λ few. rw facts (ap (beside (front_of choice text)) (one_answered (is_auto choice) supplied tables seen warned fault all few));
    }
