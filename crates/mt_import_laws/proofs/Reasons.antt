-- A status that isn't 0 comes without a text for standard output.
use Rattle.std.proofs.Common.{◌≡◌, ◌≢◌, ℕ, Bool, true, false, List, [], ◌++◌, Option, Some, None, refl}
use Rattle.std.specs.Prelude.{if◌then◌else◌, Ok, Err}
use Rattle.std.specs.Option.{option_map_or}
use Rattle.mt_ports.specs.declared.status.Status.TheVariants.{Done}
use Rattle.mt_import.specs.declared.fault.ImportFault.{ImportFault}
use Rattle.mt_import.specs.declared.format.Choice.{Choice}
use Rattle.mt_import.specs.declared.shape.Tally.{Tally}
use Rattle.mt_import.specs.declared.shape.Warned.{Warned}
use Rattle.mt_import.specs.declared.shape.Pick.{Pick}
use Rattle.mt_import.specs.declared.shape.Tables.{Tables}
use Rattle.mt_import.specs.LogTables.{facts_of_tables, has_picked, missing_table, tables_of}
use Rattle.mt_import.specs.Census.{format_of}
use Rattle.mt_import.specs.Shown.{is_auto}
use Rattle.mt_import.specs.Supplied.{Supplied}
use Rattle.mt_import.specs.Outcome.{Seen, Summary, Outcome, dump_outcome, ended, ended_by, facts_fault, findings_of, is_empty, nothing_seen, refusal, seen_after, summary_of, warned_till}
use Rattle.mt_import.specs.Import.{answered, closed, failure, outcome_by, tables_outcome}

abbrev IsAlone : Outcome → Type 0
IsAlone told = told.status ≢ Done → told.notes ++ told.dump ≡ []

dump_alone : (refused : Outcome) (told : Summary) (width capabilities : Option ℕ) → IsAlone refused → IsAlone (dump_outcome refused told width capabilities)
dump_alone refused told (Some width) (Some capabilities) alone not_done = absurd (not_done refl)
dump_alone refused told (Some width) None alone not_done = alone not_done
dump_alone refused told None capabilities alone not_done = alone not_done

if_alone : (test : Bool) (told refused : Outcome) → IsAlone told → IsAlone refused → IsAlone (if test then told else refused)
if_alone true told refused alone other = alone
if_alone false told refused alone other = other

refusal_alone : (tally : Tally) (missing : List ℕ) → IsAlone (refusal tally missing)
refusal_alone tally missing not_done = refl

summary_alone : (told : Summary) → IsAlone (ended_by told)
summary_alone told =
    let refused = refusal told.tally told.missing in
    let lacking = refusal told.tally (told.missing ++ told.advice) in
    if_alone (is_empty told.missing) (dump_outcome refused told told.width (told.values 0 0xfe)) lacking
    (dump_alone refused told told.width (told.values 0 0xfe) (refusal_alone told.tally told.missing)) (refusal_alone told.tally (told.missing ++ told.advice))

ended_alone : (auto : Bool) (supplied : Supplied) (seen : Seen) → IsAlone (ended auto supplied seen)
ended_alone auto supplied seen = summary_alone (summary_of auto supplied (findings_of seen) seen.tally)

closed_alone : (auto : Bool) (supplied : Supplied) (tables : Tables) (seen : Seen) → IsAlone (closed auto supplied tables seen)
closed_alone auto supplied tables seen =
    if_alone (has_picked supplied.table tables) (ended auto supplied seen) (refusal seen.tally (missing_table supplied.table tables)) (ended_alone auto supplied seen) (refusal_alone seen.tally (missing_table supplied.table tables))

answered_alone : (pick : Pick) (tables : Tables) (warned : Warned) (fault : Option ImportFault) (told : Outcome) → IsAlone told → IsAlone (answered pick (option_map_or (λ f. Err (failure tables warned f)) fault (Ok told)))
answered_alone pick tables warned (Some fault) told alone not_done = refl
answered_alone pick tables warned None told alone not_done = alone not_done

tables_alone : (choice : Choice) (supplied : Supplied) (text : List ℕ) → IsAlone (tables_outcome choice supplied text)
tables_alone choice supplied text =
    let tables = tables_of (format_of choice text) text in
    let facts = facts_of_tables supplied.table (format_of choice text) text in
    let seen = seen_after (nothing_seen (format_of choice text)) facts in
    answered_alone supplied.table tables (warned_till supplied (nothing_seen (format_of choice text)) facts) (facts_fault supplied (nothing_seen (format_of choice text)) facts) (closed (is_auto choice) supplied tables seen) (closed_alone (is_auto choice) supplied tables seen)

pub reasons_alone : (own : Option (List ℕ)) (command : Option (Choice × Supplied)) (bytes : List ℕ) → IsAlone (outcome_by own command bytes)
reasons_alone (Some text) command bytes not_done = absurd (not_done refl)
reasons_alone None None bytes not_done = refl
reasons_alone None (Some command) bytes not_done = tables_alone command.0 command.1 bytes not_done
