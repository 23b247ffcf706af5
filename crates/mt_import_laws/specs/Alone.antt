-- Logs of which only some tables are read, and logs of these alone (own).
use Rattle.std.specs.Prelude.{ℕ, ◌≡◌, true, false, nat_lt, List, Some}
use Rattle.mt_text.specs.Text.{lines_of}
use Rattle.mt_import.specs.declared.format.Choice.{Choice}
use Rattle.mt_import.specs.declared.format.Format.{Format}
use Rattle.mt_import.specs.declared.shape.Pick.{Pick}
use Rattle.mt_import.specs.Import.{log_outcome, tables_outcome}
use Rattle.mt_import.specs.LogTables.{has_picked, is_all, is_read, lines_alone, tables_of, way_from}
use Rattle.mt_import.specs.Census.{format_of}
use Rattle.mt_import.specs.Supplied.{Supplied}
use Rattle.mt_import_laws.specs.FirstLine.{ComeToSame}

-- A log has the table that is asked for. The other log has the same lines, but each line of another table is empty.
pub record HasAlone (pick : Pick) (format : Format) (text alone : List ℕ) : Type 0 where
  pub asked : is_all pick ≡ false
  pub has : has_picked pick (tables_of (Some format) text) ≡ true
  pub lines : lines_of alone ≡ lines_alone (is_read pick (tables_of (Some format) text)) (way_from (Some format)) 1 (lines_of text)

-- All tables are read. Only behind a fault more may be told, if there are several.
pub record ReadsAll (choice : Choice) (supplied : Supplied) (text : List ℕ) : Type 0 where
  pub same : ComeToSame (tables_outcome choice supplied text) (log_outcome choice supplied text)
  pub one : nat_lt 1 (tables_of (format_of choice text) text).count ≡ false → tables_outcome choice supplied text ≡ log_outcome choice supplied text
