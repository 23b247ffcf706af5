-- Lines of WinDbg's `rdmsr`, by its publicly known form.
--     windbg_said number line      what a line of this number says
use Rattle.std.specs.Prelude.{ℕ, List}
use Rattle.mt_import.specs.declared.windbg.TheConstants.{WINDBG}
use Rattle.mt_import.specs.declared.reading.LineSays.{LineSays}
use Rattle.mt_import.specs.Tables.{rows_in, said_in}

abbrev pub windbg_said : ℕ → List ℕ → LineSays
windbg_said number line = said_in (rows_in WINDBG) number line
