-- Lines of a list of registers and values (own).
--     plain_said number line      what a line of this number says
use Rattle.std.specs.Prelude.{ℕ, List}
use Rattle.mt_import.specs.declared.plain.TheConstants.{PLAIN}
use Rattle.mt_import.specs.declared.reading.LineSays.{LineSays}
use Rattle.mt_import.specs.Tables.{rows_in, said_in}

abbrev pub plain_said : ℕ → List ℕ → LineSays
plain_said number line = said_in (rows_in PLAIN) number line
