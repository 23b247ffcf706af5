-- Lines of chipsec: `chipsec_util msr`, and registers that modules print. By what is publicly known of its form.
--     chipsec_said number line      what a line of this number says
use Rattle.std.specs.Prelude.{ℕ, List}
use Rattle.mt_import.specs.declared.chipsec.TheConstants.{CHIPSEC}
use Rattle.mt_import.specs.declared.reading.LineSays.{LineSays}
use Rattle.mt_import.specs.Tables.{rows_in, said_in}

abbrev pub chipsec_said : ℕ → List ℕ → LineSays
chipsec_said number line = said_in (rows_in CHIPSEC) number line
