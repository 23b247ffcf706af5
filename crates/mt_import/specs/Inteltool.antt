-- Lines of inteltool with `-M`. Source: coreboot 25.09 and 4.15, util/inteltool/cpu.c, `print_intel_msrs` and `rdmsr`.
--     inteltool_said number line      what a line of this number says
use Rattle.std.specs.Prelude.{ℕ, List}
use Rattle.mt_import.specs.declared.inteltool.TheConstants.{INTELTOOL}
use Rattle.mt_import.specs.declared.reading.LineSays.{LineSays}
use Rattle.mt_import.specs.Tables.{rows_in, said_in}

abbrev pub inteltool_said : ℕ → List ℕ → LineSays
inteltool_said number line = said_in (rows_in INTELTOOL) number line
