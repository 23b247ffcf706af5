-- Words of updates of worked examples.
use Rattle.mt_machine.specs.declared.go.Go.TheVariants.{Pending}
use Rattle.mt_machine.specs.Machine.{Order}
use Rattle.mt_machine.specs.System.{Processor, start_processor}
use Rattle.mt_plain.specs.declared.turn.PlainProcessor.{PlainProcessor}
use Rattle.mt_plain.specs.declared.turn.PlainUpdate.{PlainUpdate}
use Rattle.mt_regs.specs.RegisterFile.{RegisterFile, blank_file}

-- two registers: the PAT and the default type
abbrev pub two_registers : RegisterFile
two_registers = blank_file 36 0x400

abbrev pub alone : Processor
alone = start_processor two_registers

abbrev pub called : Order
called = record { goal = two_registers; from_era = 0; go = Pending }

abbrev pub told_update : PlainUpdate
told_update = record { word = 0; processors = 1; arrived = 0; arrived_again = 0 }

abbrev pub told_processor : PlainProcessor
told_processor = record { phase = 0; place = 0; registers = 2; self_snoop = 0; finished = 0 }
