use Rattle.mt_memory.specs.Log.{ended, taken}
use Rattle.mt_memory.proofs.Fed.{log_cut, log_short, takes_line}
use Rattle.mt_memory.proofs.reader.LogReaderLineReader.take_line.Goals as goal

pub returns-clause-takes : goal.returns-clause-takes
returns-clause-takes c = takes_line taken ended log_cut log_short c.args.self.now c.take.new.self c.args.line.now c.take.result c.take.ensures
