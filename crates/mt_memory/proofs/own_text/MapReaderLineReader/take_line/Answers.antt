use Rattle.mt_memory.specs.MapText.{finished, taken}
use Rattle.mt_memory.proofs.Fed.{map_cut, map_short, takes_line}
use Rattle.mt_memory.proofs.own_text.MapReaderLineReader.take_line.Goals as goal

pub returns-clause-takes : goal.returns-clause-takes
returns-clause-takes c = takes_line taken finished map_cut map_short c.args.self.now c.take.new.self c.args.line.now c.take.result c.take.ensures
