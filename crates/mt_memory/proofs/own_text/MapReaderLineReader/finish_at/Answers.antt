use Rattle.std.proofs.Common.{[], sym}
use Rattle.mt_memory.proofs.own_text.MapReaderLineReader.finish_at.Goals as goal

pub returns-clause-value : goal.returns-clause-value
returns-clause-value c = λ number course led. sym (led [] c.args._end)
