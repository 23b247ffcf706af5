use Rattle.mt_replay_laws.proofs.ProcCourses.{tells_of_machines}
use Rattle.mt_replay_laws.proofs.proc_laws.texts_tell_of_machines.Goals as goal

pub returns : goal.returns
returns c = λ cpus text some. tells_of_machines cpus some text
