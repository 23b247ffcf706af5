use Rattle.std.proofs.Common.{[]}
use Rattle.mt_stream.proofs.KnownLines.{known_is_front, steps_walk}
use Rattle.mt_proc.specs.Proc.{RequestState, from_point, in_dump, proc_end, proc_step}
use Rattle.mt_proc.proofs.RunningLaws.{long_offence, tells_long}
use Rattle.mt_replay_laws.proofs.proc_laws.known_lines_tell_a_front.Goals as goal

pub returns : goal.returns
returns c = λ cpus. known_is_front RequestState (from_point cpus) (λ p. Unit {0}) (steps_walk RequestState (proc_step cpus) proc_end long_offence (tells_long cpus)) (in_dump []) tt
