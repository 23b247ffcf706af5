use Rattle.std.proofs.Common.{◌≡◌, refl}
use Rattle.std.specs.Fmt.{digits}
use Rattle.mt_dump.specs.Dumps.{dump_of}
use Rattle.mt_machine_laws.specs.MachineWorkedRuns.{bare_file}
use Rattle.mt_ports.specs.declared.status.Status.TheVariants.{Done, Refused}
use Rattle.mt_replay.specs.Transcript.{transcript}
use Rattle.mt_replay_laws.specs.WorkedStates.{later_refused, small_dump}
use Rattle.mt_replay_laws.proofs.WorkedDumps.{shows}
use Rattle.mt_replay_laws.proofs.worked_laws.worked_laws_of_dumps.Goals as goal

done : (transcript small_dump).status ≡ Done
done = refl

refused : (transcript later_refused).status ≡ Refused
unfolding digits
refused = refl

pub returns-clause-one : goal.returns-clause-one
returns-clause-one c = λ law dump h. law small_dump dump (dump_of (bare_file 0x806)) h shows

pub returns-clause-states : goal.returns-clause-states
returns-clause-states c = λ law. law small_dump (dump_of (bare_file 0x806)) shows

pub returns-clause-refused : goal.returns-clause-refused
returns-clause-refused c = λ law. (law later_refused).0 refused

pub returns-clause-not_refused : goal.returns-clause-not_refused
returns-clause-not_refused c = λ law has. absurd (let is = (law small_dump).1 has in cc (is, done))

pub returns-clause-alone : goal.returns-clause-alone
returns-clause-alone c = λ law. law later_refused

pub returns-clause-accepted : goal.returns-clause-accepted
returns-clause-accepted c = λ law. (law small_dump (dump_of (bare_file 0x806)) shows).0 (λ is. absurd (cc (is, done)))

pub returns-clause-accepted_first : goal.returns-clause-accepted_first
returns-clause-accepted_first c = λ law. law small_dump (dump_of (bare_file 0x806)) shows
