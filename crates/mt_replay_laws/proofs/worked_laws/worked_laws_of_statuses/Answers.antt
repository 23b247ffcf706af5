use Rattle.std.proofs.Common.{◌≡◌, refl}
use Rattle.std.specs.Prelude.{codes}
use Rattle.std.specs.Fmt.{digits}
use Rattle.hex.specs.Hex.{encode_with}
use Rattle.mt_ports.specs.declared.status.Status.TheVariants.{BadText}
use Rattle.mt_script.specs.Numbers.{fault_at}
use Rattle.mt_script.specs.declared.fault.Offence.TheVariants as offence
use Rattle.mt_script.specs.declared.fault.ScriptReason.TheVariants.{BadLine}
use Rattle.mt_replay.specs.Transcript.{transcript}
use Rattle.mt_replay_laws.specs.WorkedScript.{bad_script}
use Rattle.mt_replay.proofs.Refusals.Outcomes.{shows_none}
use Rattle.mt_replay_laws.proofs.worked_laws.worked_laws_of_statuses.Goals as goal

bad : (transcript bad_script).status ≡ BadText
unfolding digits encode_with
bad = refl

pub returns-clause-last : goal.returns-clause-last
returns-clause-last c = λ law. law bad_script (offence.Script (fault_at BadLine (record { line = 9; column = 1 }))) refl (λ is. absurd (cc (is, bad)))

pub returns-clause-no_dump : goal.returns-clause-no_dump
returns-clause-no_dump c = λ law. law (codes "cpus 1\ndump\n0fe 400\n") (shows_none (codes "cpus 1\ndump\n0fe 400\n") refl)
