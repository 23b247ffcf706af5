use Rattle.mt_regs.specs.RegisterFile.{RegisterFile}
use Rattle.mt_machine.specs.System.{System}
use Rattle.mt_rendezvous.specs.declared.view.Start.{Start}
use Rattle.mt_private.proofs.Own.Jobs.{updates_alone}
use Rattle.mt_thread_laws.proofs.job_laws.whole_updates_run_alone.Goals as goal

abbrev start : System → RegisterFile → Start
start s goal = record { cpus = s.processors; ram = s.memory; goal = goal }

pub returns : goal.returns
returns c s goal memory unshared = updates_alone (start s goal) memory unshared
