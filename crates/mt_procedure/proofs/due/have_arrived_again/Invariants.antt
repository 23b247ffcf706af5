use Rattle.std.proofs.Common.{◌≡◌, take, true}
use Rattle.std.specs.List.{list_all}
use Rattle.mt_machine.specs.System.{Processor}
use Rattle.mt_machine.specs.Machine.{has_arrived_again}
use Rattle.mt_procedure.specs.Runs.{procedure_order}
use Rattle.mt_procedure.proofs.due.have_arrived_again.Given as goal

abbrev pub invariant-loop-cpu : goal.invariant-loop-cpu
invariant-loop-cpu l = list_all (λ (p : Processor). has_arrived_again (procedure_order p.file) p) (take l.cpu-index l.cpus) ≡ true
