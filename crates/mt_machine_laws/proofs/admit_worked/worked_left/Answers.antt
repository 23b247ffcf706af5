use Rattle.std.proofs.Common.{◌≡◌, arith, refl, subst}
use Rattle.mt_machine.specs.System.{System}
use Rattle.mt_admit.specs.Laws.{OthersAreLeft}
use Rattle.mt_machine_laws.specs.AdmitWorkedRuns.{buffered}
use Rattle.mt_machine_laws.proofs.GivingUp.{retired_leave_the_others}
use Rattle.mt_machine_laws.proofs.Unlike.{buffered_can, buffered_left}
use Rattle.mt_machine_laws.proofs.admit_worked.worked_left.Goals as goal

pub returns-clause-left_of_buffered : goal.returns-clause-left_of_buffered
returns-clause-left_of_buffered c = subst (λ (t : System). OthersAreLeft buffered.system t) buffered_left (retired_leave_the_others buffered buffered_can)

pub returns-clause-buffer_lost : goal.returns-clause-buffer_lost
returns-clause-buffer_lost c = λ h. let e : 0 ≡ 6 = h.words 0x100048 refl in omega (arith, e)
