use Rattle.std.proofs.Common.{◌∙◌, refl}
use Rattle.mt_machine.specs.declared.phase.Phase.TheVariants.{Passed}
use Rattle.mt_machine.specs.Machine.{Machine}
use Rattle.mt_machine.specs.System.{System}
use Rattle.mt_private.specs.declared.host.Yard.{Yard}
use Rattle.mt_private.specs.declared.visiting.YardPass.{YardPass}
use Rattle.mt_private.specs.InYard.{HasPassed, IsBetween}
use Rattle.mt_private.proofs.visiting.YardPass.change.Goals as goal

between : (yard : Yard) (pass : YardPass) (core : Machine) (first : System) → HasPassed yard pass core first → IsBetween yard pass core first
between yard pass core first h = record { visits = h.visits; phase = (Passed, h.phase, refl) }

pub work_all-requires : goal.work_all-requires
work_all-requires c = let h = c.requires.passed in record { between = (h.0, between _ _ _ _ h.1) }

pub arrive_again-requires-clause-between : goal.arrive_again-requires-clause-between
arrive_again-requires-clause-between c = let h = c.requires.passed in (h.0, c.work_all.ensures.between h.0 (between _ _ _ _ h.1))

pub returns-clause-number : goal.returns-clause-number
returns-clause-number c = c.arrive_again.ensures.number ∙ c.work_all.ensures.number

pub returns-clause-done : goal.returns-clause-done
returns-clause-done c = c.arrive_again.ensures.done ∙ c.work_all.ensures.done

pub returns-clause-arrived : goal.returns-clause-arrived
returns-clause-arrived c first h = c.arrive_again.ensures.arrived first (c.work_all.ensures.between first (between _ _ _ _ h))
