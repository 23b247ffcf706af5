use Rattle.std.proofs.Common.{◌∷◌, [], lit<, refl}
use Rattle.mt_machine.specs.declared.event.Event.TheVariants.{SetNoFill}
use Rattle.mt_machine.specs.declared.go.Go.TheVariants.{Given, Pending}
use Rattle.mt_machine.specs.declared.op.Op.TheVariants.{Store}
use Rattle.mt_machine.specs.declared.phase.Phase.TheVariants.{Passed, Running}
use Rattle.mt_thread_laws.specs.WorkedWay.{guest}
use Rattle.mt_thread_laws.specs.WorkedYard.{alone}
use Rattle.mt_thread_laws.proofs.LoneGuest.{at_rest_yard, passed_yard}
use Rattle.mt_rendezvous.specs.declared.view.Added.TheVariants.{Never, Once}
use Rattle.mt_thread_laws.proofs.job_worked_laws.worked_laws_of_own_words.Goals as goal

pub returns-clause-accesses : goal.returns-clause-accesses
returns-clause-accesses c = λ law.
    let y = at_rest_yard in
    let told = law alone (guest Running Never ∷ []) Pending 0 0 y.0 0 (guest Running Never) (Store 0x1000 7) 1 y.1 refl refl ((refl, lit< tt), lit< tt) in (y.0, y.1, told.0, told.1)

pub returns-clause-works : goal.returns-clause-works
returns-clause-works c = λ law.
    let y = passed_yard in (
      y.0,
      y.1,
      law alone (guest Passed Once ∷ []) Given 2 0 y.0 0 (guest Passed Once) SetNoFill 1 y.1 (record { at = refl; has_added = refl }) refl (λ o ps. refl),
    )
