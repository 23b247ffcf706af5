use Rattle.std.proofs.Common.{◌∷◌, ◌++◌, [], arith, inl, refl, rules, map}
use Rattle.mt_machine.specs.declared.event.Event.TheVariants.{Arrive, Pass, Release, Take, WriteBack}
use Rattle.mt_machine.specs.Machine.{AreEnabled, Calls, Goes, Order, Steps, next}
use Rattle.mt_machine_laws.specs.MachineWorkedRuns.{bare_file}
use Rattle.mt_laws.specs.Settled.{IsFirstRelease}
use Rattle.mt_machine_laws.specs.WorkedUpdates.{given_order, two_in_change, two_taken, two_to_change}
use Rattle.mt_machine_laws.proofs.WorkedUpdates.{two_change_enabled, two_start}
use Rattle.mt_core.specs.Arises.{Arises, by_event, from_start}
use Rattle.mt_machine_laws.specs.CoreWorkedLaws.{behind_pass, behind_release, two_unlike, unlike_arrived, unlike_between, unlike_given, unlike_passed, unlike_released}
use Rattle.mt_machine_laws.proofs.OnWorked.{arises_run, two_unlike_can_be_called, two_unlike_is_quiet}
use Rattle.mt_machine_laws.proofs.core_worked_laws.worked_laws_of_two.Goals as goal

arises : Arises two_unlike
arises = from_start (inl two_unlike_is_quiet)

given_arises : Arises unlike_given
given_arises = by_event Goes (by_event (Calls (bare_file 0x806)) arises two_unlike_can_be_called) refl

arrived_arises : Arises unlike_arrived
arrived_arises = arises_run (map (Steps 0) (Take ∷ Arrive ∷ []) ++ map (Steps 1) (Take ∷ Arrive ∷ [])) unlike_given given_arises (refl, (refl, (refl, (refl, tt))))

passes : AreEnabled unlike_arrived (Steps 1 Pass ∷ behind_pass)
passes = (refl, (refl, (refl, (refl, (refl, (refl, (refl, (refl, (refl, (refl, (refl, (refl, (refl, (refl, (refl, (refl, (refl, (refl, (refl, (refl, (refl, (refl, (refl, (refl, (refl, tt)))))))))))))))))))))))))

passed_arises : Arises unlike_passed
passed_arises = arises_run (Steps 1 Pass ∷ behind_pass) unlike_arrived arrived_arises passes

released_arises : Arises unlike_released
released_arises = by_event (Steps 1 Release) passed_arises refl

change_arises : Arises two_in_change
change_arises = arises_run two_to_change two_taken (from_start two_start) two_change_enabled

abbrev era_order : Order
era_order = record given_order { from_era = 3 }

pub returns-clause-no_buffers : goal.returns-clause-no_buffers
returns-clause-no_buffers c = λ law. law (next unlike_arrived (Steps 0 Pass)) 1 (by_event (Steps 0 Pass) arrived_arises refl) refl

pub returns-clause-exclusive : goal.returns-clause-exclusive
returns-clause-exclusive c = λ law. law two_in_change change_arises

pub returns-clause-busy : goal.returns-clause-busy
returns-clause-busy c = λ law. law two_in_change change_arises

pub returns-clause-orders : goal.returns-clause-orders
returns-clause-orders c = λ law. law two_in_change given_order change_arises refl

pub returns-clause-words : goal.returns-clause-words
returns-clause-words c = λ law address. law two_in_change (Steps 1 (WriteBack 0x100008 6)) address change_arises refl refl refl

between : AreEnabled unlike_given (Steps 1 Take ∷ (unlike_between ++ Steps 1 Release ∷ []))
between = (refl, ((refl, tt), (refl, (refl, (refl, (refl, (refl, (refl, (refl, (refl, (refl, (refl, (refl, (refl, (refl, (refl, (refl, (refl, (refl, (refl, (refl, (refl, (refl, (refl, (refl, (refl, (refl, (refl, (refl, (refl, (refl, tt)))))))))))))))))))))))))))))))

pub returns-clause-counted : goal.returns-clause-counted
returns-clause-counted c = λ law. law unlike_given 1 unlike_between given_arises between refl

pub returns-clause-barriers : goal.returns-clause-barriers
returns-clause-barriers c = λ law. law unlike_released released_arises

behind : AreEnabled unlike_released behind_release
behind = ((refl, (refl, omega arith)), (refl, ((refl, λ p is. tt), tt)))

pub returns-clause-settled : goal.returns-clause-settled
returns-clause-settled c = λ law. law unlike_passed era_order 1 behind_release passed_arises refl refl behind refl

first_release : IsFirstRelease unlike_arrived unlike_released era_order
first_release = record {
  order = refl;
  none_passed = search rules;
  first = 1;
  last = 1;
  between = behind_pass;
  no_release = refl;
  enabled = (refl, (refl, (refl, (refl, (refl, (refl, (refl, (refl, (refl, (refl, (refl, (refl, (refl, (refl, (refl, (refl, (refl, (refl, (refl, (refl, (refl, (refl, (refl, (refl, (refl, (refl, tt))))))))))))))))))))))))));
  leads = refl;
}

pub returns-clause-held : goal.returns-clause-held
returns-clause-held c = λ law. law unlike_arrived unlike_released era_order behind_release arrived_arises first_release behind

pub returns-clause-quiet : goal.returns-clause-quiet
returns-clause-quiet c = λ law. law (next unlike_released (Steps 0 Release)) (by_event (Steps 0 Release) released_arises refl) refl
