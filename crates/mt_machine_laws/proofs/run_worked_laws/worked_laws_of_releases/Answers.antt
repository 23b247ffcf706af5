use Rattle.std.proofs.Common.{◌≡◌, ◌∷◌, [], arith, false, refl}
use Rattle.std.proofs.lemmas.Bool.{not-true}
use Rattle.std.specs.List.{All}
use Rattle.std.specs.Prelude.{not}
use Rattle.mt_machine.specs.Machine.{AreEnabled, has_released, run}
use Rattle.mt_machine_laws.specs.MachineWorkedRuns.{load}
use Rattle.mt_machine_laws.specs.WorkedUpdates.{at_pass, dirty_released, dirty_taken, given_order, to_release}
use Rattle.mt_laws.proofs.Words.Sound.{test_all}
use Rattle.mt_machine_laws.proofs.WorkedUpdates.{dirty_first_release, dirty_start, pass_reached, release_reached}
use Rattle.mt_machine_laws.proofs.run_worked_laws.worked_laws_of_releases.Goals as goal

behind : AreEnabled dirty_released (load 0 0x1000 ∷ [])
behind = ((refl, (refl, omega arith)), tt)

unreleased : All (λ q. has_released given_order q ≡ false) (run dirty_taken to_release).system.processors
unreleased = test_all (λ q. not (has_released given_order q)) (λ q. has_released given_order q ≡ false) (λ q. not-true (has_released given_order q)) (run dirty_taken to_release).system.processors refl

pub returns-clause-settled : goal.returns-clause-settled
returns-clause-settled c = λ law. law dirty_taken (run dirty_taken to_release) given_order 0 (load 0 0x1000 ∷ []) dirty_start release_reached refl refl behind refl

pub returns-clause-held : goal.returns-clause-held
returns-clause-held c = λ law. law dirty_taken at_pass dirty_released given_order (load 0 0x1000 ∷ []) dirty_start pass_reached dirty_first_release behind

pub returns-clause-each : goal.returns-clause-each
returns-clause-each c = λ law. law dirty_taken (run dirty_taken to_release) given_order 0 (load 0 0x1000 ∷ []) dirty_start release_reached refl unreleased refl behind

pub returns-clause-first : goal.returns-clause-first
returns-clause-first c = λ law. law dirty_taken (run dirty_taken to_release) given_order 0 dirty_start release_reached refl unreleased refl
