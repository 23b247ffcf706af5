use Rattle.std.proofs.Common.{refl, rules, [], ◌∷◌}
use Rattle.mt_machine.specs.declared.event.Event.TheVariants.{Arrive, Leave, Pass, Take}
use Rattle.mt_machine.specs.Machine.{Cancels, Goes, Steps}
use Rattle.mt_machine_laws.specs.MachineWorkedRuns.{bare, bare_file}
use Rattle.mt_laws.specs.Settled.{IsFirstRelease}
use Rattle.mt_machine_laws.specs.RunWorkedRuns.{pair_between}
use Rattle.mt_machine.specs.declared.go.Go.TheVariants.{Given}
use Rattle.mt_machine_laws.specs.AdmitWorkedRuns.{before_pass, between_pass_and_release, buffered, one_line, released, to_first_pass, unlike}
use Rattle.mt_machine_laws.proofs.Unlike.{bare_can, buffered_can, one_line_can, unlike_can}
use Rattle.mt_machine_laws.proofs.admit_worked.worked_laws.Goals as goal

pub returns-clause-arise : goal.returns-clause-arise
returns-clause-arise c = λ law. law unlike unlike_can

pub returns-clause-agree : goal.returns-clause-agree
returns-clause-agree c = λ law.
    law bare (Goes ∷ Steps 0 Take ∷ Steps 0 Arrive ∷ Steps 1 Take ∷ Steps 1 Arrive ∷ Steps 0 Pass ∷ pair_between) [] 1 bare_can
    (refl, (refl, (refl, (refl, (refl, (refl, (refl, (refl, (refl, (refl, (refl, (refl, (refl, (refl, (refl, (refl, (refl, (refl, (refl, (refl, (refl, (refl, (refl, (refl, (refl, (refl, (refl, (refl, (refl, (refl, tt)))))))))))))))))))))))))))))) refl refl

pub returns-clause-keep : goal.returns-clause-keep
returns-clause-keep c = λ law.
    let first : IsFirstRelease before_pass released (record { goal = bare_file 0x800; from_era = 0; go = Given }) =
    record {
      order = refl;
      none_passed = search rules;
      first = 0;
      last = 1;
      between = between_pass_and_release;
      no_release = refl;
      enabled = (refl, (refl, (refl, (refl, (refl, (refl, (refl, (refl, (refl, (refl, (refl, (refl, (refl, (refl, (refl, (refl, (refl, (refl, (refl, (refl, (refl, (refl, (refl, (refl, (refl, (refl, (refl, tt)))))))))))))))))))))))))));
      leads = refl;
    } in
    law one_line released (record { goal = bare_file 0x800; from_era = 0; go = Given }) to_first_pass [] one_line_can (refl, (refl, (refl, (refl, (refl, tt))))) first tt

pub returns-clause-blank : goal.returns-clause-blank
returns-clause-blank c = λ law. law unlike (Steps 0 Take ∷ Cancels ∷ Steps 0 Leave ∷ []) unlike_can (refl, (refl, (refl, tt))) refl refl

pub returns-clause-leave : goal.returns-clause-leave
returns-clause-leave c = λ law. law buffered buffered_can
