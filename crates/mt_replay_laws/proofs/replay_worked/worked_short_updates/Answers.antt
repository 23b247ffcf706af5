use Rattle.std.proofs.Common.{◌≡◌, refl, rules, subst, arith, inr, [], inl, ◌∷◌, ◌++◌}
use Rattle.std.specs.List.{All}
use Rattle.mt_machine_laws.specs.MachineWorkedRuns.{idle}
use Rattle.mt_replay_laws.specs.Headline.{IsCall, NoneOf}
use Rattle.mt_replay.specs.Steps.{ScriptStep}
use Rattle.mt_replay_laws.specs.WorkedSteps.{begins, calls, passes, releases}
use Rattle.mt_replay_laws.proofs.Courses.Tells.{none_calls}
use Rattle.mt_replay_laws.proofs.replay_worked.worked_short_updates.Goals as goal

pub returns-clause-section : goal.returns-clause-section
returns-clause-section c = record {
  before = [];
  opens = begins;
  lines = [];
  stand = refl;
  begins = inr refl;
  no_other_end = tt;
  ends = refl;
  goal = refl;
}

pub returns-clause-update : goal.returns-clause-update
returns-clause-update c = record {
  before = [];
  call = calls;
  waiting = [];
  pass = passes;
  between = [];
  first = releases;
  again = [];
  stand = refl;
  calls = inl refl;
  passes = refl;
  releases = refl;
  no_other_call = none_calls (passes ∷ releases ∷ []) refl;
  first_pass = tt;
  first_release = search rules;
  no_store_waits = search rules;
}

pub returns-clause-call_behind_the_first_release : goal.returns-clause-call_behind_the_first_release
returns-clause-call_behind_the_first_release c = λ u waiting pass between first again.
    (subst (NoneOf IsCall) (λ i. waiting i ++ pass i ∷ (between i ++ first i ∷ again i)) u.no_other_call).1.1.0 (inl (inl refl))

pub returns-clause-store_waits : goal.returns-clause-store_waits
returns-clause-store_waits c = λ u pass.
    absurd (cc (subst (λ (s : ScriptStep). All (λ p. p.buffers ≡ []) s.before.machine.system.processors) pass u.no_store_waits 1 idle (omega arith)))
