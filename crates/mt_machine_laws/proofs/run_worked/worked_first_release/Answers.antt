use Rattle.std.proofs.Common.{◌≡◌, ℕ, true, false, refl, ap, subst, arith, List, [], ◌∷◌, ◌++◌, Option, None, Some}
use Rattle.std.proofs.lemmas.Bool.{not-true}
use Rattle.std.specs.Prelude.{map, not}
use Rattle.std.specs.List.{list_all}
use Rattle.mt_machine.specs.declared.event.Event.TheVariants.{Pass, Release}
use Rattle.mt_machine.specs.Machine.{AreEnabled, Machine, MachineEvent, Order, Steps, has_passed, run}
use Rattle.mt_machine.specs.Update.{is_release}
use Rattle.mt_machine_laws.specs.MachineWorkedRuns.{idle}
use Rattle.mt_laws.specs.Settled.{IsFirstRelease}
use Rattle.mt_machine_laws.specs.RunWorkedRuns.{pair_arrived, pair_between, pair_order}
use Rattle.mt_laws.proofs.Words.Sound.{test_all}
use Rattle.mt_machine_laws.proofs.run_worked.worked_first_release.Goals as goal

-- by computation
pub returns-clause-first : goal.returns-clause-first
returns-clause-first c = record {
  order = refl;
  none_passed = test_all (λ q. not (has_passed pair_order q)) (λ q. has_passed pair_order q ≡ false) (λ q. not-true (has_passed pair_order q)) pair_arrived.system.processors refl;
  first = 0;
  last = 1;
  between = pair_between;
  no_release = refl;
  enabled = (refl, (refl, (refl, (refl, (refl, (refl, (refl, (refl, (refl, (refl, (refl, (refl, (refl, (refl, (refl, (refl, (refl, (refl, (refl, (refl, (refl, (refl, (refl, (refl, (refl, tt)))))))))))))))))))))))));
  leads = refl;
}

abbrev eras : Machine → List ℕ
eras m = map (λ p. p.era) m.system.processors

abbrev last_of_two : List ℕ → ℕ
last_of_two [] = 0
last_of_two (x ∷ []) = x
last_of_two (x ∷ y ∷ more) = y

abbrev goal_type : Option Order → ℕ
goal_type None = 0
goal_type (Some o) = o.goal.default_type

-- what a first release's events are, where it tells them
enabled_by : (p r : Machine) (o : Order) (h : IsFirstRelease p r o) (first last : ℕ) (between : List MachineEvent) → h.first ≡ first → h.last ≡ last → h.between ≡ between
    → AreEnabled p (Steps first Pass ∷ between ++ Steps last Release ∷ [])
enabled_by p r o h first last between f l b = subst (λ es. AreEnabled p es) (λ i. Steps (f i) Pass ∷ b i ++ Steps (l i) Release ∷ []) h.enabled

leads_by : (p r : Machine) (o : Order) (h : IsFirstRelease p r o) (first last : ℕ) (between : List MachineEvent) → h.first ≡ first → h.last ≡ last → h.between ≡ between
    → r ≡ run p (Steps first Pass ∷ between ++ Steps last Release ∷ [])
leads_by p r o h first last between f l b = subst (λ es. r ≡ run p es) (λ i. Steps (f i) Pass ∷ b i ++ Steps (l i) Release ∷ []) h.leads

pub returns-clause-other_order : goal.returns-clause-other_order
returns-clause-other_order c = λ h. omega (arith, ap goal_type h.order)

pub returns-clause-after_a_pass : goal.returns-clause-after_a_pass
returns-clause-after_a_pass c = λ h. absurd (cc (h.none_passed 0 idle (omega arith)))

pub returns-clause-release_between : goal.returns-clause-release_between
returns-clause-release_between c = λ h first last between. absurd (cc (subst (λ es. list_all (λ e. not (is_release e)) es ≡ true) between h.no_release))

pub returns-clause-not_enabled : goal.returns-clause-not_enabled
returns-clause-not_enabled c = λ h first last between. absurd (cc (enabled_by _ _ _ h 0 0 [] first last between).1.0)

pub returns-clause-other_state : goal.returns-clause-other_state
returns-clause-other_state c = λ h first last between. omega (arith, ap (λ m. last_of_two (eras m)) (leads_by _ _ _ h 0 1 pair_between first last between))
