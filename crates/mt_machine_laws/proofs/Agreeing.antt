-- From the first release of a newcomer's update on all processors agree, and words are held.
use Rattle.std.proofs.Common.{◌≡◌, ◌∙◌, ap, sym, refl, subst, ℕ, ◌+◌, Bool, true, false, List, [], ◌∷◌, ◌++◌, length, Option, None, Some, slice_get}
use Rattle.std.specs.Prelude.{if◌then◌else◌, not}
use Rattle.std.specs.Option.{option_map_or}
use Rattle.std.specs.List.{list_all}
use Rattle.mt_regs.specs.RegisterFile.{RegisterFile}
use Rattle.mt_machine.specs.declared.event.Event.TheVariants.{Release}
use Rattle.mt_machine.specs.declared.go.Go.TheVariants.{Given, Cancelled}
use Rattle.mt_machine.specs.System.{Processor, System}
use Rattle.mt_machine.specs.Machine.{Accesses, AreEnabled, Calls, Cancels, Controls, Goes, IsEnabled, Machine, MachineEvent, Order, Steps, common_era, due, is_over, next, remaining_order, run, step}
use Rattle.mt_machine.specs.Update.{IsSettled, is_call}
use Rattle.mt_laws.proofs.Barrier.Ranks.{and_left, and_right}
use Rattle.mt_core.specs.Arises.{Arises, by_event}
use Rattle.mt_core.proofs.Arising.{machine}
use Rattle.mt_core.proofs.Eras.{eras_rise}
use Rattle.mt_core.proofs.Settling.{held_from_first_release, settled_from_release}
use Rattle.mt_admit.specs.Admission.{brought_up, first_file}
use Rattle.mt_admit.specs.Laws.{NewcomersAgree, NewcomersKeepWords}
use Rattle.mt_admit.proofs.Calling.{reset_count, reset_era, ups_arise}

-- the order of one call, as long as it stands
abbrev IsOf : RegisterFile → ℕ → Option Order → Type 0
IsOf goal era None = Unit {0}
IsOf goal era (Some o) = (o.goal ≡ goal) × (o.from_era ≡ era)

module _ (goal : RegisterFile) (era : ℕ) where
  of_left : (o : Order) (ps : List Processor) → IsOf goal era (Some o) → IsOf goal era (remaining_order o ps)
  of_left o ps h = one (is_over o ps)
    where
      one : (b : Bool) → IsOf goal era (if b then None else Some o)
      one true = tt
      one false = h

  of_next : (e : MachineEvent) (s : System) (o : Option Order) → not (is_call e) ≡ true → IsOf goal era o → IsOf goal era (next (machine s o) e).order
  of_next (Accesses k op) s o calm h = h
  of_next (Controls k c) s o calm h = h
  of_next (Calls other) s o calm h = absurd (cc)
  of_next Goes s None calm h = h
  of_next Goes s (Some o) calm h = of_left (record o { go = Given }) s.processors h
  of_next Cancels s None calm h = h
  of_next Cancels s (Some o) calm h = of_left (record o { go = Cancelled }) s.processors h
  of_next (Steps k e) s None calm h = h
  of_next (Steps k e) s (Some o) calm h = of_left o (step o.goal e k s).processors h

  order_of : (m : Machine) (k : ℕ) → IsEnabled m (Steps k Release) → (o : Order) × (m.order ≡ Some o)
  order_of m k enabled = one m.order refl
    where
      one : (x : Option Order) → m.order ≡ x → (o : Order) × (m.order ≡ Some o)
      one None at =
          let e : None ≡ Some Release = sym (ap (λ (v : Option Order). option_map_or (λ o. option_map_or (λ p. due o m.system.processors p p.phase) (slice_get m.system.processors k) None) v None) at) ∙ enabled in
          absurd (cc)
      one (Some o) at = (o, at)

  settles : (before since : List MachineEvent) (k : ℕ) (t : Machine) → Arises t → IsOf goal era t.order
      → AreEnabled t (before ++ Steps k Release ∷ since) → list_all (λ e. not (is_call e)) before ≡ true → list_all (λ e. not (is_call e)) since ≡ true
      → IsSettled (run t (before ++ Steps k Release ∷ since)).system (era + 1) goal
  settles [] since k t a h enabled calm quiet =
      let there = order_of t k enabled.0 in
      let same : IsOf goal era (Some there.0) = subst (IsOf goal era) there.1 h in
      subst (λ (v : ℕ × RegisterFile). IsSettled (run (next t (Steps k Release)) since).system (v.0 + 1) v.1) (λ i. (same.1 i, same.0 i))
      (settled_from_release t there.0 k since a there.1 enabled.0 enabled.1 quiet)
  settles (e ∷ es) since k t a h enabled calm quiet =
      settles es since k (next t e) (by_event e a enabled.0) (of_next e t.system t.order (and_left _ _ calm) h) enabled.1 (and_right (not (is_call e)) _ calm) quiet

run_count : (es : List MachineEvent) (t : Machine) → AreEnabled t es → length (run t es).system.processors ≡ length t.system.processors
run_count [] t enabled = refl
run_count (e ∷ es) t enabled = run_count es (next t e) enabled.1 ∙ (eras_rise t e enabled.0).same_number

pub newcomers_agree : NewcomersAgree
newcomers_agree m before since k h enabled calm quiet = record {
  number = run_count (before ++ Steps k Release ∷ since) (brought_up m) enabled ∙ reset_count m.system h.some;
  settled = settles (first_file m.system) (common_era m.system.processors) before since k (brought_up m) (ups_arise m h) (refl, reset_era m.system h.some) enabled calm quiet;
}

pub arises_after : (es : List MachineEvent) (t : Machine) → Arises t → AreEnabled t es → Arises (run t es)
arises_after [] t a enabled = a
arises_after (e ∷ es) t a enabled = arises_after es (next t e) (by_event e a enabled.0) enabled.1

pub newcomers_keep_words : NewcomersKeepWords
newcomers_keep_words m r o before since h enabled first after = held_from_first_release (run (brought_up m) before) r o since (arises_after before (brought_up m) (ups_arise m h) enabled) first after
