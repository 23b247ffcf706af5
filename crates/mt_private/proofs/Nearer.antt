-- An event between the barriers leaves a resident's own machine less to do.
use Rattle.std.proofs.Common.{◌≡◌, ◌∙◌, ap, refl, subst, arith, ℕ, ◌+◌, ◌<◌, ◌||◌, Bool, true, false, List, [], ◌∷◌, Some}
use Rattle.std.specs.Prelude.{slice_get}
use Rattle.mt_machine.specs.declared.phase.Phase.{Phase}
use Rattle.mt_machine.specs.declared.phase.Phase.TheVariants.{Running}
use Rattle.mt_machine.specs.declared.event.Event.{Event}
use Rattle.mt_machine.specs.declared.event.Event.TheVariants.{SetNoFill}
use Rattle.mt_machine.specs.declared.go.Go.TheVariants.{Given}
use Rattle.mt_machine.specs.System.{Processor, System}
use Rattle.mt_machine.specs.Access.{is_running}
use Rattle.mt_machine.specs.Machine.{Machine, Order, before_own, due, is_arrived_again, own_step, step}
use Rattle.mt_cpu.specs.Steps.{is_local}
use Rattle.mt_core.specs.Arises.{Arises}
use Rattle.mt_core.specs.Steps.{step_after}
use Rattle.mt_core.proofs.Stepping.{stands}
use Rattle.mt_laws.proofs.Clearing.Renewed.{left_alone, no_take}
use Rattle.mt_laws.proofs.Steps.Counts.{is_past, left_of, one_less}
use Rattle.mt_laws.proofs.Steps.StepCounts.{ready}
use Rattle.mt_laws.proofs.Words.Sound.{aligned_all}
use Rattle.mt_rendezvous.specs.Station.{order_of}
use Rattle.mt_rendezvous.specs.Plays.{own_event}
use Rattle.mt_rendezvous.proofs.Local.{due_alone, local_changing, works_in}
use Rattle.mt_private.specs.YardCalls.{Visits}
use Rattle.mt_private.specs.YardPlays.{YardSat}
use Rattle.mt_private.proofs.Alone.{change_one, does_due}
use Rattle.mt_rendezvous.specs.declared.view.Added.{Added}
use Rattle.mt_rendezvous.specs.Calls.{PassOf}
use Rattle.mt_private.proofs.Carried.{core_is}

-- how many steps the first processor has still to do until its release
abbrev pub steps_left : List Processor → ℕ
steps_left [] = 0
steps_left (p ∷ ps) = left_of p

rests : (ph : Phase) → is_local ph ≡ true → is_running ph ≡ false
rests Running h = absurd (cc)
rests other h = refl

fewer : (a b c d : ℕ) → a ≡ c → b ≡ d → c + 1 ≡ d → a < b
fewer a b c d now before falls = omega arith

module _ {seat : PassOf YardSat} {core : Machine} {added : Added} {first : System} (v : Visits seat core added Given first) where
  abbrev own : System
  own = core.system

  abbrev cpu : Processor
  cpu = v.lodges.cpu

  pub less_left : (new : Machine) → Arises core → is_local cpu.phase ≡ true → new ≡ step_after core 0 → steps_left new.system.processors < steps_left core.system.processors
  less_left new arises here is =
      let o : Order = order_of seat.start Given in
      let e : Event = own_event seat.start cpu in
      let alone : own.processors ≡ cpu ∷ [] = v.lodges.alone in
      let its : (u : Order) (ps : List Processor) → due u ps cpu cpu.phase ≡ Some e = (λ u ps. due_alone u o ps [] cpu SetNoFill cpu.phase here) in
      let st = stands (subst Arises (core_is v) arises) in
      let prepared = ready own.memory.windows (aligned_all own.memory.windows st.0.aligned) 0 own o cpu (ap (λ (ps : List Processor). slice_get ps 0) alone) st.1 in
      let past : is_past cpu.phase ≡ true = ap (λ (b : Bool). b || is_arrived_again cpu.phase) (local_changing cpu.phase here) in
      let quiet = (works_in seat.start.goal cpu e cpu.phase refl here its o).2 in
      let falls = (one_less o [] cpu prepared cpu.phase e refl past (its o []) quiet).0 in
      let still : (before_own e 0 own).processors ≡ cpu ∷ [] = left_alone e 0 own (no_take o own.processors cpu cpu.phase e (rests cpu.phase here) (its o own.processors)) ∙ alone in
      let stepped : (step seat.start.goal e 0 own).processors ≡ own_step seat.start.goal e cpu ∷ [] = ap (λ (s : System). s.processors) (change_one (own_step seat.start.goal e) (before_own e 0 own) cpu still) in
      let after : new.system.processors ≡ own_step seat.start.goal e cpu ∷ [] =
      ap (λ (m : Machine). m.system.processors) (is ∙ ap (λ (m : Machine). step_after m 0) (core_is v) ∙ does_due seat.start Given own cpu e alone (its o (cpu ∷ []))) ∙ stepped in
      fewer (steps_left new.system.processors) (steps_left own.processors) (left_of (own_step seat.start.goal e cpu)) (left_of cpu)
      (ap (λ (ps : List Processor). steps_left ps) after) (ap (λ (ps : List Processor). steps_left ps) alone) falls
