use Rattle.std.proofs.Common.{◌≡◌, ◌⊎◌, ◌∙◌, refl, ap, sym, arith, true, [], ◌∷◌, length, inl, inr, ⊎_elim}
use Rattle.std.specs.Option.{option_map}
use Rattle.mt_machine.specs.declared.phase.Phase.{Phase}
use Rattle.mt_machine.specs.declared.phase.Phase.TheVariants.{Arrived, Passed, Running, Taken}
use Rattle.mt_machine.specs.declared.event.Event.TheVariants.{Leave, Pass}
use Rattle.mt_machine.specs.declared.go.Go.TheVariants.{Cancelled, Given}
use Rattle.mt_machine.specs.System.{Processor, System}
use Rattle.mt_machine.specs.Machine.{Machine, Order, is_waiting_to_pass}
use Rattle.mt_core.specs.Steps.{step_after}
use Rattle.mt_laws.proofs.Barrier.Stages.{Stage}
use Rattle.mt_rendezvous.specs.declared.view.Start.{Start}
use Rattle.mt_rendezvous.specs.Station.{start_of}
use Rattle.mt_rendezvous.specs.Plays.{does}
use Rattle.mt_rendezvous.proofs.Steps.{due_leave}
use Rattle.mt_private.specs.declared.view.YardView.{YardView}
use Rattle.mt_private.specs.Residents.{with_held}
use Rattle.mt_private.specs.YardRule.{with_one}
use Rattle.mt_private.specs.YardCalls.{AreIn}
use Rattle.mt_private.proofs.Alone.{cancelled, does_due, given, in_its_phase, its_phase, one_step, onward, passes_alone, taken_on}
use Rattle.mt_private.proofs.Carried.{carried, core_is, guest, has_done, its_era, its_guest, of_guest, passes_kept, passes_of, shifted_is, visits_on}
use Rattle.mt_private.proofs.Residents.Plays.{passes_yard}
use Rattle.mt_rendezvous.specs.declared.view.Added.TheVariants.{Once}
use Rattle.mt_private.proofs.visiting.YardPass.wait_first.Goals as goal

-- the phase of one that waits
waiting : (s : System) (p : Processor) → s.processors ≡ p ∷ [] → AreIn Taken s ⊎ AreIn Arrived s → (p.phase ≡ Taken) ⊎ (p.phase ≡ Arrived)
waiting s p alone waits = ⊎_elim (λ (h : AreIn Taken s). inl (its_phase Taken s p alone h)) (λ (h : AreIn Arrived s). inr (its_phase Arrived s p alone h)) waits

is_waiting : (p : Phase) → (p ≡ Taken) ⊎ (p ≡ Arrived) → is_waiting_to_pass p ≡ true
is_waiting p waits = ⊎_elim (λ (h : p ≡ Taken). ap is_waiting_to_pass h) (λ (h : p ≡ Arrived). ap is_waiting_to_pass h) waits

pub loop-init : goal.loop-init
loop-init g c = record { arrived = λ first h. h; number = refl; done = refl }

pub load-found-requires : goal.load-found-requires
load-found-requires g c =
    let h = c.loop.invariant.arrived c.requires.arrived.0 c.requires.arrived.1 in
    let r = h.visits.lodges in
    let w = c.args.yard.now.wide in (
      r.same,
      omega arith,
      passes_yard c.args.yard.now.table.shared.key _ _ c.loop.self.seat.me (its_guest r) r.holds c.loop.self.no_root refl (waiting c.loop.core.system r.cpu r.alone h.phase),
    )

pub invariant_of-self-clause-known : goal.invariant_of-self-clause-known
invariant_of-self-clause-known g c =
    let r = (c.loop.invariant.arrived c.requires.arrived.0 c.requires.arrived.1).visits.lodges in
    c.loop.self.known ∙ sym (passes_kept r _ _ (passes_of r c.loop.self.no_root _ _ c.load-found.new.seat.me c.load-found.ensures.2)).0

pub invariant_of-self-clause-no_root : goal.invariant_of-self-clause-no_root
invariant_of-self-clause-no_root g c =
    let r = (c.loop.invariant.arrived c.requires.arrived.0 c.requires.arrived.1).visits.lodges in
    (passes_kept r _ _ (passes_of r c.loop.self.no_root _ _ c.load-found.new.seat.me c.load-found.ensures.2)).1 ∙ c.loop.self.no_root

-- ---- the cancel

pub step-requires : goal.step-requires
step-requires g c =
    let h = c.loop.invariant.arrived c.requires.arrived.0 c.requires.arrived.1 in
    let v = h.visits in
    let r = v.lodges in
    let is = c.cancel.ensures.after (c.cancel.ensures.given.1 (ap (option_map (λ (o : Order). o.go)) v.order)) in
    let waits = waiting c.loop.core.system r.cpu r.alone h.phase in
    let n = ap (λ (m : Machine). length m.system.processors) (is ∙ cancelled (start_of c.args.yard.now.table.shared.key) c.loop.core c.loop.core.system r.cpu (core_is v) r.alone (its_era v) (is_waiting r.cpu.phase waits)) in
    let one = ap (λ ps. length ps) r.alone in
    omega arith

pub returns-then-found-ge-CANCEL-clause-number : goal.returns-then-found-ge-CANCEL-clause-number
returns-then-found-ge-CANCEL-clause-number g c = c.loop.invariant.number

pub returns-then-found-ge-CANCEL-clause-done : goal.returns-then-found-ge-CANCEL-clause-done
returns-then-found-ge-CANCEL-clause-done g c =
    let r = (c.loop.invariant.arrived c.requires.arrived.0 c.requires.arrived.1).visits.lodges in
    let turn = (passes_of r c.loop.self.no_root _ _ c.load-found.new.seat.me c.load-found.ensures.2).2 c.if-found-ge-CANCEL.true (its_guest r) r.holds in
    has_done r c.load-found.new.seat.me _ _ _ turn.0 ∙ c.loop.invariant.done

pub returns-then-found-ge-CANCEL-clause-left : goal.returns-then-found-ge-CANCEL-clause-left
returns-then-found-ge-CANCEL-clause-left g c _ first before =
    let h = c.loop.invariant.arrived first before in
    let v = h.visits in
    let r = v.lodges in
    let e = c.load-found.ensures in
    let play = passes_of r c.loop.self.no_root _ _ c.load-found.new.seat.me c.load-found.ensures.2 in
    let t : Start = start_of c.args.yard.now.table.shared.key in
    let s : System = c.loop.core.system in
    let new = c.load-found.new.seat.me in
    let me = c.loop.self.seat.me in
    let waits = waiting s r.cpu r.alone h.phase in
    let said = c.cancel.ensures.after (c.cancel.ensures.given.1 (ap (option_map (λ (o : Order). o.go)) v.order)) ∙ cancelled t c.loop.core s r.cpu (core_is v) r.alone (its_era v) (is_waiting r.cpu.phase waits) in
    let is = ap (λ (m : Machine). m.system) (c.step.ensures.after ∙ ap (λ (m : Machine). step_after m 0) said ∙ does_due t Cancelled s r.cpu Leave r.alone (due_leave t Cancelled (r.cpu ∷ []) r.cpu waits refl)) in
    let q = one_step t.goal Leave s r.cpu r.alone in
    let tells = play.2 c.if-found-ge-CANCEL.true in
    let turn : new.0 ≡ with_one me.0 (with_held (its_guest r) (does t Leave (its_guest r).held)) me.0.shown true =
    of_guest r (λ u y. new.0 ≡ with_one me.0 (with_held y (does u Leave y.held)) me.0.shown true) (λ y same. (tells y same).0) in
    record {
      lodges = (
        Once,
        carried r _ new (with_held (its_guest r) (does t Leave (its_guest r).held)) _ _ c.step.new.self.system q.cpu Once e.0 play.0 turn (ap (λ (z : System). z.processors) is ∙ q.alone)
            (shifted_is r Leave Once q.cpu refl q.alone ∙ ap (λ (z : System). guest c.loop.self.number q.cpu Once z.memory (its_guest r).done (its_guest r).stored) (sym is)),
        refl,
      );
      cancel = ap (λ (u : YardView). u.cancel) (tells (its_guest r) r.holds).0;
      left = inr (is ∙ taken_on Running first s r.cpu r.alone h.drained);
    }

-- ---- the go

pub step-requires-then-found-yard : goal.step-requires-then-found-yard
step-requires-then-found-yard g c =
    let v = (c.loop.invariant.arrived c.requires.arrived.0 c.requires.arrived.1).visits in
    let r = v.lodges in
    let is = c.go.ensures.after (c.go.ensures.given.1 (ap (option_map (λ (o : Order). o.go)) v.order)) in
    let n = ap (λ (m : Machine). length m.system.processors) (is ∙ given (start_of c.args.yard.now.table.shared.key) c.loop.core c.loop.core.system r.cpu (core_is v) r.alone (its_era v)) in
    let one = ap (λ ps. length ps) r.alone in
    omega arith

pub returns-then-found-yard-clause-number : goal.returns-then-found-yard-clause-number
returns-then-found-yard-clause-number g c = c.loop.invariant.number

pub returns-then-found-yard-clause-done : goal.returns-then-found-yard-clause-done
returns-then-found-yard-clause-done g c =
    let r = (c.loop.invariant.arrived c.requires.arrived.0 c.requires.arrived.1).visits.lodges in
    let long = ap (λ (u : Start). length u.cpus) r.told in
    let counted = c.args.yard.now.counted in
    let is = c.if-found-yard.true in
    let turn = (passes_of r c.loop.self.no_root _ _ c.load-found.new.seat.me c.load-found.ensures.2).1 (omega arith) (its_guest r) r.holds in
    has_done r c.load-found.new.seat.me _ _ _ turn.0.0 ∙ c.loop.invariant.done

pub returns-then-found-yard-clause-passed : goal.returns-then-found-yard-clause-passed
returns-then-found-yard-clause-passed g c _ first before =
    let v = (c.loop.invariant.arrived first before).visits in
    let r = v.lodges in
    let e = c.load-found.ensures in
    let play = passes_of r c.loop.self.no_root _ _ c.load-found.new.seat.me c.load-found.ensures.2 in
    let t : Start = start_of c.args.yard.now.table.shared.key in
    let s : System = c.loop.core.system in
    let new = c.load-found.new.seat.me in
    let me = c.loop.self.seat.me in
    let long = ap (λ (u : Start). length u.cpus) r.told in
    let counted = c.args.yard.now.counted in
    let full = c.if-found-yard.true in
    let tells = play.1 (omega arith) in
    let arrived : r.cpu.phase ≡ Arrived = (tells (its_guest r) r.holds).1 in
    let turn : new.0 ≡ with_one me.0 (with_held (its_guest r) (does t Pass (its_guest r).held)) me.0.shown me.0.cancel =
    of_guest r (λ u y. new.0 ≡ with_one me.0 (with_held y (does u Pass y.held)) me.0.shown me.0.cancel) (λ y same. (tells y same).0.0) in
    let said = c.go.ensures.after (c.go.ensures.given.1 (ap (option_map (λ (o : Order). o.go)) v.order)) ∙ given t c.loop.core s r.cpu (core_is v) r.alone (its_era v) in
    let o = onward t Given s r.cpu Pass c.go.new.self c.step-then-found-yard.new.self said c.step-then-found-yard.ensures.after r.alone (its_era v) (passes_alone t r.cpu arrived) refl refl in
    record {
      visits = visits_on v Given Pass c.step-then-found-yard.new.self _ new (with_held (its_guest r) (does t Pass (its_guest r).held)) _ _ Once o (passes_alone t r.cpu arrived) e.0 play.0 turn (shifted_is r Pass Once o.q.cpu refl o.q.alone);
      phase = in_its_phase Passed c.step-then-found-yard.new.self.system o.q.cpu (ap (λ (m : Machine). m.system.processors) o.is ∙ o.q.alone) (ap (λ (x : Stage). x.0) o.q.stage);
    }

-- ---- none

pub loop-preserved : goal.loop-preserved
loop-preserved g c =
    let v0 = (c.loop.invariant.arrived c.requires.arrived.0 c.requires.arrived.1).visits in
    let e = c.load-found.ensures in
    let play = passes_of v0.lodges c.loop.self.no_root _ _ c.load-found.new.seat.me c.load-found.ensures.2 in
    let long = ap (λ (u : Start). length u.cpus) v0.lodges.told in
    let counted = c.args.yard.now.counted in
    let low = c.if-found-ge-CANCEL.false in
    let other = c.if-found-yard.false in
    let idle = play.3 (omega arith) (λ full. other (omega arith)) in
    record {
      arrived = λ first before.
          let h = c.loop.invariant.arrived first before in
          let v = h.visits in
          let r = v.lodges in
          record {
            visits = record {
              lodges = carried r _ c.load-found.new.seat.me (its_guest r) _ _ c.loop.core.system r.cpu Once e.0 play.0 (idle (its_guest r) r.holds).0 r.alone refl;
              order = v.order;
              era = v.era;
              one = v.one;
              quiet = v.quiet;
              enabled = v.enabled;
              rounds = v.rounds;
            };
            phase = h.phase;
            drained = h.drained;
          };
      number = c.loop.invariant.number;
      done = has_done v0.lodges c.load-found.new.seat.me (its_guest v0.lodges) _ _ (idle (its_guest v0.lodges) v0.lodges.holds).0 ∙ c.loop.invariant.done;
    }
