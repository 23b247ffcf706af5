use Rattle.std.proofs.Common.{◌≡◌, ◌∙◌, refl, ap, sym, arith, ℕ, ◌+◌, ◌%◌, true, List, [], ◌∷◌, Some}
use Rattle.mt_machine.specs.declared.phase.Phase.{Phase}
use Rattle.mt_machine.specs.declared.event.Event.{Event}
use Rattle.mt_machine.specs.declared.event.Event.TheVariants.{SetNoFill}
use Rattle.mt_machine.specs.declared.go.Go.TheVariants.{Given}
use Rattle.mt_machine.specs.System.{Processor, System}
use Rattle.mt_machine.specs.Machine.{Machine, Order, due, is_changing, own_step, step}
use Rattle.mt_cpu.specs.Steps.{is_local}
use Rattle.mt_laws.proofs.Barrier.Stages.{Stage}
use Rattle.mt_rendezvous.specs.declared.view.Start.{Start}
use Rattle.mt_rendezvous.specs.Station.{order_of, start_of}
use Rattle.mt_rendezvous.specs.Plays.{own_event}
use Rattle.mt_rendezvous.proofs.Local.{due_alone, works_in}
use Rattle.mt_private.specs.declared.view.Resident.{Resident}
use Rattle.mt_private.specs.declared.view.YardView.{YardView}
use Rattle.mt_private.specs.Residents.{stepped_by, with_stored}
use Rattle.mt_private.specs.YardRule.{with_one}
use Rattle.mt_private.specs.YardCalls.{AreIn}
use Rattle.mt_private.proofs.Alone.{in_its_phase, its_phase, onward}
use Rattle.mt_private.proofs.Carried.{core_is, guest, has_done, has_stored, its_era, its_guest, of_guest, stepped_done, stepped_is, visits_on, works_of}
use Rattle.mt_private.proofs.Residents.Plays.{works_yard}
use Rattle.mt_rendezvous.specs.declared.view.Added.TheVariants.{Once}
use Rattle.mt_private.proofs.visiting.YardPass.work.Goals as goal

-- its event, whatever else there is
is_due : (t : Start) (p : Processor) → is_local p.phase ≡ true → (o : Order) (ps : List Processor) → due o ps p p.phase ≡ Some (own_event t p)
is_due t p local o ps = due_alone o (order_of t Given) ps [] p SetNoFill p.phase local

keeps : (t : Start) (p : Processor) → is_local p.phase ≡ true → (is_changing (own_step t.goal (own_event t p) p).phase ≡ true) × ((own_step t.goal (own_event t p) p).era ≡ p.era)
keeps t p local = let w = works_in t.goal p (own_event t p) p.phase refl local (is_due t p local) (order_of t Given) in (w.0, w.1)

local_at : (s : System) (p : Processor) (ph : Phase) → s.processors ≡ p ∷ [] → AreIn ph s → is_local ph ≡ true → is_local p.phase ≡ true
local_at s p ph alone here local = ap is_local (its_phase ph s p alone here) ∙ local

pub store-requires : goal.store-requires
store-requires c =
    let r = c.requires.between.1.visits.lodges in
    let b = c.requires.local in
    let w = c.args.yard.now.wide in
    let n = c.args.yard.now.counted in
    let below = r.below in
    (r.same, omega arith, works_yard c.args.yard.now.table.shared.key _ _ c.args.self.now.seat.me (its_guest r) r.holds c.args.self.now.no_root _ _ refl refl (local_at c.args.core.now.system r.cpu b.0 r.alone b.1 b.2))

pub invariant_of-self-clause-known : goal.invariant_of-self-clause-known
invariant_of-self-clause-known c =
    let r = c.requires.between.1.visits.lodges in
    sym (has_stored r c.store.new.seat.me _ _ _ ((works_of r c.args.self.now.no_root _ _ _ refl c.store.new.seat.me c.store.ensures.2).1 (its_guest r) r.holds).0)

pub invariant_of-self-clause-no_root : goal.invariant_of-self-clause-no_root
invariant_of-self-clause-no_root c =
    let r = c.requires.between.1.visits.lodges in
    ap (λ (v : YardView). v.root) ((works_of r c.args.self.now.no_root _ _ _ refl c.store.new.seat.me c.store.ensures.2).1 (its_guest r) r.holds).0 ∙ c.args.self.now.no_root

pub returns-clause-done : goal.returns-clause-done
returns-clause-done c =
    let r = c.requires.between.1.visits.lodges in
    let turn = (works_of r c.args.self.now.no_root _ _ _ refl c.store.new.seat.me c.store.ensures.2).1 (its_guest r) r.holds in
    has_done r c.store.new.seat.me _ _ _ turn.0 ∙ stepped_done r c.args.self.now.seat.me.0.start (own_event c.args.self.now.seat.me.0.start r.cpu)

pub returns-clause-between : goal.returns-clause-between
returns-clause-between c first h =
    let v = h.visits in
    let r = v.lodges in
    let e = c.store.ensures in
    let play = works_of r c.args.self.now.no_root _ _ _ refl c.store.new.seat.me c.store.ensures.2 in
    let t : Start = start_of c.args.yard.now.table.shared.key in
    let s : System = c.args.core.now.system in
    let new = c.store.new.seat.me in
    let me = c.args.self.now.seat.me in
    let b = c.requires.local in
    let local = local_at s r.cpu b.0 r.alone b.1 b.2 in
    let event : Event = own_event t r.cpu in
    let n : ℕ = (c.args.self.now.stored + 1) % 18446744073709551616 in
    let turn : new.0 ≡ with_one me.0 (with_stored (stepped_by t event (its_guest r)) n) me.0.shown me.0.cancel =
    of_guest r (λ u y. new.0 ≡ with_one me.0 (with_stored (stepped_by u (own_event u y.held.cpu) y) n) me.0.shown me.0.cancel) (λ y same. (play.1 y same).0) in
    let o = onward t Given s r.cpu event c.args.core.now c.step.new.self (core_is v) c.step.ensures.after r.alone (its_era v) (is_due t r.cpu local (order_of t Given) (r.cpu ∷ [])) (keeps t r.cpu local).1 refl in
    let is = stepped_is r event o.q.cpu o.q.alone in
    record {
      visits = visits_on v Given event c.step.new.self _ new (with_stored (stepped_by t event (its_guest r)) n) _ _ Once o (is_due t r.cpu local (order_of t Given) (r.cpu ∷ [])) e.0 play.0 turn
          (ap (λ (y : Resident). with_stored y n) is
          ∙ (λ i. guest c.args.self.now.number o.q.cpu Once (step t.goal event 0 s).memory ((sym is i).done) n));
      phase = (
        o.q.cpu.phase,
        in_its_phase o.q.cpu.phase c.step.new.self.system o.q.cpu (ap (λ (m : Machine). m.system.processors) o.is ∙ o.q.alone) refl,
        ap (λ (x : Stage). is_changing x.0) o.q.stage ∙ (keeps t r.cpu local).0,
      );
    }

pub returns-clause-after : goal.returns-clause-after
returns-clause-after c = c.step.ensures.after
