use Rattle.std.proofs.Common.{◌≡◌, ◌∙◌, refl, ap, sym, arith, [], ◌∷◌, inl, inr}
use Rattle.mt_machine.specs.declared.phase.Phase.TheVariants.{Arrived, Taken}
use Rattle.mt_machine.specs.declared.event.Event.TheVariants.{Arrive}
use Rattle.mt_machine.specs.declared.go.Go.TheVariants.{Given, Pending}
use Rattle.mt_machine.specs.System.{System}
use Rattle.mt_machine.specs.Machine.{Machine}
use Rattle.mt_laws.proofs.Barrier.Stages.{Stage}
use Rattle.mt_rendezvous.specs.Station.{start_of}
use Rattle.mt_rendezvous.specs.Plays.{arrive, late}
use Rattle.mt_rendezvous.proofs.Steps.{due_arrive}
use Rattle.mt_private.specs.Residents.{with_held}
use Rattle.mt_private.specs.YardRule.{with_one}
use Rattle.mt_private.proofs.Alone.{in_its_phase, its_phase, onward, taken_on}
use Rattle.mt_private.proofs.Carried.{arrives_added, arrives_kept, arrives_of, carried, core_is, has_done, its_era, its_guest, of_guest, shifted_is, visits_on}
use Rattle.mt_private.proofs.Residents.Plays.{arrives_yard}
use Rattle.mt_rendezvous.specs.declared.view.Added.TheVariants.{Once}
use Rattle.mt_private.proofs.visiting.YardPass.arrive.Goals as goal

pub fetch_add-found-requires : goal.fetch_add-found-requires
fetch_add-found-requires c =
    let r = c.requires.taken.1.visits.lodges in
    let w = c.args.yard.now.wide in
    (r.same, omega arith, arrives_yard c.args.yard.now.table.shared.key _ _ c.args.self.now.seat.me (its_guest r) r.holds c.args.self.now.no_root refl (its_phase Taken c.args.core.now.system r.cpu r.alone c.requires.taken.1.phase))

pub of-token-requires : goal.of-token-requires
of-token-requires c =
    let r = c.requires.taken.1.visits.lodges in
    record { added = arrives_added r _ _ (arrives_of r c.args.self.now.no_root _ _ c.fetch_add-found.new.seat.me c.fetch_add-found.ensures.2) }

pub invariant_of-self-clause-known : goal.invariant_of-self-clause-known
invariant_of-self-clause-known c =
    let r = c.requires.taken.1.visits.lodges in
    c.args.self.now.known ∙ sym (arrives_kept r _ _ (arrives_of r c.args.self.now.no_root _ _ c.fetch_add-found.new.seat.me c.fetch_add-found.ensures.2)).0

pub invariant_of-self-clause-no_root : goal.invariant_of-self-clause-no_root
invariant_of-self-clause-no_root c =
    let r = c.requires.taken.1.visits.lodges in
    (arrives_kept r _ _ (arrives_of r c.args.self.now.no_root _ _ c.fetch_add-found.new.seat.me c.fetch_add-found.ensures.2)).1 ∙ c.args.self.now.no_root

pub returns-then-found-lt-CANCEL-clause-done : goal.returns-then-found-lt-CANCEL-clause-done
returns-then-found-lt-CANCEL-clause-done c =
    let r = c.requires.taken.1.visits.lodges in
    let turn = (arrives_of r c.args.self.now.no_root _ _ c.fetch_add-found.new.seat.me c.fetch_add-found.ensures.2).1 c.if-found-lt-CANCEL.true (its_guest r) r.holds in
    has_done r c.fetch_add-found.new.seat.me _ _ _ turn.0

pub returns-then-found-lt-CANCEL-clause-arrived : goal.returns-then-found-lt-CANCEL-clause-arrived
returns-then-found-lt-CANCEL-clause-arrived c first h =
    let v = h.visits in
    let r = v.lodges in
    let e = c.fetch_add-found.ensures in
    let play = arrives_of r c.args.self.now.no_root _ _ c.fetch_add-found.new.seat.me c.fetch_add-found.ensures.2 in
    let t = start_of c.args.yard.now.table.shared.key in
    let s : System = c.args.core.now.system in
    let new = c.fetch_add-found.new.seat.me in
    let me = c.args.self.now.seat.me in
    let taken = its_phase Taken s r.cpu r.alone h.phase in
    let turn : new.0 ≡ with_one me.0 (with_held (its_guest r) (arrive t (its_guest r).held)) me.0.shown me.0.cancel =
    of_guest r (λ u y. new.0 ≡ with_one me.0 (with_held y (arrive u y.held)) me.0.shown me.0.cancel) (λ y same. (play.1 c.if-found-lt-CANCEL.true y same).0) in
    let o = onward t Pending s r.cpu Arrive c.args.core.now c.step.new.self (core_is v) c.step.ensures.after r.alone (its_era v) (due_arrive t Pending (r.cpu ∷ []) r.cpu taken (λ h. absurd (cc))) refl refl in
    record {
      visits = visits_on v Pending Arrive c.step.new.self _ new (with_held (its_guest r) (arrive t (its_guest r).held)) _ _ Once o (due_arrive t Given (r.cpu ∷ []) r.cpu taken (λ h. absurd (cc))) e.0 play.0 turn
          (shifted_is r Arrive Once o.q.cpu refl o.q.alone);
      phase = inr (in_its_phase Arrived c.step.new.self.system o.q.cpu (ap (λ (m : Machine). m.system.processors) o.is ∙ o.q.alone) (ap (λ (x : Stage). x.0) o.q.stage));
      drained = (Arrived, ap (λ (m : Machine). m.system) o.is ∙ taken_on Arrived first s r.cpu r.alone h.drained);
    }

pub returns-clause-done : goal.returns-clause-done
returns-clause-done c =
    let r = c.requires.taken.1.visits.lodges in
    let turn = (arrives_of r c.args.self.now.no_root _ _ c.fetch_add-found.new.seat.me c.fetch_add-found.ensures.2).2 (let high = c.if-found-lt-CANCEL.false in omega arith) (its_guest r) r.holds in
    has_done r c.fetch_add-found.new.seat.me _ _ _ turn.0

pub returns-clause-arrived : goal.returns-clause-arrived
returns-clause-arrived c first h =
    let v = h.visits in
    let r = v.lodges in
    let e = c.fetch_add-found.ensures in
    let play = arrives_of r c.args.self.now.no_root _ _ c.fetch_add-found.new.seat.me c.fetch_add-found.ensures.2 in
    let turn = play.2 (let high = c.if-found-lt-CANCEL.false in omega arith) (its_guest r) r.holds in
    record {
      visits = record {
        lodges = carried r _ c.fetch_add-found.new.seat.me (with_held (its_guest r) (late (its_guest r).held)) _ _ c.args.core.now.system r.cpu Once e.0 play.0 turn.0 r.alone refl;
        order = v.order;
        era = v.era;
        one = v.one;
        quiet = v.quiet;
        enabled = v.enabled;
        rounds = v.rounds;
      };
      phase = inl h.phase;
      drained = h.drained;
    }
