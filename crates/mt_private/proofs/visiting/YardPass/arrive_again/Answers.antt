use Rattle.std.proofs.Common.{◌≡◌, ◌∙◌, refl, ap, sym, arith, [], ◌∷◌}
use Rattle.mt_machine.specs.declared.phase.Phase.TheVariants.{Arrived2, Restored}
use Rattle.mt_machine.specs.declared.event.Event.TheVariants.{ArriveAgain}
use Rattle.mt_machine.specs.declared.go.Go.TheVariants.{Given}
use Rattle.mt_machine.specs.System.{System}
use Rattle.mt_machine.specs.Machine.{Machine, due}
use Rattle.mt_laws.proofs.Barrier.Stages.{Stage}
use Rattle.mt_rendezvous.specs.declared.view.Start.{Start}
use Rattle.mt_rendezvous.specs.Station.{order_of, start_of}
use Rattle.mt_rendezvous.specs.Plays.{arrive_again}
use Rattle.mt_private.specs.Residents.{with_held}
use Rattle.mt_private.specs.YardRule.{with_one}
use Rattle.mt_private.proofs.Alone.{in_its_phase, its_phase, onward}
use Rattle.mt_private.proofs.Carried.{arrives_again_kept, arrives_again_of, core_is, has_done, its_era, its_guest, of_guest, shifted_is, visits_on}
use Rattle.mt_private.proofs.Residents.Plays.{arrives_again_yard}
use Rattle.mt_rendezvous.specs.declared.view.Added.TheVariants.{Twice}
use Rattle.mt_private.proofs.visiting.YardPass.arrive_again.Goals as goal

pub fetch_add-requires : goal.fetch_add-requires
fetch_add-requires c =
    let r = c.requires.between.1.visits.lodges in
    let w = c.args.yard.now.wide in
    (r.same, omega arith, arrives_again_yard c.args.yard.now.table.shared.key _ _ c.args.self.now.seat.me (its_guest r) r.holds c.args.self.now.no_root refl (its_phase Restored c.args.core.now.system r.cpu r.alone c.requires.restored))

pub invariant_of-self-clause-known : goal.invariant_of-self-clause-known
invariant_of-self-clause-known c =
    let r = c.requires.between.1.visits.lodges in
    c.args.self.now.known ∙ sym (arrives_again_kept r 0 _ (arrives_again_of r c.args.self.now.no_root _ _ c.fetch_add.new.seat.me c.fetch_add.ensures.2)).0

pub invariant_of-self-clause-no_root : goal.invariant_of-self-clause-no_root
invariant_of-self-clause-no_root c =
    let r = c.requires.between.1.visits.lodges in
    (arrives_again_kept r 0 _ (arrives_again_of r c.args.self.now.no_root _ _ c.fetch_add.new.seat.me c.fetch_add.ensures.2)).1 ∙ c.args.self.now.no_root

pub returns-clause-done : goal.returns-clause-done
returns-clause-done c =
    let r = c.requires.between.1.visits.lodges in
    has_done r c.fetch_add.new.seat.me _ _ _ ((arrives_again_of r c.args.self.now.no_root _ _ c.fetch_add.new.seat.me c.fetch_add.ensures.2).1 (its_guest r) r.holds).0

pub returns-clause-arrived : goal.returns-clause-arrived
returns-clause-arrived c first h =
    let v = h.visits in
    let r = v.lodges in
    let e = c.fetch_add.ensures in
    let play = arrives_again_of r c.args.self.now.no_root _ _ c.fetch_add.new.seat.me c.fetch_add.ensures.2 in
    let t : Start = start_of c.args.yard.now.table.shared.key in
    let s : System = c.args.core.now.system in
    let new = c.fetch_add.new.seat.me in
    let me = c.args.self.now.seat.me in
    let is = ap (due (order_of t Given) (r.cpu ∷ []) r.cpu) (its_phase Restored s r.cpu r.alone c.requires.restored) in
    let turn : new.0 ≡ with_one me.0 (with_held (its_guest r) (arrive_again t (its_guest r).held)) me.0.shown me.0.cancel =
    of_guest r (λ u y. new.0 ≡ with_one me.0 (with_held y (arrive_again u y.held)) me.0.shown me.0.cancel) (λ y same. (play.1 y same).0) in
    let o = onward t Given s r.cpu ArriveAgain c.args.core.now c.step.new.self (core_is v) c.step.ensures.after r.alone (its_era v) is refl refl in
    record {
      visits = visits_on v Given ArriveAgain c.step.new.self _ new (with_held (its_guest r) (arrive_again t (its_guest r).held)) _ _ Twice o is e.0 play.0 turn (shifted_is r ArriveAgain Twice o.q.cpu refl o.q.alone);
      phase = in_its_phase Arrived2 c.step.new.self.system o.q.cpu (ap (λ (m : Machine). m.system.processors) o.is ∙ o.q.alone) (ap (λ (x : Stage). x.0) o.q.stage);
    }
