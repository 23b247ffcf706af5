use Rattle.std.proofs.Common.{◌≡◌, ◌∙◌, refl, ap, sym, arith, ℕ, List, length, Some}
use Rattle.mt_machine.specs.declared.phase.Phase.TheVariants.{Arrived2, Running}
use Rattle.mt_machine.specs.declared.event.Event.TheVariants.{Release}
use Rattle.mt_machine.specs.declared.go.Go.TheVariants.{Given}
use Rattle.mt_machine.specs.System.{Processor, System}
use Rattle.mt_machine.specs.Machine.{Calls, Machine, next}
use Rattle.mt_machine.specs.Update.{updated}
use Rattle.mt_core.specs.Rounds.{ascending}
use Rattle.mt_core.specs.Steps.{step_after}
use Rattle.mt_core.proofs.Turns.{rounds_whole}
use Rattle.mt_laws.proofs.Barrier.Stages.{Stage}
use Rattle.mt_rendezvous.specs.declared.view.Start.{Start}
use Rattle.mt_rendezvous.specs.Station.{start_of}
use Rattle.mt_rendezvous.specs.Plays.{does}
use Rattle.mt_private.specs.declared.view.YardView.{YardView}
use Rattle.mt_private.specs.OneByOne.{at_rest}
use Rattle.mt_private.specs.Residents.{with_held}
use Rattle.mt_private.specs.YardRule.{with_one}
use Rattle.mt_private.proofs.Alone.{does_due, in_its_phase, its_phase, last_round, one_step, released_alone}
use Rattle.mt_private.proofs.Carried.{carried, core_is, guest, has_done, its_era, its_guest, of_guest, releases_kept, releases_of, shifted_is}
use Rattle.mt_private.proofs.Residents.Plays.{releases_yard}
use Rattle.mt_rendezvous.specs.declared.view.Added.TheVariants.{Twice}
use Rattle.mt_private.proofs.visiting.YardPass.wait_second.Goals as goal

pub loop-init : goal.loop-init
loop-init g c = record { arrived = λ first h. h; number = refl; done = refl }

pub load-found-requires : goal.load-found-requires
load-found-requires g c =
    let h = c.loop.invariant.arrived c.requires.arrived.0 c.requires.arrived.1 in
    let r = h.visits.lodges in
    let w = c.args.yard.now.wide in (
      r.same,
      omega arith,
      releases_yard c.args.yard.now.table.shared.key _ _ c.loop.self.seat.me (its_guest r) r.holds c.loop.self.no_root refl (its_phase Arrived2 c.loop.core.system r.cpu r.alone h.phase),
    )

pub invariant_of-self-clause-known : goal.invariant_of-self-clause-known
invariant_of-self-clause-known g c =
    let r = (c.loop.invariant.arrived c.requires.arrived.0 c.requires.arrived.1).visits.lodges in
    c.loop.self.known ∙ sym (releases_kept r _ _ (releases_of r c.loop.self.no_root _ _ c.load-found.new.seat.me c.load-found.ensures.2)).0

pub invariant_of-self-clause-no_root : goal.invariant_of-self-clause-no_root
invariant_of-self-clause-no_root g c =
    let r = (c.loop.invariant.arrived c.requires.arrived.0 c.requires.arrived.1).visits.lodges in
    (releases_kept r _ _ (releases_of r c.loop.self.no_root _ _ c.load-found.new.seat.me c.load-found.ensures.2)).1 ∙ c.loop.self.no_root

pub step-requires : goal.step-requires
step-requires g c = let n = ap (λ (ps : List Processor). length ps) (c.loop.invariant.arrived c.requires.arrived.0 c.requires.arrived.1).visits.lodges.alone in omega arith

pub returns-then-found-yard-clause-number : goal.returns-then-found-yard-clause-number
returns-then-found-yard-clause-number g c = c.loop.invariant.number

pub returns-then-found-yard-clause-done : goal.returns-then-found-yard-clause-done
returns-then-found-yard-clause-done g c =
    let r = (c.loop.invariant.arrived c.requires.arrived.0 c.requires.arrived.1).visits.lodges in
    let long = ap (λ (u : Start). length u.cpus) r.told in
    let counted = c.args.yard.now.counted in
    let full = c.if-found-yard.true in
    has_done r c.load-found.new.seat.me _ _ _ ((releases_of r c.loop.self.no_root _ _ c.load-found.new.seat.me c.load-found.ensures.2).1 (omega arith) (its_guest r) r.holds).0 ∙ c.loop.invariant.done

pub returns-then-found-yard-clause-released : goal.returns-then-found-yard-clause-released
returns-then-found-yard-clause-released g c =
    let h = c.loop.invariant.arrived c.requires.arrived.0 c.requires.arrived.1 in
    let v = h.visits in
    let r = v.lodges in
    let e = c.load-found.ensures in
    let play = releases_of r c.loop.self.no_root _ _ c.load-found.new.seat.me c.load-found.ensures.2 in
    let t : Start = start_of c.args.yard.now.table.shared.key in
    let s : System = c.loop.core.system in
    let new = c.load-found.new.seat.me in
    let me = c.loop.self.seat.me in
    let long = ap (λ (u : Start). length u.cpus) r.told in
    let counted = c.args.yard.now.counted in
    let full = c.if-found-yard.true in
    let tells = play.1 (omega arith) in
    let waits = its_phase Arrived2 s r.cpu r.alone h.phase in
    let is = ap (λ (m : Machine). m.system) (c.step.ensures.after ∙ ap (λ (m : Machine). step_after m 0) (core_is v) ∙ does_due t Given s r.cpu Release r.alone (released_alone t r.cpu waits)) in
    let q = one_step t.goal Release s r.cpu r.alone in
    let alone = ap (λ (z : System). z.processors) is ∙ q.alone in
    let turn : new.0 ≡ with_one me.0 (with_held (its_guest r) (does t Release (its_guest r).held)) (Some c.load-found.result) me.0.cancel =
    of_guest r (λ u y. new.0 ≡ with_one me.0 (with_held y (does u Release y.held)) (Some c.load-found.result) me.0.cancel) (λ y same. (tells y same).0) in
    record {
      lodges = carried r _ new (with_held (its_guest r) (does t Release (its_guest r).held)) _ _ c.step.new.self.system q.cpu Twice e.0 play.0 turn alone
          (shifted_is r Release Twice q.cpu refl q.alone ∙ ap (λ (z : System). guest c.loop.self.number q.cpu Twice z.memory (its_guest r).done (its_guest r).stored) (sym is));
      runs = in_its_phase Running c.step.new.self.system q.cpu alone (ap (λ (x : Stage). x.0) q.stage);
      shown = ap (λ (u : YardView). u.shown) (tells (its_guest r) r.holds).0 ∙ ap (λ (n : ℕ). Some n) full;
    }

pub returns-then-found-yard-clause-whole : goal.returns-then-found-yard-clause-whole
returns-then-found-yard-clause-whole g c first before =
    let h = c.loop.invariant.arrived first before in
    let v = h.visits in
    let r = v.lodges in
    let t : Start = start_of c.args.yard.now.table.shared.key in
    let s : System = c.loop.core.system in
    let waits = its_phase Arrived2 s r.cpu r.alone h.phase in
    let rounds = v.rounds c.step.new.self (last_round t c.loop.core c.step.new.self s r.cpu (core_is v) c.step.ensures.after r.alone waits (its_era v)) in
    rounds_whole (next (at_rest first) (Calls t.goal)) c.step.new.self rounds (at_rest first) t.goal v.quiet v.enabled refl
    ∙ ap (λ (n : ℕ). updated first (ascending n) t.goal) v.one

pub loop-preserved : goal.loop-preserved
loop-preserved g c =
    let v0 = (c.loop.invariant.arrived c.requires.arrived.0 c.requires.arrived.1).visits in
    let e = c.load-found.ensures in
    let play = releases_of v0.lodges c.loop.self.no_root _ _ c.load-found.new.seat.me c.load-found.ensures.2 in
    let long = ap (λ (u : Start). length u.cpus) v0.lodges.told in
    let counted = c.args.yard.now.counted in
    let other = c.if-found-yard.false in
    let idle = play.2 (λ full. other (omega arith)) in
    record {
      arrived = λ first before.
          let h = c.loop.invariant.arrived first before in
          let v = h.visits in
          let r = v.lodges in
          record {
            visits = record {
              lodges = carried r _ c.load-found.new.seat.me (its_guest r) _ _ c.loop.core.system r.cpu Twice e.0 play.0 (idle (its_guest r) r.holds).0 r.alone refl;
              order = v.order;
              era = v.era;
              one = v.one;
              quiet = v.quiet;
              enabled = v.enabled;
              rounds = v.rounds;
            };
            phase = h.phase;
          };
      number = c.loop.invariant.number;
      done = has_done v0.lodges c.load-found.new.seat.me (its_guest v0.lodges) _ _ (idle (its_guest v0.lodges) v0.lodges.holds).0 ∙ c.loop.invariant.done;
    }
