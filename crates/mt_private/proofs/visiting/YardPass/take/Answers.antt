use Rattle.std.proofs.Common.{◌≡◌, ◌∙◌, refl, ap, sym, subst, arith, ◌<◌, ◌-◌, ◌^◌, false, true, List, length, None, Some, Err, inl}
use Rattle.std.specs.Prelude.{IsSome}
use Rattle.mt_regs.specs.RegisterFile.{RegisterFile}
use Rattle.mt_regs.specs.Faults.{IsAccepted}
use Rattle.mt_regs.proofs.First.{one_first_fault_lem}
use Rattle.mt_machine.specs.declared.phase.Phase.TheVariants.{Running, Taken}
use Rattle.mt_machine.specs.declared.event.Event.TheVariants.{Take}
use Rattle.mt_machine.specs.declared.go.Go.TheVariants.{Pending}
use Rattle.mt_machine.specs.Bus.{drain}
use Rattle.mt_machine.specs.System.{Processor, System}
use Rattle.mt_machine.specs.Machine.{FitsGoal, Machine}
use Rattle.mt_machine.specs.Start.{IsQuiet}
use Rattle.mt_core.specs.declared.fault.CallFault.{CallFault}
use Rattle.mt_core.specs.declared.fault.CallFault.TheVariants.{Refused, UnderWay}
use Rattle.mt_core.proofs.Settling.{is_quiet_without_order}
use Rattle.mt_laws.proofs.Barrier.Stages.{Stage}
use Rattle.mt_rendezvous.specs.Station.{start_of}
use Rattle.mt_private.specs.declared.view.YardView.{YardView}
use Rattle.mt_private.proofs.Alone.{called, due_take, in_its_phase, in_phase_one, its_phase, one_all, one_drained, onward}
use Rattle.mt_private.proofs.Carried.{carried, has_done, its_guest, stepped_done, takes_kept, takes_of, took, visits_first}
use Rattle.mt_private.proofs.Residents.Plays.{takes_yard}
use Rattle.mt_rendezvous.specs.declared.view.Added.TheVariants.{Never}
use Rattle.mt_private.proofs.visiting.YardPass.take.Goals as goal

pub load-found-requires : goal.load-found-requires
load-found-requires c =
    let r = c.requires.ready.lodges in
    let w = c.args.yard.now.wide in
    (r.same, omega arith, takes_yard c.args.yard.now.table.shared.key _ _ c.args.self.now.seat.me (its_guest r) r.holds c.args.self.now.no_root refl (its_phase Running c.args.core.now.system r.cpu r.alone c.requires.ready.runs))

pub invariant_of-self-clause-known : goal.invariant_of-self-clause-known
invariant_of-self-clause-known c =
    let r = c.requires.ready.lodges in
    c.args.self.now.known ∙ sym (takes_kept r _ _ (takes_of r c.args.self.now.no_root _ _ c.load-found.new.seat.me c.load-found.ensures.2)).0

pub invariant_of-self-clause-no_root : goal.invariant_of-self-clause-no_root
invariant_of-self-clause-no_root c =
    let r = c.requires.ready.lodges in
    (takes_kept r _ _ (takes_of r c.args.self.now.no_root _ _ c.load-found.new.seat.me c.load-found.ensures.2)).1 ∙ c.args.self.now.no_root

pub returns-then-found-ge-CANCEL-clause-done : goal.returns-then-found-ge-CANCEL-clause-done
returns-then-found-ge-CANCEL-clause-done c =
    let r = c.requires.ready.lodges in
    let turn = ((takes_of r c.args.self.now.no_root _ _ c.load-found.new.seat.me c.load-found.ensures.2).2 c.if-found-ge-CANCEL.true) (its_guest r) r.holds in
    has_done r c.load-found.new.seat.me (its_guest r) _ _ turn.0

pub returns-then-found-ge-CANCEL-clause-left : goal.returns-then-found-ge-CANCEL-clause-left
returns-then-found-ge-CANCEL-clause-left c _ =
    let r = c.requires.ready.lodges in
    let e = c.load-found.ensures in
    let play = takes_of r c.args.self.now.no_root _ _ c.load-found.new.seat.me c.load-found.ensures.2 in
    let turn = (play.2 c.if-found-ge-CANCEL.true) (its_guest r) r.holds in
    record {
      lodges = (Never, carried r _ c.load-found.new.seat.me (its_guest r) _ _ c.args.core.now.system r.cpu Never e.0 play.0 turn.0 r.alone refl, refl);
      cancel = ap (λ (v : YardView). v.cancel) turn.0;
      left = inl refl;
    }

pub call-requires-clause-some : goal.call-requires-clause-some
call-requires-clause-some c = let n = ap (λ (ps : List Processor). length ps) c.requires.ready.lodges.alone in omega arith

pub call-requires-clause-fits : goal.call-requires-clause-fits
call-requires-clause-fits c =
    let r = c.requires.ready.lodges in
    let k = took r c.load-found.result c.load-found.new.seat.me (takes_of r c.args.self.now.no_root _ _ c.load-found.new.seat.me c.load-found.ensures.2).1 (let low = c.if-found-ge-CANCEL.false in omega arith) in
    one_all (FitsGoal c.args.goal.now) c.args.core.now.system.processors r.cpu r.alone (subst (λ (g : RegisterFile). FitsGoal g r.cpu) (sym c.requires.goal) k.2)

pub call-requires-clause-room : goal.call-requires-clause-room
call-requires-clause-room c =
    let r = c.requires.ready.lodges in
    let k = took r c.load-found.result c.load-found.new.seat.me (takes_of r c.args.self.now.no_root _ _ c.load-found.new.seat.me c.load-found.ensures.2).1 (let low = c.if-found-ge-CANCEL.false in omega arith) in
    let room = k.0.room in
    let era = k.3 in
    one_all (λ (p : Processor). p.era < 2 ^ 64 - 1) c.args.core.now.system.processors r.cpu r.alone (omega arith)

pub unreachable-requires : goal.unreachable-requires
unreachable-requires c = one c.in_default.field-0 c.in_default.is
  where
    one : (fault : CallFault) → c.call.result ≡ Err fault → ⊥
    one UnderWay is =
        let some : IsSome c.args.core.now.order = c.call.ensures.under_way.0 is in
        let bad : false ≡ true = subst IsSome c.requires.ready.idle some in
        cc
    one (Refused fault) is =
        let k = took c.requires.ready.lodges c.load-found.result c.load-found.new.seat.me (takes_of c.requires.ready.lodges c.args.self.now.no_root _ _ c.load-found.new.seat.me c.load-found.ensures.2).1 (let low = c.if-found-ge-CANCEL.false in omega arith) in
        let accepted : IsAccepted c.args.goal.now = subst IsAccepted (sym c.requires.goal) k.0.enabled.2 in
        let none : Some fault ≡ None = one_first_fault_lem c.args.goal.now (Some fault) None (c.call.ensures.refused fault is).1 accepted in
        cc

pub returns-clause-done : goal.returns-clause-done
returns-clause-done c =
    let r = c.requires.ready.lodges in
    let k = took r c.load-found.result c.load-found.new.seat.me (takes_of r c.args.self.now.no_root _ _ c.load-found.new.seat.me c.load-found.ensures.2).1 (let low = c.if-found-ge-CANCEL.false in omega arith) in
    has_done r c.load-found.new.seat.me _ _ _ k.1 ∙ stepped_done r (start_of c.args.yard.now.table.shared.key) Take

pub returns-clause-taken : goal.returns-clause-taken
returns-clause-taken c _ =
    let r = c.requires.ready.lodges in
    let e = c.load-found.ensures in
    let play = takes_of r c.args.self.now.no_root _ _ c.load-found.new.seat.me c.load-found.ensures.2 in
    let t = start_of c.args.yard.now.table.shared.key in
    let s : System = c.args.core.now.system in
    let k = took r c.load-found.result c.load-found.new.seat.me play.1 (let low = c.if-found-ge-CANCEL.false in omega arith) in
    let none = c.requires.ready.idle in
    let runs = its_phase Running s r.cpu r.alone c.requires.ready.runs in
    let o = onward t Pending s r.cpu Take c.call.new.self c.step.new.self
    (c.in-Ok.ensures.called.2 ∙ called t c.args.core.now c.args.goal.now r.cpu none r.alone k.3 c.requires.goal)
    c.step.ensures.after r.alone k.3 (due_take t Pending r.cpu runs k.3 refl) refl refl in
    let quiet = subst IsQuiet (λ i. record { system = s; order = none i }) (is_quiet_without_order c.args.core.now c.a_core_arises.ensures.arises none) in
    let fits = one_all (FitsGoal t.goal) s.processors r.cpu r.alone k.2 in
    let q = one_drained s r.cpu r.alone in
    let is = ap (λ (m : Machine). m.system) o.is in
    record {
      visits = visits_first r c.step.new.self _ c.load-found.new.seat.me _ _ quiet (refl, k.0.enabled.1, k.0.enabled.2, fits) o runs k.3 e.0 play.0 k.1;
      phase = in_its_phase Taken c.step.new.self.system o.q.cpu (ap (λ (z : System). z.processors) is ∙ o.q.alone) (ap (λ (x : Stage). x.0) o.q.stage);
      drained = (Taken, is ∙ in_phase_one Taken (drain 0 s) q.cpu q.alone);
    }
