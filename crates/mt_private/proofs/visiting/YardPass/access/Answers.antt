use Rattle.std.proofs.Common.{◌≡◌, ◌∙◌, refl, ap, sym, subst, arith, ℕ, Bool, [], ◌∷◌, Option, ⊎_elim}
use Rattle.atomic_table.specs.Seated.{TableId}
use Rattle.mt_machine.specs.declared.op.Op.{Op}
use Rattle.mt_machine.specs.declared.phase.Phase.TheVariants.{Running}
use Rattle.mt_machine.specs.Access.{access}
use Rattle.mt_machine.specs.Machine.{Machine}
use Rattle.mt_machine.specs.System.{Processor, System}
use Rattle.mt_laws.proofs.Barrier.Stages.{Stage}
use Rattle.mt_rendezvous.specs.declared.view.Added.{Added}
use Rattle.mt_rendezvous.specs.declared.view.Added.TheVariants.{Never, Twice}
use Rattle.mt_rendezvous.specs.Calls.{PassOf}
use Rattle.mt_private.specs.declared.host.Yard.{Yard}
use Rattle.mt_private.specs.declared.view.YardView.{YardView}
use Rattle.mt_private.specs.declared.visiting.YardPass.{YardPass}
use Rattle.mt_private.specs.InYard.{HasNotTaken, IsOutside, IsReleased, LodgesIn}
use Rattle.mt_private.specs.Residents.{accessed_by, with_stored}
use Rattle.mt_private.specs.YardCalls.{AreIn, Lodges}
use Rattle.mt_private.specs.YardPlays.{YardSat}
use Rattle.mt_private.specs.YardRule.{with_one}
use Rattle.mt_private.proofs.Alone.{in_its_phase, its_phase, one_access}
use Rattle.mt_private.proofs.Carried.{accessed_is, accesses_of, carried, has_done, has_stored, its_guest, restored}
use Rattle.mt_private.proofs.Residents.Plays.{accesses_yard}
use Rattle.mt_private.proofs.visiting.YardPass.access.Goals as goal

-- in both states the seat lodges the resident, and the processor runs
lodged : (yard : Yard) (pass : YardPass) (core : Machine) → IsOutside yard pass core → (added : Added) × LodgesIn yard pass core.system added
lodged yard pass core o = ⊎_elim (λ (h : HasNotTaken yard pass core). (Never, h.lodges)) (λ (h : IsReleased yard pass core). (Twice, h.lodges)) o

runs : (yard : Yard) (pass : YardPass) (core : Machine) → IsOutside yard pass core → AreIn Running core.system
runs yard pass core o = ⊎_elim (λ (h : HasNotTaken yard pass core). h.runs) (λ (h : IsReleased yard pass core). h.runs) o

-- so it is after the access
lodges_on : {seat : PassOf YardSat} {own : System} {added : Added} (r : Lodges seat own added) (its : TableId) (new : YardSat) (op : Op) (n : ℕ) (shown : Option ℕ) (cancel : Bool) (after : Machine)
    → its ≡ seat.its → new.1 ≡ seat.me.1 → new.0 ≡ with_one seat.me.0 (with_stored (accessed_by op (its_guest r)) n) shown cancel → after.system ≡ (access own 0 op).after → Lodges (record seat { its = its; me = new }) after.system added
lodges_on {seat = seat} {own = own} {added = added} r its new op n shown cancel after same bare turn is =
    let q = one_access op own r.cpu r.alone in
    subst (λ (z : System). Lodges (record seat { its = its; me = new }) z added) (sym is)
    (carried r its new (with_stored (accessed_by op (its_guest r)) n) shown cancel (access own 0 op).after q.cpu added same bare turn q.alone (restored _ _ _ (accessed_is r op q.cpu q.alone)))

runs_on : (own : System) (p : Processor) (op : Op) (after : Machine) → own.processors ≡ p ∷ [] → AreIn Running own → after.system ≡ (access own 0 op).after → AreIn Running after.system
runs_on own p op after alone here is =
    let q = one_access op own p alone in
    subst (AreIn Running) (sym is) (in_its_phase Running (access own 0 op).after q.cpu q.alone (ap (λ (x : Stage). x.0) q.stage ∙ its_phase Running own p alone here))

pub compare_exchange_with-requires : goal.compare_exchange_with-requires
compare_exchange_with-requires c =
    let r = (lodged _ _ _ c.requires.outside).1 in
    let w = c.args.yard.now.wide in
    let n = c.args.yard.now.counted in
    let b = r.below in
    (r.same, omega arith, accesses_yard c.args.yard.now.table.shared.key _ _ c.args.self.now.seat.me (its_guest r) r.holds c.args.self.now.no_root _ _ _ c.args.op refl (its_phase Running c.args.core.now.system r.cpu r.alone (runs _ _ _ c.requires.outside)) c.requires.fits)

pub invariant_of-self-clause-known : goal.invariant_of-self-clause-known
invariant_of-self-clause-known c =
    let r = (lodged _ _ _ c.requires.outside).1 in
    let tells = accesses_of r c.args.self.now.no_root _ _ _ _ c.args.op refl c.compare_exchange_with.result c.compare_exchange_with.new.seat.me c.compare_exchange_with.ensures.2 in
    sym (has_stored r c.compare_exchange_with.new.seat.me _ _ _ (tells.1 (tells.3 (its_guest r) r.holds ∙ sym c.args.self.now.known) c.args.op refl (its_guest r) r.holds).0)

pub invariant_of-self-clause-no_root : goal.invariant_of-self-clause-no_root
invariant_of-self-clause-no_root c =
    let r = (lodged _ _ _ c.requires.outside).1 in
    let tells = accesses_of r c.args.self.now.no_root _ _ _ _ c.args.op refl c.compare_exchange_with.result c.compare_exchange_with.new.seat.me c.compare_exchange_with.ensures.2 in
    ap (λ (v : YardView). v.root) (tells.1 (tells.3 (its_guest r) r.holds ∙ sym c.args.self.now.known) c.args.op refl (its_guest r) r.holds).0 ∙ c.args.self.now.no_root

pub returns-clause-not_taken : goal.returns-clause-not_taken
returns-clause-not_taken c h =
    let r = h.lodges in
    let e = c.compare_exchange_with.ensures in
    let tells = accesses_of r c.args.self.now.no_root _ _ _ _ c.args.op refl c.compare_exchange_with.result c.compare_exchange_with.new.seat.me e.2 in
    let turn = tells.1 (tells.3 (its_guest r) r.holds ∙ sym c.args.self.now.known) c.args.op refl (its_guest r) r.holds in
    let after = ap (λ (m : Machine). m.system) c.access.ensures.after in
    record {
      lodges = lodges_on r _ c.compare_exchange_with.new.seat.me c.args.op _ _ _ c.access.new.self e.0 tells.0 turn.0 after;
      runs = runs_on c.args.core.now.system r.cpu c.args.op c.access.new.self r.alone h.runs after;
      idle = ap (λ (m : Machine). m.order) c.access.ensures.after ∙ h.idle;
    }

pub returns-clause-released : goal.returns-clause-released
returns-clause-released c h =
    let r = h.lodges in
    let e = c.compare_exchange_with.ensures in
    let tells = accesses_of r c.args.self.now.no_root _ _ _ _ c.args.op refl c.compare_exchange_with.result c.compare_exchange_with.new.seat.me e.2 in
    let turn = tells.1 (tells.3 (its_guest r) r.holds ∙ sym c.args.self.now.known) c.args.op refl (its_guest r) r.holds in
    let after = ap (λ (m : Machine). m.system) c.access.ensures.after in
    record {
      lodges = lodges_on r _ c.compare_exchange_with.new.seat.me c.args.op _ _ _ c.access.new.self e.0 tells.0 turn.0 after;
      runs = runs_on c.args.core.now.system r.cpu c.args.op c.access.new.self r.alone h.runs after;
      shown = ap (λ (v : YardView). v.shown) turn.0 ∙ h.shown;
    }

pub returns-clause-done : goal.returns-clause-done
returns-clause-done c =
    let r = (lodged _ _ _ c.requires.outside).1 in
    let tells = accesses_of r c.args.self.now.no_root _ _ _ _ c.args.op refl c.compare_exchange_with.result c.compare_exchange_with.new.seat.me c.compare_exchange_with.ensures.2 in
    let turn = tells.1 (tells.3 (its_guest r) r.holds ∙ sym c.args.self.now.known) c.args.op refl (its_guest r) r.holds in
    has_done r c.compare_exchange_with.new.seat.me _ _ _ turn.0
