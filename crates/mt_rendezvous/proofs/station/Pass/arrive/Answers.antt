use Rattle.std.proofs.Common.{map, refl, subst, sym, ap, ◌∙◌, inl, inr, arith}
use Rattle.mt_machine.specs.declared.phase.Phase.{Phase}
use Rattle.mt_machine.specs.System.{Processor}
use Rattle.mt_rendezvous.specs.declared.view.View.{View}
use Rattle.mt_rendezvous.specs.Station.{Begins, held}
use Rattle.mt_rendezvous.specs.Plays.{arrive, late}
use Rattle.mt_rendezvous.proofs.Told.{arrives_told}
use Rattle.std.proofs.Common.{◌≡◌, Some}
use Rattle.std.specs.Prelude.{slice_get}
use Rattle.mt_rendezvous.proofs.Carried.{carried, of_it}
use Rattle.mt_rendezvous.specs.declared.view.Added.TheVariants.{Once}
use Rattle.mt_rendezvous.proofs.station.Pass.arrive.Goals as goal

pub fetch_add-found-requires : goal.fetch_add-found-requires
fetch_add-found-requires c = let r = c.requires.carries in let w = c.args.station.now.wide in
    (r.same, omega arith, arrives_told c.args.station.now.table.shared.key _ _ c.args.self.now.number c.args.self.now.seat.me c.args.cpu.now c.args.self.now.no_root r.holds c.requires.taken)

pub returns-then-found-lt-CANCEL-clause-arrived : goal.returns-then-found-lt-CANCEL-clause-arrived
returns-then-found-lt-CANCEL-clause-arrived c =
    let e = c.fetch_add-found.ensures in
    let tells = (e.2.1 c.args.self.now.no_root).1 in
    let moves = (tells.3 c.if-found-lt-CANCEL.true).0 in
    let is = c.shift.ensures c.args.station.now.table.shared.key.goal.value in record {
      begins = subst Begins c.requires.carries.told tells.1;
      carries = carried c.requires.carries _ _ c.shift.new.self Once arrive e.0 tells.0 (ap (λ (v : View). v.held) moves) (ap (λ (v : View). v.start) moves)
          (ap (λ (p : Processor). held c.args.self.now.number p Once) (sym is));
      waits = inr (ap (λ (p : Processor). p.phase) is);
    }

pub returns-clause-arrived : goal.returns-clause-arrived
returns-clause-arrived c =
    let e = c.fetch_add-found.ensures in
    let tells = (e.2.1 c.args.self.now.no_root).1 in
    let late_came = c.if-found-lt-CANCEL.false in
    let moves = (tells.4 (omega arith)).0 in record {
      begins = subst Begins c.requires.carries.told tells.1;
      carries = carried c.requires.carries _ _ c.args.cpu.now Once (λ t. late) e.0 tells.0 (ap (λ (v : View). v.held) moves) (ap (λ (v : View). v.start) moves) refl;
      waits = inl c.requires.taken;
    }

pub returns-then-found-lt-CANCEL-clause-same : goal.returns-then-found-lt-CANCEL-clause-same
returns-then-found-lt-CANCEL-clause-same c =
    let is = c.shift.ensures c.args.station.now.table.shared.key.goal.value in
    is ∙ ap (λ (ph : Phase). record c.args.cpu.now { phase = ph }) (sym (ap (λ (p : Processor). p.phase) is))

pub returns-then-found-lt-CANCEL-clause-first : goal.returns-then-found-lt-CANCEL-clause-first
returns-then-found-lt-CANCEL-clause-first c = of_it c.requires.carries (λ t h. slice_get t.cpus h.number ≡ Some h.cpu) (c.fetch_add-found.ensures.2.1 c.args.self.now.no_root).1.2

pub returns-clause-first : goal.returns-clause-first
returns-clause-first c = of_it c.requires.carries (λ t h. slice_get t.cpus h.number ≡ Some h.cpu) (c.fetch_add-found.ensures.2.1 c.args.self.now.no_root).1.2

-- the pass has added by then
pub of-requires : goal.of-requires
of-requires c =
    let moves = ((c.fetch_add-found.ensures.2.1 c.args.self.now.no_root).1.3 c.if-found-lt-CANCEL.true).0 in
    record { added = (_, ap (λ (v : View). v.held) moves ∙ ap (map (arrive c.args.self.now.seat.me.0.start)) c.requires.carries.holds, refl) }
