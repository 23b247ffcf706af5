use Rattle.std.proofs.Common.{◌≡◌, ap, subst, sym, ◌-◌, None, rules}
use Rattle.mt_regs.specs.Faults.{IsAccepted}
use Rattle.mt_machine.specs.System.{System}
use Rattle.mt_machine.specs.Machine.{Machine}
use Rattle.mt_rendezvous.specs.declared.view.Start.{Start}
use Rattle.mt_rendezvous.specs.Calls.{gathered}
use Rattle.mt_private.specs.Residents.{Opens}
use Rattle.mt_private.proofs.Causes.{opens_of, private_where_none}
use Rattle.mt_thread_tests.proofs.yard_tests.gather_of.Goals as goal

pub gather-requires : goal.gather-requires
gather-requires c =
    let m : Machine = c.args.core in
    let none : m.order ≡ None = search rules in
    let good : IsAccepted c.args.goal.now = search rules in
    let own = private_where_none m.system c.shared_page.result c.in_default-shared_page.not-Some c.shared_page.ensures.none in
    record {
      opens = subst (λ (s : System). Opens (gathered s.processors s.memory c.args.goal.now)) (sym c.into_system.ensures)
          (opens_of m c.args.goal.now c.a_core_arises.ensures none c.is_register_file.ensures good own c.requires);
    }

pub returns-clause-goal : goal.returns-clause-goal
returns-clause-goal c = sym (ap (λ (t : Start). t.goal) c.in-Ok.ensures.key)
