use Rattle.std.proofs.Common.{◌≡◌, ap, arith, refl, sym, subst, ℕ, ◌<◌, Option, None, Some, Err}
use Rattle.std.specs.Prelude.{IsSome}
use Rattle.std.specs.List.{All}
use Rattle.mt_regs.specs.declared.fault.Fault.{Fault}
use Rattle.mt_regs.specs.Faults.{IsAccepted}
use Rattle.mt_regs.specs.RegisterFile.{RegisterFile}
use Rattle.mt_regs.proofs.First.{one_first_fault_lem}
use Rattle.mt_machine.specs.Machine.{FitsGoal, Order}
use Rattle.mt_private.specs.declared.fault.PrivateFault.{PrivateFault}
use Rattle.mt_private.specs.declared.fault.PrivateFault.TheVariants.{NoMemory, Refused, Shared, UnderWay}
use Rattle.mt_private.specs.OneByOne.{AreOneByOne, jobs_one_by_one}
use Rattle.mt_cli.proofs.Owning.{goal_accepted, has_room}
use Rattle.mt_cli.proofs.measured.run_jobs.Goals as goal

pub run_private_with-requires : goal.run_private_with-requires
run_private_with-requires g c = (
  c.type_bounds.sync-R,
  (
    c.type_bounds.sync-G,
    record {
      update = record {
        some = subst (λ (n : ℕ). 0 < n) (sym c.requires.set_up.size) c.requires.some;
        fits = subst (λ (f : RegisterFile). All (FitsGoal f) c.args.core.now.system.processors) (sym c.file_of-goal.ensures) c.requires.set_up.fits;
        room = has_room _ c.args.core.now c.requires.set_up;
      };
      one_each = sym c.requires.set_up.size;
      addresses = c.requires.addresses;
    },
  ),
)

pub returns-in-Ok : goal.returns-in-Ok
returns-in-Ok g c =
    let s = c.args.core.now.system in
    subst (λ (f : RegisterFile). AreOneByOne (jobs_one_by_one s f c.args.jobs.items) c.run_private_with.new.core c.in-Ok.told.items) c.file_of-goal.ensures
    c.in-Ok.ensures.done

-- every other fault is ruled out
only_memory : (fault : PrivateFault) → (fault ≡ UnderWay → ⊥) → ((own : Fault) → fault ≡ Refused own → ⊥) → ((page : ℕ) → fault ≡ Shared page → ⊥) → fault ≡ NoMemory
only_memory UnderWay busy refused shared = absurd (busy refl)
only_memory (Refused own) busy refused shared = absurd (refused own refl)
only_memory (Shared page) busy refused shared = absurd (shared page refl)
only_memory NoMemory busy refused shared = refl

pub no_memory-requires : goal.no_memory-requires
no_memory-requires g c =
    let goal_file = c.file_of-goal.result in
    only_memory c.in-Err.fault
    (λ is. let some = subst (λ (o : Option Order). IsSome o) c.requires.set_up.order (c.in-Err.ensures.under_way.0 (ap Err is)) in cc some)
    (λ own is.
    let first = ((c.in-Err.ensures.refused own).0 (ap Err is)).1 in
    let none : Some own ≡ None = one_first_fault_lem goal_file (Some own) None first (subst IsAccepted (sym c.file_of-goal.ensures) goal_accepted) in
    cc none)
    (λ page is. let two = ((c.in-Err.ensures.shared page).0 (ap Err is)).2.shared in let few = c.requires.private page in omega (arith, two, few))
