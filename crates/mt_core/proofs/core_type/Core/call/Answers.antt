use Rattle.std.proofs.Common.{◌≡◌, sym, subst, rules, ℕ, Option, Some, None}
use Rattle.std.specs.List.{All}
use Rattle.mt_regs.specs.Faults.{IsFirstFault}
use Rattle.mt_regs.specs.RegisterFile.{RegisterFile}
use Rattle.mt_types.specs.Tables.{IsTableOf}
use Rattle.mt_machine.specs.declared.go.Go.TheVariants.{Pending}
use Rattle.mt_machine.specs.Machine.{FitsGoal, Machine, Order}
use Rattle.mt_machine.specs.Start.{HasEraRoom}
use Rattle.mt_core.specs.Arises.{IsCore}
use Rattle.mt_core.proofs.Arising.{called, era_room}
use Rattle.mt_core.proofs.core_type.Core.call.Goals as goal

pub invariant_of-self : goal.invariant_of-self
invariant_of-self c = subst (λ (f : RegisterFile). IsTableOf f c.of-kinds.result) (sym c.same.ensures) c.of-kinds.ensures.table

pub invariant_of-self-2 : goal.invariant_of-self-2
invariant_of-self-2 c =
    let f : RegisterFile = c.args.goal.now in
    let none : c.self.inside.order ≡ None = search rules in
    let sound : c.first_fault.result ≡ None = search rules in
    subst (λ (x : ℕ × RegisterFile). IsCore (record { system = c.self.inside.system; order = Some (record { goal = x.1; from_era = x.0; go = Pending }) }))
    (λ i. (sym c.common_era-from_era.ensures i, sym c.same.ensures i))
    (called c.self.inside.system f c.is_register_file.ensures (subst (IsFirstFault f) sound c.first_fault.ensures)
    (subst (λ (m : Machine). All (FitsGoal f) m.system.processors) (sym c.self.view_is) c.requires.fits)
    (era_room c.self.inside.system.processors (subst HasEraRoom (sym c.self.view_is) c.requires.room))
    (subst (λ (o : Option Order). IsCore (record { system = c.self.inside.system; order = o })) none c.self.invariant))
