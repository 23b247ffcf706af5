use Rattle.std.proofs.Common.{ap, arith, sym, ℕ, if◌then◌else◌, Option, None, Some}
use Rattle.std.specs.Prelude.{is_some}
use Rattle.mt_machine.specs.Access.{physical}
use Rattle.mt_laws.proofs.Places.{nowhere}
use Rattle.mt_list_machine.proofs.bus.Bus.physical.Goals as goal

pub returns-then-entry-ge-PHYSICAL_PAGES : goal.returns-then-entry-ge-PHYSICAL_PAGES
returns-then-entry-ge-PHYSICAL_PAGES c =
    rw (← c.self.view_is)
    (sym (ap (λ (o : Option ℕ). if is_some o then Some (physical c.args.entry.now c.args.va) else None)
    (nowhere c.self.inside.layout.now (physical c.args.entry.now c.args.va) c.words.ensures.memory (omega (arith, c.if-entry-ge-PHYSICAL_PAGES.true)))))
