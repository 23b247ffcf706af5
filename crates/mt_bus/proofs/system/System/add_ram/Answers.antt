use Rattle.std.proofs.Common.{◌≡◌, sym, subst, rules}
use Rattle.mt_machine.specs.Memory.{IsMemory}
use Rattle.mt_machine.specs.System.{IsSound, System}
use Rattle.mt_ram.specs.Windows.{window, with_window}
use Rattle.mt_laws.specs.Parts.{system}
use Rattle.mt_bus.specs.Tables.{AreTablesOf}
use Rattle.mt_bus.proofs.Grown.{sound_grown}
use Rattle.mt_bus.proofs.system.System.add_ram.Goals as goal

pub invariant_of-self-2 : goal.invariant_of-self-2
invariant_of-self-2 c =
    let grown : c.add.new.self ≡ with_window (window c.args.base c.args.lines) c.bus.inside.ram = search rules in (
      subst (λ m. IsSound (system c.bus.inside.cpus.items m)) (sym grown)
          (sound_grown (system c.bus.inside.cpus.items c.bus.inside.ram) (window c.args.base c.args.lines) (subst IsSound (sym c.bus.view_is) c.self.invariant.0) (subst IsMemory grown c.words.ensures.memory)),
      subst (λ (s : System). AreTablesOf s.processors c.self.inside.tables.items) (sym c.bus.view_is) c.self.invariant.1,
    )
