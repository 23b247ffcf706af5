use Rattle.std.proofs.Common.{◌≡◌, sym, subst, rules}
use Rattle.mt_ram.specs.Windows.{window, with_window}
use Rattle.mt_machine.specs.Memory.{IsMemory}
use Rattle.mt_machine.specs.System.{System}
use Rattle.mt_core.specs.Arises.{IsCore}
use Rattle.mt_core.proofs.Arising.{wider}
use Rattle.mt_core.proofs.core_type.Core.add_ram.Goals as goal

pub invariant_of-self-2 : goal.invariant_of-self-2
invariant_of-self-2 c =
    let more : c.add_ram.new.self ≡ record c.self.inside.system { memory = with_window (window c.args.base c.args.lines) c.self.inside.system.memory } = search rules in
    subst (λ (s : System). IsCore (record { system = s; order = c.self.inside.order })) (sym more)
    (wider c.self.inside.system c.self.inside.order (window c.args.base c.args.lines)
    (subst (λ (s : System). IsMemory s.memory) more c.a_system_is_sound.ensures.memory) c.self.invariant)
