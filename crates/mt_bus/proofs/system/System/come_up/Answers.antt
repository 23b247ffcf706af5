use Rattle.std.proofs.Common.{◌≡◌, ◌∙◌, Some, ap, slice_get, subst, sym}
use Rattle.std.specs.Option.{option_map}
use Rattle.mt_types.specs.Tables.{IsTableOf}
use Rattle.mt_machine.specs.System.{System}
use Rattle.mt_machine.specs.ComingAndGoing.{newcomer_beside}
use Rattle.mt_bus.proofs.Held.{newcomer_lines}
use Rattle.mt_bus.proofs.Newcomers.{come_keeps}
use Rattle.mt_bus.proofs.system.System.come_up.Goals as goal

pub add-requires : goal.add-requires
add-requires c = newcomer_lines c.cpus-2.result.now c.in_ok-cpu.cpu c.in_ok-cpu.ensures.value

pub invariant_of-self : goal.invariant_of-self
invariant_of-self c =
    come_keeps c.self.inside.bus c.self.inside.tables.items c.in_ok-cpu.cpu c.of-table.result c.self.invariant.0 c.self.invariant.1
    (subst (λ ps. option_map newcomer_beside (slice_get ps 0) ≡ Some c.in_ok-cpu.cpu) (c.cpus-2.ensures ∙ ap (λ (s : System). s.processors) (sym c.self.view_is)) c.in_ok-cpu.ensures.value)
    (subst (λ f. IsTableOf f c.of-table.result) c.regs.ensures c.of-table.ensures.table)
    c.add.result c.add.new.bus c.add.new.tables.items c.add.ensures.bus c.add.ensures.tables
