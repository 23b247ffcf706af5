use Rattle.std.proofs.Common.{◌∙◌, ap, rules, slice_get, sym}
use Rattle.std.specs.Option.{option_map_or}
use Rattle.mt_machine.specs.Access.{keep_entry}
use Rattle.mt_machine.specs.System.{System, change}
use Rattle.mt_laws.specs.Parts.{entry_in, system}
use Rattle.mt_bus.proofs.Changed.{lent_at, seen_at}
use Rattle.mt_bus.proofs.Translated.{answered_by, entered_in}
use Rattle.mt_bus.proofs.bus.Bus.translate.Goals as goal

pub returns-clause-value : goal.returns-clause-value
returns-clause-value c =
    let p = c.index_mut-cpu.result.now in
    let at = seen_at c.args.self.now c.self.inside.cpus.items c.self.inside.ram c.args.k p c.self.view_is (search rules) c.index_mut-cpu.ensures.value in
    answered_by c.args.self.now.processors c.args.k c.args.va p c.args.table.now c.translate.result at (c.requires.table p at) c.translate.ensures.value

pub returns-clause-after : goal.returns-clause-after
returns-clause-after c =
    let p = c.index_mut-cpu.result.now in
    let here = lent_at c.self.inside.cpus.items c.args.k p (search rules) c.index_mut-cpu.ensures.value in
    entered_in (system c.self.inside.cpus.items c.self.inside.ram) c.args.k c.args.va p c.translate.new.self c.args.table.now here
    (c.requires.table p (ap (λ (s : System). slice_get s.processors c.args.k) (sym c.self.view_is) ∙ here)) c.translate.ensures.after
    ∙ ap (λ (s : System). option_map_or (λ e. change (keep_entry e) c.args.k s) (entry_in c.args.k c.args.va s.processors) s) c.self.view_is
