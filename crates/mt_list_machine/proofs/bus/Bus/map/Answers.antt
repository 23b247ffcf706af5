use Rattle.std.proofs.Common.{refl}
use Rattle.std.proofs.lemmas.Option.{slice_get_read}
use Rattle.mt_list_machine.specs.Parts.{memory}
use Rattle.mt_list_machine.proofs.Results.{on_ok}
use Rattle.mt_list_machine.proofs.Translations.{mapped_in}
use Rattle.mt_list_machine.proofs.bus.Bus.map.Goals as goal

pub returns-clause-after : goal.returns-clause-after
returns-clause-after c =
    let at = slice_get_read c.self.inside.cpus.items _ c.args.k c.in-Some.cpu.now refl c.in-Some.ensures.item.3.0 c.in-Some.ensures.value in
    on_ok
    (mapped_in c.args.x c.self.inside.cpus.items (memory c.self.inside.layout.now c.self.inside.words.items) c.args.self.now c.args.k c.in-Some.cpu.now c.map.new.cpu c.self.view_is at)
    c.map.result c.map.ensures.after
