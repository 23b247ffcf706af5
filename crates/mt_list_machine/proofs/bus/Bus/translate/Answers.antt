use Rattle.std.proofs.Common.{refl}
use Rattle.std.proofs.lemmas.Option.{slice_get_read}
use Rattle.mt_list_machine.specs.Parts.{memory}
use Rattle.mt_list_machine.proofs.Results.{if_ok}
use Rattle.mt_list_machine.proofs.Translations.{entered_in}
use Rattle.mt_list_machine.proofs.bus.Bus.translate.Goals as goal

pub returns : goal.returns
returns c =
    let at = slice_get_read c.self.inside.cpus.items _ c.args.k c.in-Some.cpu.now refl c.in-Some.ensures.item.3.0 c.in-Some.ensures.value in
    if_ok _ _
    (λ o made. entered_in c.self.inside.cpus.items (memory c.self.inside.layout.now c.self.inside.words.items) c.args.self.now c.args.k c.args.va c.in-Some.cpu.now c.translate.new.cpu o c.self.view_is at made)
    c.translate.result c.translate.ensures
