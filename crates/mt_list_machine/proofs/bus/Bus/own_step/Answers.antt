use Rattle.std.proofs.Common.{◌∙◌, ap, sym, refl, slice_get}
use Rattle.std.proofs.lemmas.Option.{slice_get_read}
use Rattle.mt_machine.specs.System.{System}
use Rattle.mt_machine.specs.Machine.{own_step}
use Rattle.mt_list_machine.specs.Parts.{memory}
use Rattle.mt_list_machine.proofs.Fits.{fits, has_room}
use Rattle.mt_list_machine.proofs.Translations.{changed_to}
use Rattle.mt_list_machine.proofs.bus.Bus.own_step.Goals as goal

pub own_step-requires-clause-fits : goal.own_step-requires-clause-fits
own_step-requires-clause-fits c =
    let at = slice_get_read c.self.inside.cpus.items _ c.args.k c.in-Some.cpu.now refl c.in-Some.ensures.item.3.0 c.in-Some.ensures.value in
    fits c.args.goal.now c.in-Some.cpu.now (c.requires.fit c.in-Some.cpu.now (ap (λ (s : System). slice_get s.processors c.args.k) (sym c.self.view_is) ∙ at))

pub own_step-requires-clause-room : goal.own_step-requires-clause-room
own_step-requires-clause-room c =
    let at = slice_get_read c.self.inside.cpus.items _ c.args.k c.in-Some.cpu.now refl c.in-Some.ensures.item.3.0 c.in-Some.ensures.value in
    has_room c.args.goal.now c.in-Some.cpu.now (c.requires.fit c.in-Some.cpu.now (ap (λ (s : System). slice_get s.processors c.args.k) (sym c.self.view_is) ∙ at))

pub returns : goal.returns
returns c =
    changed_to c.self.inside.cpus.items (memory c.self.inside.layout.now c.self.inside.words.items) c.args.self.now c.args.k c.in-Some.cpu.now c.own_step.new.cpu
    (own_step c.args.goal.now c.args.e) c.self.view_is
    (slice_get_read c.self.inside.cpus.items _ c.args.k c.in-Some.cpu.now refl c.in-Some.ensures.item.3.0 c.in-Some.ensures.value) c.own_step.ensures
