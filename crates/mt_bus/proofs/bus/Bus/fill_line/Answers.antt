use Rattle.std.proofs.Common.{◌∙◌, ap, refl, rules}
use Rattle.mt_cache.specs.Lines.{find_line}
use Rattle.mt_machine.specs.System.{System, lines_of}
use Rattle.mt_machine.specs.Bus.{fill_line}
use Rattle.mt_laws.specs.Parts.{system}
use Rattle.mt_bus.proofs.Changed.{lines_lent}
use Rattle.mt_bus.proofs.Rooms.{filled}
use Rattle.mt_bus.proofs.bus.Bus.fill_line.Goals as goal

pub add_line-requires-clause-absent : goal.add_line-requires-clause-absent
add_line-requires-clause-absent c = ap (λ (s : System). find_line c.args.number (lines_of s c.args.k)) c.self.view_is ∙ c.requires.absent

pub returns-in-Some : goal.returns-in-Some
returns-in-Some c =
    let ps = c.self.inside.cpus.items in
    c.look_at.ensures
    ∙ filled c.args.k c.args.number ps c.self.inside.ram c.write_back_oldest-oldest.new.ram c.add_line.new.self c.line_words-words.result c.cache.result.now (search rules)
    (lines_lent (system ps c.self.inside.ram) ps c.self.inside.ram c.args.k c.index.result.now c.cache.result.now refl (search rules) c.index.ensures c.cache.ensures)
    c.write_back_oldest-oldest.ensures.memory c.line_words-words.ensures c.add_line.ensures
    ∙ ap (fill_line c.args.k c.args.number) c.self.view_is

pub returns-in_default : goal.returns-in_default
returns-in_default c =
    let ps = c.self.inside.cpus.items in
    filled c.args.k c.args.number ps c.self.inside.ram c.write_back_oldest-oldest.new.ram c.add_line.new.self c.line_words-words.result c.cache.result.now (search rules)
    (lines_lent (system ps c.self.inside.ram) ps c.self.inside.ram c.args.k c.index.result.now c.cache.result.now refl (search rules) c.index.ensures c.cache.ensures)
    c.write_back_oldest-oldest.ensures.memory c.line_words-words.ensures c.add_line.ensures
    ∙ ap (fill_line c.args.k c.args.number) c.self.view_is
