use Rattle.std.proofs.Common.{◌∙◌, ap, drop, length, rules, ℕ, List}
use Rattle.std.proofs.lemmas.List.{take_at}
use Rattle.mt_machine.specs.Memory.{Memory, write_back}
use Rattle.mt_machine.specs.System.{System}
use Rattle.mt_laws.specs.Parts.{system}
use Rattle.mt_list_machine.specs.Parts.{bus, memory}
use Rattle.mt_list_machine.proofs.bus.Bus.write_back.Goals as goal

pub returns : goal.returns
returns c =
    ap (bus c.self.inside.layout.now c.self.inside.cpus.items)
    (take_at c.write_back.new.words (drop (length c.write_back.new.words) c.self.inside.words.items) c.self.inside.words.len (search rules))
    ∙ ap (λ (m : Memory). system c.self.inside.cpus.items m)
    (c.write_back.ensures ∙ ap (λ (ws : List ℕ). write_back (memory c.self.inside.layout.now ws) c.args.line.now) c.as_mut_slice.ensures.value)
    ∙ ap (λ (s : System). record s { memory = write_back s.memory c.args.line.now }) c.self.view_is
