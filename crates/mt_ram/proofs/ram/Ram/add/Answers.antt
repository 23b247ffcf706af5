use Rattle.std.proofs.Common.{◌≡◌, ◌∙◌, ap, length, map, sym}
use Rattle.mt_machine.specs.Memory as machine
use Rattle.mt_ram.specs.Windows.{IsRam, behind_front, refusal, window, window_of, with_window}
use Rattle.mt_ram.proofs.Windows.{added_lists}
use Rattle.mt_ram.proofs.ram.Ram.add.Goals as goal

lists : (c : goal.After-push)
    → IsRam (map window_of c.push.new.self.items) c.resize.new.self.items
    × (behind_front (map window_of c.push.new.self.items) c.resize.new.self.items
    ≡ with_window (window c.args.base c.args.lines) (behind_front (map window_of c.self.inside.windows.items) c.self.inside.words.items))
lists c =
    added_lists c.self.inside.windows.items _ c.self.inside.words.items _ c.args.base c.args.lines c.words.result _ _ c.self.invariant
    (ap (λ (m : machine.Memory). refusal m.windows (window c.args.base c.args.lines)) c.self.view_is ∙ sym c.refusal.ensures ∙ c.in_default.is)
    c.requires.some c.requires.end c.push.ensures.items (c.words.ensures.count ∙ ap (λ (m : machine.Memory). length m.words) (sym c.self.view_is)) c.self.inside.words.ok.0
    c.if-is_err.ensures.negation c.resize.ensures.items

pub invariant_of-self-2 : goal.invariant_of-self-2
invariant_of-self-2 c = (lists c).0

pub returns-clause-added : goal.returns-clause-added
returns-clause-added c = (lists c).1 ∙ ap (with_window (window c.args.base c.args.lines)) c.self.view_is
