use Rattle.std.proofs.Common.{◌≡◌, ◌∙◌, ap, subst, sym, List, drop, length, map, replicate, rules}
use Rattle.mt_machine.specs.Memory as machine
use Rattle.mt_ram.specs.Windows.{IsRam, window_of}
use Rattle.mt_ram.proofs.Front.{IsRewritten, blanked, rewritten}
use Rattle.mt_ram.proofs.ram.Ram.blank.Goals as goal

blank : (c : goal.After-same_windows) → IsRewritten c.self.inside.words.items c.resize.new.self.items (replicate (length (drop 18 c.self.inside.words.items)) 0)
blank c = blanked c.self.inside.words.items c.resize.new.self.items c.self.invariant.front (search rules)

windows : (c : goal.After-same_windows) → map window_of c.same_windows.result.items ≡ map window_of c.self.inside.windows.items
windows c = ap (map window_of) (c.same_windows.ensures ∙ c.as_slice.ensures.value)

pub invariant_of-result : goal.invariant_of-result
invariant_of-result c = subst (λ (ws : List machine.Window). IsRam ws c.resize.new.self.items) (sym (windows c)) (rewritten _ c.self.inside.words.items _ _ c.self.invariant (blank c))

pub returns : goal.returns
returns c =
    (λ i. record { windows = windows c i; words = (blank c).words i })
    ∙ ap (λ (m : machine.Memory). let n : machine.Memory = record { windows = m.windows; words = replicate (length m.words) 0 } in n) c.self.view_is
