use Rattle.std.proofs.Common.{◌∙◌, ap, sym, subst, ℕ, ◌<◌, length, map, Option, IfSome, zero-add}
use Rattle.mt_machine.specs.Memory.{Memory, place_in}
use Rattle.mt_ram.specs.Windows.{window_of}
use Rattle.mt_ram.proofs.Windows.{place_within}
use Rattle.mt_ram.proofs.ram.Ram.place.Goals as goal

pub returns-then-address-eq0-clause-within : goal.returns-then-address-eq0-clause-within
returns-then-address-eq0-clause-within c =
    subst (λ (o : Option ℕ). IfSome o (λ i. i < length c.args.self.now.words))
    (sym (c.place_in.ensures ∙ ap (λ ws. place_in (map window_of ws) 0 c.args.address) c.as_slice.ensures.value))
    (subst (λ (n : ℕ). IfSome (place_in (map window_of c.self.inside.windows.items) 0 c.args.address) (λ i. i < n))
    (zero-add _ ∙ sym c.self.invariant.memory.counted ∙ ap (λ (m : Memory). length m.words) c.self.view_is)
    (place_within (map window_of c.self.inside.windows.items) 0 c.args.address))
