use Rattle.std.proofs.Common.{drop, length, rules, subst, sym}
use Rattle.std.proofs.lemmas.List.{take_at}
use Rattle.mt_bus.specs.Holders.{AreHeldBy}
use Rattle.mt_bus.proofs.Held.{held_open}
use Rattle.mt_bus.proofs.holders.Holders.forget.Goals as goal

pub returns : goal.returns
returns c ps =
    subst (AreHeldBy ps) (sym (take_at c.set_all.new.masks (drop (length c.set_all.new.masks) c.self.inside.masks.items) c.self.inside.masks.len (search rules)))
    (held_open ps c.set_all.new.masks c.set_all.ensures)
