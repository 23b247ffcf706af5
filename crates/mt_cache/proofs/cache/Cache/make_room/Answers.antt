use Rattle.std.proofs.Common.{◌∙◌, ◌≡◌, ◌<◌, ap, subst, sym, arith, length, List}
use Rattle.mt_cache.specs.declared.line.CacheLine.{CacheLine}
use Rattle.mt_cache.specs.Lines.{AreDistinct}
use Rattle.mt_cache.proofs.Lists.{full_room}
use Rattle.mt_cache.proofs.cache.Cache.make_room.Goals as goal

pub returns-then-len-eq-SLOTS-clause-room : goal.returns-then-len-eq-SLOTS-clause-room
returns-then-len-eq-SLOTS-clause-room c =
    let full : length c.args.self.now ≡ 64 = ap (λ (ls : List CacheLine). length ls) (sym c.self.view_is) ∙ sym c.len.ensures.count ∙ c.if-len-eq-SLOTS.true in
    subst (λ (ls : List CacheLine). length ls < 64) (sym c.invalidate.ensures) (full_room 64 c.args.self.now (omega arith) full (subst AreDistinct c.self.view_is c.self.invariant.0.distinct))
