use Rattle.std.proofs.Common.{◌∙◌, ap, subst, sym}
use Rattle.mt_cache.specs.Lines.{find_line}
use Rattle.mt_cache.specs.Calls.{AreLines}
use Rattle.mt_cache.proofs.Lists.{push_kept}
use Rattle.mt_cache.proofs.Counted.{counted_by, counted_more}
use Rattle.mt_cache.proofs.cache.Cache.push.Goals as goal

pub invariant_of-self : goal.invariant_of-self
invariant_of-self c =
    let i = c.self.invariant in (
      subst AreLines (sym c.push-slot.ensures) (push_kept _ c.args.line i.0 (ap (find_line c.args.line.number) c.self.view_is ∙ c.requires.absent) c.requires.whole),
      counted_by _ _ _ _ c.push-slot.ensures c.add.ensures (counted_more _ _ _ i.1),
    )
