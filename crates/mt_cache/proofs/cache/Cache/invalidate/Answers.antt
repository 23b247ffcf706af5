use Rattle.std.proofs.Common.{◌∙◌, ap, sym, subst}
use Rattle.mt_cache.specs.Calls.{AreLines, without_at}
use Rattle.mt_cache.proofs.Lists.{line_out, out_at, out_kept}
use Rattle.mt_cache.proofs.Counted.{counted_some, counted_less, within_of, counted_by}
use Rattle.mt_cache.proofs.cache.Cache.invalidate.Goals as goal

pub remove-requires-2 : goal.remove-requires-2
remove-requires-2 c = counted_some _ _ c.args.i _ c.self.invariant.1 (within_of _ _ _ c.get.ensures) c.get.ensures

pub invariant_of-self : goal.invariant_of-self
invariant_of-self c =
    let i = c.self.invariant in
    let out = c.remove.ensures ∙ line_out _ c.args.i _ c.get.ensures i.0.distinct in (
      subst AreLines (sym out) (out_kept _ c.get.result.now.number i.0),
      counted_by _ _ _ _ out c.remove-2.ensures (counted_less _ _ c.args.i _ i.0.distinct i.1 (within_of _ _ _ c.get.ensures) c.get.ensures),
    )

pub returns : goal.returns
returns c =
    c.remove.ensures ∙ line_out _ c.args.i _ c.get.ensures c.self.invariant.0.distinct ∙ out_at _ c.args.i _ c.get.ensures ∙ ap (without_at c.args.i) c.self.view_is
