use Rattle.std.proofs.Common.{◌∙◌, ◌%◌, ◌==◌, ap, count_by, not, List}
use Rattle.mt_cache.specs.declared.line.CacheLine.{CacheLine}
use Rattle.mt_cache.specs.Counts.{has_residue}
use Rattle.mt_cache.proofs.Counted.{counted_here}
use Rattle.mt_cache.proofs.cache.Cache.may_have.Goals as goal

pub returns : goal.returns
returns c =
    c.may_have.ensures
    ∙ counted_here c.args.number _ _ c.self.invariant.1
    ∙ ap (λ (ls : List CacheLine). not (count_by (has_residue (c.args.number % 4096)) ls == 0)) c.self.view_is
