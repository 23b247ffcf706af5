use Rattle.mt_cache.proofs.Counted.{no_lines}
use Rattle.mt_cache.proofs.cache.Cache.new.Goals as goal

pub invariant_of-result : goal.invariant_of-result
invariant_of-result c = no_lines _ _ c.new.ensures c.new-2.ensures
