use Rattle.mt_cache.proofs.Counted.{no_lines}
use Rattle.mt_cache.proofs.cache.Cache.empty.Goals as goal

pub invariant_of-self : goal.invariant_of-self
invariant_of-self c = no_lines _ _ c.clear.ensures c.clear-2.ensures
