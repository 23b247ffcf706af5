use Rattle.std.proofs.Common.{refl, arith}
use Rattle.mt_cache.proofs.Ordered.{in_turn}
use Rattle.mt_cache.proofs.slots.Slots.new.Goals as goal

pub invariant_of-result : goal.invariant_of-result
invariant_of-result c = (in_turn _ refl, refl, omega arith)
