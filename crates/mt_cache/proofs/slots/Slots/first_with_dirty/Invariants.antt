use Rattle.mt_cache.specs.Calls.{has_dirty_word}
use Rattle.mt_cache.proofs.Ordered.{NoneBelow}
use Rattle.mt_cache.proofs.slots.Slots.first_with_dirty.Given as goal

abbrev pub invariant-loop-i : goal.invariant-loop-i
invariant-loop-i l = NoneBelow has_dirty_word l.self-inside.order l.self-inside.slots l.i
