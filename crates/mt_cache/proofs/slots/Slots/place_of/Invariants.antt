use Rattle.mt_cache.specs.Lines.{has_number}
use Rattle.mt_cache.proofs.Ordered.{NoneBelow}
use Rattle.mt_cache.proofs.slots.Slots.place_of.Given as goal

abbrev pub invariant-loop-i : goal.invariant-loop-i
invariant-loop-i l = NoneBelow (has_number l.number) l.self-inside.order l.self-inside.slots l.i
