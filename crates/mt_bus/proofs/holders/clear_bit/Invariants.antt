use Rattle.mt_bus.specs.Holders.{CoversOthers}
use Rattle.mt_bus.proofs.holders.clear_bit.Given as goal

abbrev pub invariant-loop-i : goal.invariant-loop-i
invariant-loop-i l = CoversOthers l.k l.masks l.fn.masks
