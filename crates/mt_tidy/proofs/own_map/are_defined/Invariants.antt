use Rattle.std.specs.List.{AllWithin}
use Rattle.mt_trie.specs.Wishes.{IsDefined}
use Rattle.mt_tidy.proofs.own_map.are_defined.Given as goal

abbrev pub invariant-loop-i : goal.invariant-loop-i
invariant-loop-i l = AllWithin IsDefined l.runs 0 l.i
