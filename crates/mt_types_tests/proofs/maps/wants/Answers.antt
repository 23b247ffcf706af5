use Rattle.mt_trie.proofs.OverRuns.{part_defined}
use Rattle.mt_types_tests.proofs.maps.wants.Goals as goal

pub want-requires-clause-defined : goal.want-requires-clause-defined
want-requires-clause-defined c = part_defined _ _ c.in-Some.block c.requires.defined c.part.ensures.part
