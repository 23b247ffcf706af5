use Rattle.mt_types_laws.proofs.TwoRuns.{across}
use Rattle.mt_types_laws.proofs.trie_worked.worked_wishes_of_blocks.Goals as goal

pub returns : goal.returns
returns c = across
