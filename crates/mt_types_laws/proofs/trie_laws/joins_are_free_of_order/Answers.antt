use Rattle.mt_trie.proofs.ContextLaws.{join_comm, join_assoc, join_idem}
use Rattle.mt_types_laws.proofs.trie_laws.joins_are_free_of_order.Goals as goal

pub returns-clause-commutes : goal.returns-clause-commutes
returns-clause-commutes c = join_comm

pub returns-clause-associates : goal.returns-clause-associates
returns-clause-associates c = join_assoc

pub returns-clause-absorbs : goal.returns-clause-absorbs
returns-clause-absorbs c = join_idem
