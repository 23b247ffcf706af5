use Rattle.mt_trie.proofs.Combined.{combined_is_joined}
use Rattle.mt_types_laws.proofs.trie_laws.a_page_type_is_a_join.Goals as goal

pub returns : goal.returns
returns c = combined_is_joined
