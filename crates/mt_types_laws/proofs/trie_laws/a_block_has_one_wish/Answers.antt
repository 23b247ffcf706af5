use Rattle.mt_trie.specs.Wishes.{InBlock}
use Rattle.mt_trie.proofs.WishLaws.{one_wish}
use Rattle.mt_types_laws.proofs.trie_laws.a_block_has_one_wish.Goals as goal

pub returns : goal.returns
returns c = λ wanted b. one_wish wanted (InBlock b)
