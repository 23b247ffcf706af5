use Rattle.mt_trie.proofs.OverRuns.{part_in_time, wish_found}
use Rattle.mt_trie.proofs.wants.want.Goals as goal

pub wish_over-requires : goal.wish_over-requires
wish_over-requires c = part_in_time c.args.runs.now c.args.b.now c.requires.part

pub returns : goal.returns
returns c =
    wish_found c.args.fe c.args.runs.now c.args.b.now _ _ _ c.requires.part c.requires.defined
    c.first_page-start.ensures c.end-end.ensures c.wish_over.ensures
