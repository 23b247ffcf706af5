use Rattle.std.proofs.Common.{refl}
use Rattle.std.proofs.lemmas.Iterator.{items_from_collect}
use Rattle.std.proofs.lemmas.Iterator.Adapters.{YieldsList-from_skip, YieldsList-from_vec}
use Rattle.std.proofs.lemmas.Iterator.Consumers.{YieldsList-at}
use Rattle.std.specs.Vec.Iter.{into_iter_items}
use Rattle.mt_output.proofs.program.words_behind_name.Goals as goal

pub returns : goal.returns
returns c =
    let given = YieldsList-from_vec {s = c.args.args} (into_iter_items c.args.args) refl c.args.args.rest.ok.0 in
    items_from_collect c.collect.result c.collect.ensures.ran (YieldsList-from_skip 1 (YieldsList-at c.skip.ensures.source given) c.skip.ensures.count)
