use Rattle.std.proofs.lemmas.Slice.Eq.{slice_eq-Decides}
use Rattle.mt_explain.proofs.Equal.{same_pair}
use Rattle.mt_explain.proofs.groups.same_pairs.Goals as goal

pub returns : goal.returns
returns c = slice_eq-Decides same_pair c.args.a.now c.args.b.now c.eq.result c.eq.ensures
