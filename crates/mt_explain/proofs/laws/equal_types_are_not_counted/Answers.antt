use Rattle.mt_explain.proofs.Unchanged.{counts_none, unchanged}
use Rattle.mt_explain.proofs.laws.equal_types_are_not_counted.Goals as goal

pub returns : goal.returns
returns c = record { same = λ old new. (unchanged old new, counts_none old new) }
