use Rattle.mt_explain.proofs.Ruled.{is_named}
use Rattle.mt_explain.proofs.laws.deciders_are_those_of_the_rule.Goals as goal

pub returns : goal.returns
returns c = record { named = is_named }
