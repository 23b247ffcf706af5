use Rattle.mt_tidy.specs.Cost.{task_by}
use Rattle.mt_tidy.proofs.CostWords.{word_is}
use Rattle.mt_tidy.proofs.WholeCost.{finite, usable_defined}
use Rattle.mt_tidy.proofs.least.least_number.Goals as goal

pub find_costs-requires-clause-defined : goal.find_costs-requires-clause-defined
find_costs-requires-clause-defined c = usable_defined c.args.search.now.rules c.args.search.now.wanted c.requires.usable.supported

pub returns-clause-number : goal.returns-clause-number
returns-clause-number c = word_is _ _ (finite (task_by c.args.search.now.rules c.args.search.now.wanted) c.args.log 0) c.find_costs.ensures.found.untouched
