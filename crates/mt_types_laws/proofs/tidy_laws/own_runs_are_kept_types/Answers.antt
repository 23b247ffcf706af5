use Rattle.mt_tidy.proofs.Own.{keeps_is_gives, least_is_least_for}
use Rattle.mt_types_laws.proofs.tidy_laws.own_runs_are_kept_types.Goals as goal

pub returns-clause-lists : goal.returns-clause-lists
returns-clause-lists c = λ f runs ranges accepted enabled are. keeps_is_gives f accepted enabled runs are ranges

pub returns-clause-least : goal.returns-clause-least
returns-clause-least c = λ f runs chunk count accepted enabled are. least_is_least_for f accepted enabled runs are chunk count
