use Rattle.std.proofs.Common.{[], ◌∷◌}
use Rattle.mt_thread_laws.specs.WorkedYard.{at_start}
use Rattle.mt_thread_laws.proofs.Lodged.{none_due, not_counted, not_gone_on, not_missing, not_short, not_stored, not_uncounted, not_untold}
use Rattle.mt_thread_laws.proofs.job_worked.worked_yard_rule.Goals as goal

pub returns-clause-unstored : goal.returns-clause-unstored
returns-clause-unstored c = not_stored

pub returns-clause-short : goal.returns-clause-short
returns-clause-short c = not_short

pub returns-clause-counted : goal.returns-clause-counted
returns-clause-counted c = not_counted

pub returns-clause-missing : goal.returns-clause-missing
returns-clause-missing c = not_missing

pub returns-clause-not_kept : goal.returns-clause-not_kept
returns-clause-not_kept c key is m f = not_short key is f.kept

pub returns-clause-uncounted : goal.returns-clause-uncounted
returns-clause-uncounted c = not_uncounted

pub returns-clause-not_enabled : goal.returns-clause-not_enabled
returns-clause-not_enabled c key is m f = none_due key is (at_start key (0 ∷ 0 ∷ 0 ∷ 0 ∷ [])) m (at_start key (0 ∷ 0 ∷ 0 ∷ 0 ∷ [])) f

pub returns-clause-not_gone_on : goal.returns-clause-not_gone_on
returns-clause-not_gone_on c key is m f = not_gone_on key is (at_start key (0 ∷ 0 ∷ 0 ∷ 0 ∷ [])) m f

pub returns-clause-untold : goal.returns-clause-untold
returns-clause-untold c key is = not_untold key is
