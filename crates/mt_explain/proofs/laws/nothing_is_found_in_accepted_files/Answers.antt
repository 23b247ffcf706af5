use Rattle.mt_explain.proofs.Unfaulted.{nothing_is_found}
use Rattle.mt_explain.proofs.laws.nothing_is_found_in_accepted_files.Goals as goal

pub returns : goal.returns
returns c = record { found = nothing_is_found }
