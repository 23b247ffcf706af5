use Rattle.mt_explain.proofs.Listed.{is_listed}
use Rattle.mt_explain.proofs.laws.notes_are_those_that_hold.Goals as goal

pub returns : goal.returns
returns c = record { listed = is_listed }
