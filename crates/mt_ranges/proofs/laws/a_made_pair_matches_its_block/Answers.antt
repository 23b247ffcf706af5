use Rattle.mt_ranges.proofs.Runs.{made_covers, made_run, made_valid}
use Rattle.mt_ranges.proofs.laws.a_made_pair_matches_its_block.Goals as goal

pub returns-clause-valid : goal.returns-clause-valid
returns-clause-valid c = made_valid

pub returns-clause-whole : goal.returns-clause-whole
returns-clause-whole c = made_run

pub returns-clause-pages : goal.returns-clause-pages
returns-clause-pages c = made_covers
