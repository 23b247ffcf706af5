use Rattle.std.proofs.Common.{refl}
use Rattle.mt_types_laws.proofs.ReadBack.{others_are_zeros, pair_stands, pairs_number, valid_number}
use Rattle.mt_types_laws.proofs.tidy_laws.pairs_of_ranges.Goals as goal

pub returns-clause-ranges : goal.returns-clause-ranges
returns-clause-ranges c = pair_stands

pub returns-clause-others : goal.returns-clause-others
returns-clause-others c = others_are_zeros

pub returns-clause-zeros : goal.returns-clause-zeros
returns-clause-zeros c = refl

pub returns-clause-number : goal.returns-clause-number
returns-clause-number c = pairs_number

pub returns-clause-valid : goal.returns-clause-valid
returns-clause-valid c = valid_number
