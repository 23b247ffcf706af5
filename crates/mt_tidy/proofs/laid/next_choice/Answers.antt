use Rattle.std.proofs.Common.{◌∙◌, arith}
use Rattle.mt_tidy.proofs.Coming.{choice_at, none_past}
use Rattle.mt_tidy.proofs.laid.next_choice.Goals as goal

pub returns-in-Some-clause-choice : goal.returns-in-Some-clause-choice
returns-in-Some-clause-choice c =
    choice_at _ c.args.b.now.log c.args.b.now.first c.args.table.now.count c.args.table.now.choices c.in-Some.choice c.requires.mixed c.requires.choices (c.kept.ensures ∙ c.in-Some.is)

pub find_again-requires-clause-full : goal.find_again-requires-clause-full
find_again-requires-clause-full c = omega (arith, none_past c.args.table.now.choices c.args.table.now.count (c.kept.ensures ∙ c.in-None.is))
