use Rattle.std.proofs.Common.{◌∙◌, sym}
use Rattle.mt_tidy.specs.Cost.{task_by}
use Rattle.mt_tidy.proofs.Choices.{divided_large, divided_small, small_block}
use Rattle.mt_tidy.proofs.block_costs.divide.Goals as goal

pub returns-then-not-is_small : goal.returns-then-not-is_small
returns-then-not-is_small c = λ h are runs. divided_large (task_by c.args.rules.now runs) h c.args.log c.args.halves.now are (sym c.is_small.ensures ∙ c.if-not-is_small.true)

pub returns : goal.returns
returns c = λ h are runs.
    let small = small_block _ _ (sym c.is_small.ensures ∙ c.if-not-is_small.false) in
    divided_small (task_by c.args.rules.now runs) h c.args.log c.args.halves.now are _ _ _ _ (c.best_untouched-untouched.ensures h are runs c.args.log small)
    (c.best_written_back-wb.ensures h are c.args.rules.now runs c.args.log small) c.byte_of.ensures c.byte_of-2.ensures
