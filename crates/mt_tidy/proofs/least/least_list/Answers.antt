use Rattle.mt_tidy.proofs.WholeCost.{least_from}
use Rattle.mt_tidy.proofs.least.least_list.Goals as goal

pub returns : goal.returns
returns c = λ f are good.
    least_from f c.args.search.now.rules c.args.log c.args.search.now.wanted are good c.args.out.now.items c.lay_in.new.out.items c.requires.empty c.lay_in.ensures.laid
