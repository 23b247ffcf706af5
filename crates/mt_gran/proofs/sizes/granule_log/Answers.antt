use Rattle.mt_gran.proofs.GranuleSizes.{no_size, some_size}
use Rattle.mt_gran.proofs.sizes.granule_log.Goals as goal

pub returns-clause-some : goal.returns-clause-some
returns-clause-some c = some_size c.args.size _ c.log_among.ensures

pub returns-clause-none : goal.returns-clause-none
returns-clause-none c = no_size c.args.size _ c.log_among.ensures
