use Rattle.mt_types.proofs.Once.{shared_page}
use Rattle.mt_types_laws.proofs.types_laws.a_shared_page_is_in_both.Goals as goal

pub returns : goal.returns
returns c = shared_page
