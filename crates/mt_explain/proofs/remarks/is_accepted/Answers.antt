use Rattle.mt_explain.proofs.Noted.{accepted_is}
use Rattle.mt_explain.proofs.remarks.is_accepted.Goals as goal

pub returns-clause-test : goal.returns-clause-test
returns-clause-test c = accepted_is c.args.f.now c.first_fault.result c.is_none.result c.first_fault.ensures c.is_none.ensures
