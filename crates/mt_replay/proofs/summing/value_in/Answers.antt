use Rattle.std.proofs.Common.{Err, Ok}
use Rattle.mt_replay.proofs.Sums.Numbers.{value_found}
use Rattle.mt_replay.proofs.summing.value_in.Goals as goal

pub returns-in-Ok : goal.returns-in-Ok
returns-in-Ok c = value_found c.args.line.now c.in-Some.behind.now _ c.min.result (Ok c.in-Ok.value) c.in-Some.ensures.cases.0 c.in-Some.ensures.cases.1 c.min.ensures c.in-Ok.ensures

pub returns-in-Err : goal.returns-in-Err
returns-in-Err c = value_found c.args.line.now c.in-Some.behind.now _ c.min.result (Err c.in-Err.field-0) c.in-Some.ensures.cases.0 c.in-Some.ensures.cases.1 c.min.ensures c.in-Err.ensures
