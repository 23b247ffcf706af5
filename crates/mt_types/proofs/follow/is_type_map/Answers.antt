use Rattle.std.proofs.Common.{arith, length, ◌<◌}
use Rattle.std.proofs.lemmas.Grind.{common_steps}
use Rattle.mt_types.proofs.Following.{leads_start}
use Rattle.mt_types.proofs.follow.is_type_map.Goals as goal

pub loop-run-init : goal.loop-run-init
loop-run-init c =
    let some : 0 < length c.args.list.now = grind (arith, common_steps) in
    leads_start c.args.list.now some
