use Rattle.std.proofs.Common.{rules}
use Rattle.mt_replay.specs.Kept.{IsReplayState}
use Rattle.mt_replay.specs.ReplayState.{first_state}
use Rattle.mt_replay.proofs.Keeping.First.{first_kept}
use Rattle.mt_replay.proofs.replayer.Replayer.begin.Goals as goal

pub invariant_of-result : goal.invariant_of-result
invariant_of-result c =
    let first : IsReplayState (first_state c.args.setup c.args.dump) = first_kept c.args.setup c.args.dump c.is_situation.ensures c.requires.stage c.is_dump.ensures c.requires.each c.requires.accepted in
    search (rules, first)
