use Rattle.std.proofs.Common.{◌≡◌, arith, length}
use Rattle.mt_core.specs.Steps.{step_after}
use Rattle.mt_replay.proofs.Keeping.Machines.{follows_step}
use Rattle.mt_replay.proofs.commands.step.Goals as goal

pub file_at-requires : goal.file_at-requires
file_at-requires c =
    let same : length (step_after c.args.core.now c.args.k).system.processors ≡ length c.args.core.now.system.processors = (follows_step c.args.core.now c.args.k c.a_core_arises.ensures.arises).risen.same_number in
    rw c.step-stepped.ensures.after (omega (arith, same, c.requires))
