use Rattle.mt_private.proofs.Ended.{answers_after, answers_before, left_given}
use Rattle.mt_thread_laws.proofs.yard_laws.yards_end_one_by_one.Goals as goal

pub returns : goal.returns
returns c host jobs owns told s r size long leaves owned given = (
  left_given host jobs owns told r size long s leaves owned given,
  answers_before host jobs owns told r size long s leaves owned,
  answers_after host jobs owns told r size long s leaves owned given,
)
