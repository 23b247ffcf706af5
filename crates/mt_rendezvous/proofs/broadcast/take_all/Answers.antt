use Rattle.std.proofs.Common.{◌+◌, ◌-◌, ◌∙◌, ap, sym, arith, length}
use Rattle.std.specs.List.{fold, range_with_len}
use Rattle.mt_machine.specs.Machine.{Machine}
use Rattle.mt_core.specs.Steps.{step_after}
use Rattle.mt_core.proofs.Progress.{range_more, same_number_after}
use Rattle.mt_rendezvous.proofs.broadcast.take_all.Goals as goal

pub loop-k-preserved : goal.loop-k-preserved
loop-k-preserved c =
    let k = c.loop-k.k in
    let end = length c.cpus.result.now in (
      ap (λ (m : Machine). fold step_after m (range_with_len (k + 1) (end - (k + 1)))) c.step.ensures.after
          ∙ ap (fold step_after c.loop-k.core) (sym (range_more k end (omega arith))) ∙ c.loop-k.invariant.0,
      ap (λ (m : Machine). length m.system.processors) c.step.ensures.after ∙ same_number_after c.loop-k.core k ∙ c.loop-k.invariant.1,
    )
