use Rattle.std.proofs.Common.{◌∙◌, ap, cond}
use Rattle.mt_judge.specs.Told.{has_arrived_first, has_arrived_second}
use Rattle.mt_judge.proofs.Counts.{counted_few, counted_more}
use Rattle.mt_judge.proofs.transcript.count_arrived.Goals as goal

pub loop-cpu-preserved : goal.loop-cpu-preserved
loop-cpu-preserved c =
    let one = c.one_if-first.ensures ∙ ap (λ b. cond b 1 0) c.has_arrived.ensures in
    let again = c.one_if-second.ensures ∙ ap (λ b. cond b 1 0) c.has_arrived_again.ensures in
    record {
      first = counted_more has_arrived_first c.args.cpus.now c.loop-cpu.cpu-index _ _ c.cpu-item.result c.loop-cpu-test.true c.cpu-item.is c.loop-cpu.invariant.first one;
      second = counted_more has_arrived_second c.args.cpus.now c.loop-cpu.cpu-index _ _ c.cpu-item.result c.loop-cpu-test.true c.cpu-item.is c.loop-cpu.invariant.second again;
      few = counted_few c.has_arrived.result _ _ _ c.loop-cpu.invariant.few c.one_if-first.ensures;
      few_again = counted_few c.has_arrived_again.result _ _ _ c.loop-cpu.invariant.few_again c.one_if-second.ensures;
    }
