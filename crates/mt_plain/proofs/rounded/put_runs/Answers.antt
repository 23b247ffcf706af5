use Rattle.std.proofs.Common.{ap, arith, ◌∙◌}
use Rattle.mt_plain.specs.Maps.{plain_run}
use Rattle.mt_plain.proofs.Mapping.{written_more}
use Rattle.mt_plain.proofs.rounded.put_runs.Goals as goal

pub loop-i-preserved : goal.loop-i-preserved
loop-i-preserved c =
    written_more c.args.from.now c.loop-i.i c.run_at.result c.args.to.now c.loop-i.to c.put_run.new.runs c.run_words.result
    (omega (arith, c.loop-i-test.true, c.count-i-end.ensures)) c.loop-i.invariant c.put_run.ensures (c.run_words.ensures ∙ ap plain_run (c.run_at.ensures c.run_at.result))
