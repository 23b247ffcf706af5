use Rattle.mt_explain.proofs.Appended.{pat_next, pat_start}
use Rattle.mt_explain.proofs.faults.add_pat.Goals as goal

pub loop-i-init : goal.loop-i-init
loop-i-init c = pat_start c.args.value c.args.list.now.items

pub loop-i-preserved : goal.loop-i-preserved
loop-i-preserved c = pat_next c.args.value c.loop-i.i c.args.list.now.items c.loop-i.list.items _ c.loop-i.invariant c.in_ok-add_entry.ensures
