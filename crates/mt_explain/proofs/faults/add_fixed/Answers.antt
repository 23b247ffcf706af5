use Rattle.mt_explain.proofs.Appended.{fixed_next, fixed_start}
use Rattle.mt_explain.proofs.faults.add_fixed.Goals as goal

pub loop-i-init : goal.loop-i-init
loop-i-init c = fixed_start c.args.has_combining c.args.place c.args.value c.args.list.now.items

pub loop-i-preserved : goal.loop-i-preserved
loop-i-preserved c =
    fixed_next c.args.has_combining c.args.place c.args.value c.loop-i.i c.byte_at.result c.is_supported.result c.field-kind.result c.args.list.now.items c.loop-i.list.items _
    c.loop-i.invariant c.byte_at.ensures c.is_supported.ensures c.field-kind.ensures c.in_ok-add_if.ensures
