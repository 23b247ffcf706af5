use Rattle.std.proofs.Common.{arith}
use Rattle.mt_explain.specs.declared.note.Note.TheVariants.{IdlePair}
use Rattle.mt_explain.specs.Notes.{is_note}
use Rattle.mt_explain.proofs.Noted.{more}
use Rattle.mt_explain.proofs.remarks.add_pairs.Goals as goal

pub loop-n-preserved : goal.loop-n-preserved
loop-n-preserved c = more (is_note c.args.f.now) IdlePair 0 c.loop-n.n c.loop-n.n c.args.list.now.items c.loop-n.list.items _ (omega arith) c.loop-n.invariant c.in_ok-add.ensures
