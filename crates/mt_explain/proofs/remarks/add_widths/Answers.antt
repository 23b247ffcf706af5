use Rattle.std.proofs.Common.{◌+◌, refl, arith}
use Rattle.mt_explain.specs.declared.note.Note.TheVariants.{OtherWidth}
use Rattle.mt_explain.specs.Notes.{is_note}
use Rattle.mt_explain.proofs.Noted.{all_widths, more}
use Rattle.mt_explain.proofs.remarks.add_widths.Goals as goal

pub loop-i-preserved : goal.loop-i-preserved
loop-i-preserved c = more (is_note c.args.f.now) OtherWidth 32 c.loop-i.i (32 + c.loop-i.i) c.args.list.now.items c.loop-i.list.items _ refl c.loop-i.invariant c.in_ok-add.ensures

pub returns : goal.returns
returns c = all_widths (is_note c.args.f.now) c.args.list.now.items c.loop-i.list.items c.loop-i.i (omega (arith, c.loop-i.auto.i-end, c.loop-i-test.false)) c.loop-i.invariant
