use Rattle.std.proofs.Common.{sym}
use Rattle.mt_mend.proofs.Writing.{has_register}
use Rattle.mt_mend.proofs.steps.switch_off.Goals as goal

pub put-requires : goal.put-requires
put-requires c = has_register c.args.file.now c.args.number c.in-Some.value c.requires (sym c.in-Some.ensures)
