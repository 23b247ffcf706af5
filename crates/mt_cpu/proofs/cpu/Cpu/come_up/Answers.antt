use Rattle.std.proofs.Common.{sym, subst}
use Rattle.mt_regs.specs.Faults.{IsAccepted}
use Rattle.mt_machine.proofs.Blank.{blank_is_accepted}
use Rattle.mt_cpu.proofs.cpu.Cpu.come_up.Goals as goal

pub new-requires : goal.new-requires
new-requires c = subst IsAccepted (sym c.in-Ok.ensures.file) (blank_is_accepted c.args.maxphy c.args.cap)
