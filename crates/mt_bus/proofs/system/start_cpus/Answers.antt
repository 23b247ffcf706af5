use Rattle.std.proofs.Common.{◌∙◌, sym, subst}
use Rattle.mt_regs.specs.Faults.{IsAccepted}
use Rattle.mt_bus.proofs.system.start_cpus.Goals as goal

pub new-requires : goal.new-requires
new-requires c = subst IsAccepted (sym (c.same.ensures ∙ c.file-item.is)) (c.requires c.loop-file.file-index c.file-item.result c.loop-file-test.true)
