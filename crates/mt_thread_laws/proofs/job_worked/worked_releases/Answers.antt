use Rattle.std.proofs.Common.{ap, sym, arith}
use Rattle.mt_regs.specs.RegisterFile.{RegisterFile}
use Rattle.mt_thread_laws.specs.WorkedYard.{lodger}
use Rattle.mt_thread_laws.proofs.Lodged.{not_same}
use Rattle.mt_thread_laws.proofs.job_worked.worked_releases.Goals as goal

pub returns : goal.returns
returns c h = not_same 2048 2054 (omega arith) (sym (ap (λ (f : RegisterFile). f.default_type) (h.settled 0 (lodger 0x100) (omega arith)).file))
