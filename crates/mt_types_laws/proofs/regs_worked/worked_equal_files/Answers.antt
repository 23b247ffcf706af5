use Rattle.std.proofs.Common.{◌≡◌, ap, arith}
use Rattle.mt_regs.specs.RegisterFile.{RegisterFile}
use Rattle.mt_types_laws.specs.WorkedRows.{four_gigabytes, plain}
use Rattle.mt_types_laws.proofs.regs_worked.worked_equal_files.Goals as goal

pub returns-clause-not_equal : goal.returns-clause-not_equal
returns-clause-not_equal c = λ h.
    let same : plain ≡ four_gigabytes = h 0 plain (omega arith) 2 plain (omega arith) in
    let types : 0 ≡ 0x800 = ap (λ (f : RegisterFile). f.default_type) same in
    omega (arith, types)
