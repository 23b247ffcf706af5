use Rattle.std.proofs.Common.{refl}
use Rattle.mt_import.proofs.digits.rows_have_their_digits.Goals as goal

pub returns-clause-inteltool : goal.returns-clause-inteltool
returns-clause-inteltool c = (refl, (refl, (refl, (refl, tt))))

pub returns-clause-x86info : goal.returns-clause-x86info
returns-clause-x86info c = (refl, (refl, (refl, (refl, (refl, (refl, (refl, (refl, tt))))))))

pub returns-clause-chipsec : goal.returns-clause-chipsec
returns-clause-chipsec c = (refl, (refl, (refl, (refl, (refl, (refl, (refl, tt)))))))

pub returns-clause-windbg : goal.returns-clause-windbg
returns-clause-windbg c = (refl, (refl, (refl, (refl, (refl, (refl, tt))))))

pub returns-clause-plain : goal.returns-clause-plain
returns-clause-plain c = (refl, (refl, (refl, (refl, (refl, (refl, (refl, (refl, (refl, (refl, (refl, (refl, (refl, (refl, (refl, (refl, (refl, (refl, (refl, (refl, (refl, (refl, (refl, (refl, (refl, (refl, (refl, (refl, (refl, (refl, (refl, (refl, (refl, (refl, (refl, (refl, (refl, (refl, (refl, (refl, (refl, (refl, tt))))))))))))))))))))))))))))))))))))))))))
