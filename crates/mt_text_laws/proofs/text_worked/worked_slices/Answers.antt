use Rattle.std.proofs.Common.{codes, refl}
use Rattle.mt_text_laws.proofs.text_worked.worked_slices.Goals as goal

pub returns-clause-line : goal.returns-clause-line
returns-clause-line c = λ line bytes offset next. record {
  offset = offset;
  slice = rw (bytes, offset) refl;
  passed = codes "cd\n";
  next = next;
  after = record { offset = refl; bytes_are = refl };
}
