use Rattle.std.proofs.Common.{refl}
use Rattle.mt_import_laws.proofs.worked.worked_table.Goals as goal

pub returns : goal.returns
returns c = record {
  words = refl;
  alone = record { asked = refl; has = refl; lines = refl };
}
