use Rattle.std.proofs.Common.{refl, [], ◌∷◌, codes}
use Rattle.mt_import_laws.proofs.worked.worked_warning.Goals as goal

pub returns : goal.returns
returns c = record {
  before = codes "0x277 6" ∷ [];
  line = codes "mtrr: your CPUs had inconsistent variable MTRR settings";
  others = [];
  lines = refl;
  warns = refl;
  short = refl;
  alone = refl;
}
