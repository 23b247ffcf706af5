use Rattle.std.proofs.Common.{◌≡◌, Option, Some, None, [], ◌∷◌, refl, codes}
use Rattle.mt_import.specs.declared.format.Format.{Format}
use Rattle.mt_import.specs.declared.format.Format.TheVariants.{Rdmsr, X86info, Inteltool, Coreboot, Edk2, Linux, Xen, Chipsec, Windbg, Plain}
use Rattle.mt_import.specs.declared.reading.LineSays.TheVariants.{Nothing}
use Rattle.mt_import.specs.Shown.{said_in, tells}
use Rattle.mt_import_laws.specs.Spare.{no_value_next, none_waits}
use Rattle.mt_import_laws.proofs.worked.worked_spare_line.Goals as goal

-- no format says anything of the heading
heading_says : (format : Option Format) → said_in format 1 (codes "the registers") ≡ Nothing
heading_says None = refl
heading_says (Some Rdmsr) = refl
heading_says (Some X86info) = refl
heading_says (Some Inteltool) = refl
heading_says (Some Coreboot) = refl
heading_says (Some Edk2) = refl
heading_says (Some Linux) = refl
heading_says (Some Xen) = refl
heading_says (Some Chipsec) = refl
heading_says (Some Windbg) = refl
heading_says (Some Plain) = refl

pub returns : goal.returns
unfolding tells
returns c = record {
  meets = record {
    before = codes "0x277 6" ∷ [];
    line = codes "that was all";
    others = codes "0x277 7" ∷ [];
    longer_lines = refl;
    shorter_lines = refl;
    spare = refl;
    takes_none_back = none_waits refl;
  };
  by_auto = record {
    before = [];
    line = codes "the registers";
    others = codes "0x277 6" ∷ codes "0x277 7" ∷ [];
    longer_lines = refl;
    shorter_lines = refl;
    spare = heading_says;
    takes_none_back = none_waits refl;
  };
  waits = λ takes. elim takes [
    | none_waits none ↦ cc none
    | no_value_next next ↦ next _ _ refl
  ];
  takes_back = no_value_next (λ value place is. cc is);
}
