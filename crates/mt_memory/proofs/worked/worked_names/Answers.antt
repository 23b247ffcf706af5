use Rattle.std.proofs.Common.{refl}
use Rattle.mt_memory.specs.Showing.{coreboot, e820, efi, iomem}
use Rattle.mt_memory.proofs.worked.worked_names.Goals as goal

pub returns-clause-e820 : goal.returns-clause-e820
unfolding e820
returns-clause-e820 c = (refl, (refl, (refl, (refl, (refl, tt)))))

pub returns-clause-efi : goal.returns-clause-efi
unfolding efi
returns-clause-efi c = (refl, (refl, (refl, (refl, (refl, (refl, (refl, tt)))))))

pub returns-clause-coreboot : goal.returns-clause-coreboot
unfolding coreboot
returns-clause-coreboot c = (refl, (refl, (refl, (refl, (refl, tt)))))

pub returns-clause-iomem : goal.returns-clause-iomem
unfolding iomem
returns-clause-iomem c = (refl, (refl, (refl, (refl, (refl, (refl, tt))))))
