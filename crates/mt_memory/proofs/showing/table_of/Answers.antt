use Rattle.std.proofs.Common.{refl}
use Rattle.mt_memory.specs.Showing.{coreboot, e820, efi, iomem}
use Rattle.mt_memory.proofs.showing.table_of.Goals as goal

pub returns-in-E820 : goal.returns-in-E820
unfolding e820
returns-in-E820 c = rw c.in-E820.is refl

pub returns-in-Efi : goal.returns-in-Efi
unfolding efi
returns-in-Efi c = rw c.in-Efi.is refl

pub returns-in-Coreboot : goal.returns-in-Coreboot
unfolding coreboot
returns-in-Coreboot c = rw c.in-Coreboot.is refl

pub returns-in-Iomem : goal.returns-in-Iomem
unfolding iomem
returns-in-Iomem c = rw c.in-Iomem.is refl
