use Rattle.std.proofs.Common.{refl}
use Rattle.mt_memory.specs.Showing.{coreboot, e820, efi, iomem}
use Rattle.mt_memory.proofs.worked.worked_lines.Goals as goal

pub returns-clause-linux : goal.returns-clause-linux
unfolding e820
returns-clause-linux c = refl

pub returns-clause-older_linux : goal.returns-clause-older_linux
unfolding e820
returns-clause-older_linux c = refl

pub returns-clause-xen : goal.returns-clause-xen
unfolding e820
returns-clause-xen c = refl

pub returns-clause-older_xen : goal.returns-clause-older_xen
unfolding e820
returns-clause-older_xen c = refl

pub returns-clause-efi : goal.returns-clause-efi
unfolding efi
returns-clause-efi c = refl

pub returns-clause-shell : goal.returns-clause-shell
unfolding efi
returns-clause-shell c = refl

pub returns-clause-coreboot : goal.returns-clause-coreboot
unfolding coreboot
returns-clause-coreboot c = refl

pub returns-clause-iomem : goal.returns-clause-iomem
unfolding iomem
returns-clause-iomem c = refl
