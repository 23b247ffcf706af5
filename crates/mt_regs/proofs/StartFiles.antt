-- Files that processors begin with.
use Rattle.std.proofs.Common.{ℕ, replicate, refl}
use Rattle.std.proofs.lemmas.List.Elements.{All-replicate}
use Rattle.std.specs.List.{All}
use Rattle.mt_regs.specs.RegisterFile.{RegisterFile, IsRegisterFile}
use Rattle.mt_regs.specs.Faults.{IsAccepted}
use Rattle.mt_regs.specs.StartFiles.{AreStartFiles, SameKind}

-- so many equal files, where one is accepted
pub copies_start : (count : ℕ) (f : RegisterFile) → IsRegisterFile f → IsAccepted f → AreStartFiles (replicate count f)
copies_start count f is accepted = record {
  each = All-replicate IsRegisterFile count f is;
  accepted = All-replicate IsAccepted count f accepted;
  one_kind =
      All-replicate (λ g. All (SameKind g) (replicate count f)) count f
      (All-replicate (SameKind f) count f (record { width = refl; capabilities = refl }));
}
