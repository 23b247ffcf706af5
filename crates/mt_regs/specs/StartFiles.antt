-- Which files the processors of one system may begin with (own).
use Rattle.std.specs.Prelude.{◌≡◌, List}
use Rattle.std.specs.List.{All}
use Rattle.mt_regs.specs.RegisterFile.{RegisterFile, IsRegisterFile}
use Rattle.mt_regs.specs.Faults.{IsAccepted}

-- one width, and one value of the capabilities
pub record SameKind (f g : RegisterFile) : Type 0 where
  pub width : f.width ≡ g.width
  pub capabilities : f.capabilities ≡ g.capabilities

-- any two are of one kind
abbrev pub AreOfOneKind : List RegisterFile → Type 0
AreOfOneKind files = All (λ f. All (SameKind f) files) files

-- processors may begin with files that differ, as long as each is accepted and all are of one kind
pub record AreStartFiles (files : List RegisterFile) : Type 0 where
  pub each : All IsRegisterFile files
  pub accepted : All IsAccepted files
  pub one_kind : AreOfOneKind files
