use Rattle.std.proofs.Common.{◌≡◌, false}
use Rattle.mt_import.specs.Outcome.{is_missing}
use Rattle.mt_import.specs.Reader.{values_in}
use Rattle.mt_import.proofs.reader.LogReader.is_missing.Given as goal

abbrev pub invariant-processors : goal.invariant-processors
invariant-processors l = is_missing (values_in l.supplied l.self) l.k l.number ≡ false
