use Rattle.std.proofs.Common.{◌≡◌, true}
use Rattle.mt_import.specs.Outcome.{is_nowhere}
use Rattle.mt_import.specs.Reader.{values_in}
use Rattle.mt_import.proofs.reader.LogReader.is_nowhere.Given as goal

abbrev pub invariant-processors : goal.invariant-processors
invariant-processors l = is_nowhere (values_in l.supplied l.self) l.k l.number ≡ true
