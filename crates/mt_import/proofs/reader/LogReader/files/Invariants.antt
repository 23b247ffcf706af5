use Rattle.std.proofs.Common.{◌≡◌}
use Rattle.mt_import.specs.Outcome.{files_of}
use Rattle.mt_import.specs.Reader.{values_in}
use Rattle.mt_import.proofs.reader.LogReader.files.Given as goal

abbrev pub invariant-files : goal.invariant-files
invariant-files l = l.files.items ≡ files_of (values_in l.supplied l.self) l.width l.capabilities l.k
