use Rattle.std.proofs.Common.{◌≡◌, None}
use Rattle.mt_import.specs.Outcome.{noted}
use Rattle.mt_import.specs.Reader.{firm_in, values_in}
use Rattle.mt_import.proofs.reader.LogReader.noted.Given as goal

abbrev pub invariant-processors : goal.invariant-processors
invariant-processors l = noted (firm_in l.supplied l.self) (values_in l.supplied l.self) l.k l.number ≡ None
