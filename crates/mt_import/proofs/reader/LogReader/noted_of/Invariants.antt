use Rattle.std.proofs.Common.{◌≡◌, ◌≤◌, ◌*◌, length}
use Rattle.mt_import.specs.Outcome.{noted_of}
use Rattle.mt_import.specs.Reader.{firm_in, values_in}
use Rattle.mt_import.proofs.reader.LogReader.noted_of.Given as goal

abbrev pub invariant-processors : goal.invariant-processors
invariant-processors l = record {
  text : l.processors.items ≡ noted_of (firm_in l.supplied l.self) (values_in l.supplied l.self) l.k l.number l.value;
  short : length l.processors.items ≤ 3 * l.k;
}
