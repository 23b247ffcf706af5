use Rattle.std.proofs.Common.{◌≡◌, ◌≤◌, ◌*◌, length}
use Rattle.mt_import.specs.Outcome.{lacks_before}
use Rattle.mt_import.specs.Reader.{lacking_text_in, values_in}
use Rattle.mt_import.proofs.reader.LogReader.lacking_text.Given as goal

abbrev pub invariant-processors : goal.invariant-processors
invariant-processors l = record {
  text : l.text.items ≡ lacking_text_in l.supplied l.self l.number l.k;
  before : l.before ≡ lacks_before (values_in l.supplied l.self) l.k l.number;
  short : length l.text.items ≤ 3 * l.k;
}
