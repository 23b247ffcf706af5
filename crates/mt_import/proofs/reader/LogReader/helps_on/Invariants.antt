use Rattle.std.proofs.Common.{◌≡◌, ◌≤◌, length, drop}
use Rattle.mt_import.specs.Reader.{helps_in}
use Rattle.mt_import.proofs.reader.LogReader.helps_on.Given as goal

abbrev pub invariant-registers : goal.invariant-registers
invariant-registers l = record {
  text : helps_in l.supplied l.self l.helps (drop l.i l.numbers) ≡ helps_in l.supplied l.self l.word l.numbers;
  short : length l.helps ≤ 19;
}
