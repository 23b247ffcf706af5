use Rattle.std.proofs.Common.{◌≡◌, take}
use Rattle.mt_dump.proofs.dumps.copied.Given as goal

abbrev pub invariant-files : goal.invariant-files
invariant-files l = record {
  front : l.copy.items ≡ take l.f-index l.files;
}
