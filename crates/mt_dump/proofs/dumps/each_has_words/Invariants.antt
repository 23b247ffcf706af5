use Rattle.std.proofs.Common.{drop}
use Rattle.std.specs.List.{AllByRecursion}
use Rattle.mt_regs.specs.Words.{HasWords}
use Rattle.mt_dump.proofs.dumps.each_has_words.Given as goal

abbrev pub invariant-files : goal.invariant-files
invariant-files l = record {
  rest : AllByRecursion HasWords (drop l.f-index l.files) → AllByRecursion HasWords l.files;
}
