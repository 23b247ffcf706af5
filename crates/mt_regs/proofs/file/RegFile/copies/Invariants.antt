use Rattle.std.proofs.Common.{◌≡◌, replicate}
use Rattle.mt_regs.proofs.file.RegFile.copies.Given as goal

abbrev pub invariant-loop : goal.invariant-loop
invariant-loop l = l.files.items ≡ replicate l.counter l.self
