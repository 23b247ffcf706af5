use Rattle.std.proofs.Common.{◌≡◌, drop}
use Rattle.mt_laws.specs.Parts.{written_back}
use Rattle.mt_list_machine.specs.Parts.{memory}
use Rattle.mt_list_machine.proofs.snoops.write_back_all.Given as goal

abbrev pub invariant-loop-i : goal.invariant-loop-i
invariant-loop-i l = written_back l.number (memory l.layout l.words) (drop l.i l.cpus) ≡ written_back l.number (memory l.layout l.fn.words) l.cpus
