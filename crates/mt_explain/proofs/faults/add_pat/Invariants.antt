use Rattle.std.proofs.Common.{◌≡◌, ◌++◌}
use Rattle.mt_explain.specs.FieldFaults.{pat_faults}
use Rattle.mt_explain.proofs.faults.add_pat.Given as goal

abbrev pub invariant-loop-i : goal.invariant-loop-i
invariant-loop-i l = l.list.items ≡ l.fn.list.items ++ pat_faults l.value l.i
