use Rattle.std.proofs.Common.{◌≡◌, ◌++◌}
use Rattle.mt_explain.specs.FieldFaults.{fixed_faults}
use Rattle.mt_explain.proofs.faults.add_fixed.Given as goal

abbrev pub invariant-loop-i : goal.invariant-loop-i
invariant-loop-i l = l.list.items ≡ l.fn.list.items ++ fixed_faults l.has_combining l.place l.value l.i
