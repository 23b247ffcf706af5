use Rattle.std.proofs.Common.{◌≡◌, ◌++◌, drop}
use Rattle.std.specs.List.{flat_map}
use Rattle.mt_regs.specs.Registers.{writable}
use Rattle.mt_explain.specs.FieldFaults.{field_faults, register_faults}
use Rattle.mt_explain.proofs.faults.field_faults.Given as goal

abbrev pub invariant-loop-i : goal.invariant-loop-i
invariant-loop-i l = l.list.items ++ flat_map (register_faults l.f) (drop l.i (writable l.f)) ≡ field_faults l.f
