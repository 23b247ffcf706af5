use Rattle.std.proofs.Common.{◌≡◌, ℕ, ◌-◌, ◌<◌, ◌≤◌, ◌++◌, get_or, length, vec_capacity}
use Rattle.mt_machine.specs.declared.op.Op.{Op}
use Rattle.mt_machine.specs.Machine.{FitsOp}
use Rattle.mt_cli.specs.Measured.{behind_ops, drawn_ops}
use Rattle.mt_cli.proofs.measured.drawn_ops.Given as goal

abbrev pub invariant-loop-i : goal.invariant-loop-i
invariant-loop-i l = record {
  ops : l.ops.items ++ drawn_ops (l.count - l.i) l.x ≡ drawn_ops l.count l.first;
  behind : behind_ops (l.count - l.i) l.x ≡ behind_ops l.count l.first;
  fits : (k : ℕ) → k < l.i → (d : Op) → FitsOp (get_or l.ops.items k d);
  size : length l.ops.items ≡ l.i;
  room : l.count ≤ vec_capacity l.ops;
}
