use Rattle.std.proofs.Common.{◌≡◌, ◌-◌}
use Rattle.std.specs.List.{fold, range_with_len}
use Rattle.mt_cli.specs.Measured.{IsSetUp, measured_machine, with_own}
use Rattle.mt_cli.proofs.Owning.{EachNamesOwn, own_windows}
use Rattle.mt_cli.proofs.measured.measured_core.Given as goal

abbrev pub invariant-loop-k : goal.invariant-loop-k
invariant-loop-k l = record {
  machine : fold with_own l.core (range_with_len l.k (l.cpus - l.k)) ≡ measured_machine l.cpus;
  set_up : IsSetUp l.cpus l.core;
  windows : l.core.system.memory.windows ≡ own_windows l.k;
  own : EachNamesOwn l.core.system;
}
