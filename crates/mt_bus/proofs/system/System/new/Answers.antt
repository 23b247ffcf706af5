use Rattle.std.proofs.Common.{[], sym, subst}
use Rattle.mt_machine.specs.System.{IsSound, System}
use Rattle.mt_laws.proofs.Invariant.Starts.{no_windows, start_is_quiet}
use Rattle.mt_bus.specs.Tables.{AreTablesOf}
use Rattle.mt_bus.proofs.system.System.new.Goals as goal

pub invariant_of-result : goal.invariant_of-result
invariant_of-result c =
    subst (λ (s : System). IsSound s × AreTablesOf s.processors c.in_ok-tables.tables.items) (sym c.in_ok-bus.ensures)
    ((start_is_quiet c.args.files.now [] c.requires.start no_windows).sound, c.in_ok-tables.ensures)
