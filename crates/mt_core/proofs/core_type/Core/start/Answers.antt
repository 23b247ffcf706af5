use Rattle.std.proofs.Common.{◌≡◌, sym, subst, true, []}
use Rattle.std.specs.List.{All}
use Rattle.mt_machine.specs.Access.{is_running}
use Rattle.mt_machine.specs.Machine.{FitsGoal, common_era}
use Rattle.mt_machine.specs.System.{System}
use Rattle.mt_laws.proofs.Invariant.Starts.{no_windows, start_is_quiet}
use Rattle.mt_core.proofs.core_type.Core.start.Goals as goal

pub new-requires-2-clause-running : goal.new-requires-2-clause-running
new-requires-2-clause-running c =
    subst (λ (s : System). All (λ p. is_running p.phase ≡ true) s.processors) (sym c.in_ok-system.ensures)
    (start_is_quiet c.args.files.now [] c.requires.start no_windows).running

pub new-requires-2-clause-one_era : goal.new-requires-2-clause-one_era
new-requires-2-clause-one_era c =
    subst (λ (s : System). All (λ p. p.era ≡ common_era s.processors) s.processors) (sym c.in_ok-system.ensures)
    (start_is_quiet c.args.files.now [] c.requires.start no_windows).one_era

pub new-requires-2-clause-one_kind : goal.new-requires-2-clause-one_kind
new-requires-2-clause-one_kind c =
    subst (λ (s : System). All (λ p. All (FitsGoal p.file) s.processors) s.processors) (sym c.in_ok-system.ensures)
    (start_is_quiet c.args.files.now [] c.requires.start no_windows).one_kind
