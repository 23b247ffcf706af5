use Rattle.std.proofs.Common.{◌≡◌, refl, ap, sym, arith, true, List, length}
use Rattle.std.specs.List.{All}
use Rattle.mt_machine.specs.System.{Processor}
use Rattle.mt_machine.specs.Access.{is_running}
use Rattle.mt_machine.specs.Machine.{FitsGoal, common_era}
use Rattle.mt_private.proofs.Alone.{one_all, runner_of}
use Rattle.mt_private.proofs.caller.visits.core_of.Goals as goal

pub new-requires-clause-few : goal.new-requires-clause-few
new-requires-clause-few c = let r = runner_of c.args.own c.requires in let n = ap (λ (ps : List Processor). length ps) r.alone in omega arith

pub new-requires-clause-running : goal.new-requires-clause-running
new-requires-clause-running c = let r = runner_of c.args.own c.requires in one_all (λ p. is_running p.phase ≡ true) c.args.own.processors r.cpu r.alone (ap is_running r.runs)

pub new-requires-clause-one_era : goal.new-requires-clause-one_era
new-requires-clause-one_era c = let r = runner_of c.args.own c.requires in one_all (λ p. p.era ≡ common_era c.args.own.processors) c.args.own.processors r.cpu r.alone (sym (ap common_era r.alone))

pub new-requires-clause-one_kind : goal.new-requires-clause-one_kind
new-requires-clause-one_kind c =
    let r = runner_of c.args.own c.requires in
    one_all (λ p. All (λ q. FitsGoal p.file q) c.args.own.processors) c.args.own.processors r.cpu r.alone
    (one_all (λ q. FitsGoal r.cpu.file q) c.args.own.processors r.cpu r.alone (record { width = refl; capabilities = refl }))
