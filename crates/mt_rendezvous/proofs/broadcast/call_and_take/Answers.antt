use Rattle.std.proofs.Common.{◌∙◌, ap, length}
use Rattle.mt_machine.specs.Machine.{Machine}
use Rattle.mt_core.specs.Rounds.{each_steps}
use Rattle.mt_rendezvous.proofs.Broadcasts.{has_taken}
use Rattle.mt_rendezvous.proofs.broadcast.call_and_take.Goals as goal

pub returns-clause-taken : goal.returns-clause-taken
returns-clause-taken c = let e = c.in_ok-call.ensures.called in
    has_taken c.args.core.now c.args.goal.now _ c.a_core_arises.ensures.arises c.requires.some c.requires.room (e.0, c.is_register_file.ensures, e.1, c.requires.fits)
    (c.take_all.ensures.steps ∙ ap each_steps e.2) (c.take_all.ensures.count ∙ ap (λ (m : Machine). length m.system.processors) e.2)
