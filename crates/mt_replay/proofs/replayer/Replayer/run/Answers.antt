use Rattle.std.proofs.Common.{◌∙◌, ◌++◌, ap, sym, subst}
use Rattle.mt_machine.specs.Start.{HasEraRoom}
use Rattle.mt_script.specs.Accept.{Fits, accepted}
use Rattle.mt_script.specs.Situation.{Situation}
use Rattle.mt_replay.specs.Kept.{IsReplayState}
use Rattle.mt_replay.specs.Parts.{state_of}
use Rattle.mt_replay.specs.ReplayState.{ReplayState, command_text, state_after}
use Rattle.mt_replay.proofs.Doing.{can_do}
use Rattle.mt_replay.proofs.Keeping.States.{state_kept}
use Rattle.mt_replay.proofs.replayer.Replayer.run.Goals as goal

pub do_command-requires-clause-can : goal.do_command-requires-clause-can
do_command-requires-clause-can g c κs within =
    can_do (state_of c.self.inside.parts) c.self.invariant c.args.c.now
    (subst (λ (s : ReplayState). Fits s.now c.args.c.now) (sym c.self.view_is) c.requires.fits)

pub do_command-requires-clause-room : goal.do_command-requires-clause-room
do_command-requires-clause-room g c κs within = subst (λ (s : ReplayState). HasEraRoom s.machine) (sym c.self.view_is) c.requires.room

pub returns-clause-text : goal.returns-clause-text
returns-clause-text g c = c.in_ok-do_command.ensures.text ∙ ap (λ (s : ReplayState). c.args.writer.now ++ command_text s c.args.c.now) c.self.view_is

pub returns-clause-after : goal.returns-clause-after
returns-clause-after g c =
    (λ i. record { now = (c.accept.ensures ∙ ap (λ (now : Situation). accepted now c.args.c.now) c.do_command.ensures.setup) i; machine = c.in_ok-do_command.ensures.machine i; goal = c.in_ok-do_command.ensures.goal i })
    ∙ ap (λ (s : ReplayState). state_after s c.args.c.now) c.self.view_is

pub invariant_of-self-2 : goal.invariant_of-self-2
invariant_of-self-2 g c =
    let s : ReplayState = state_of c.self.inside.parts in
    let kept : IsReplayState (state_after s c.args.c.now) =
    state_kept s c.args.c.now c.self.invariant (subst (λ (s : ReplayState). Fits s.now c.args.c.now) (sym c.self.view_is) c.requires.fits) in
    rw (c.accept.ensures, c.do_command.ensures.setup, c.in_ok-do_command.ensures.machine, c.in_ok-do_command.ensures.goal) kept
