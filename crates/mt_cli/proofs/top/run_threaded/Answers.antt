use Rattle.std.proofs.Common.{◌∙◌, Some, ap, refl}
use Rattle.mt_answers.specs.declared.command.Command.TheVariants.{Threaded}
use Rattle.mt_answers.specs.declared.command.ThreadedCommand.{ThreadedCommand}
use Rattle.mt_answers.specs.declared.command.ThreadedCommand.TheVariants.{Big, Private}
use Rattle.mt_cli.specs.Measured.{measured_text}
use Rattle.mt_cli.specs.Output.{big_text, measured, summed}
use Rattle.mt_output.specs.Ports.{sink_run, source_run}
use Rattle.mt_cli.proofs.Ran.{makes_ran, proc_ran, replay_ran}
use Rattle.mt_cli.proofs.top.run_threaded.Goals as goal

pub proc_with-requires-clause-some : goal.proc_with-requires-clause-some
proc_with-requires-clause-some g c κs within = let sound = rw c.in-Proc.is at c.requires in sound.0

pub proc_with-requires-clause-few : goal.proc_with-requires-clause-few
proc_with-requires-clause-few g c κs within = let sound = rw c.in-Proc.is at c.requires in sound.1

pub private-requires-clause-some : goal.private-requires-clause-some
private-requires-clause-some g c κs within = let sound = rw c.in-Private.is at c.requires in sound.0

pub private-requires-clause-few : goal.private-requires-clause-few
private-requires-clause-few g c κs within = let sound = rw c.in-Private.is at c.requires in sound.1

pub returns-in-Replay : goal.returns-in-Replay
returns-in-Replay g c words says =
    replay_ran words
    (source_run g.S.Source.left g.S.Source.faults g.S.Source.given c.args.source.now c.replay_with.new.source)
    (sink_run g.K.Sink.taken g.K.Sink.faults c.args.sink.now c.replay_with.new.sink)
    c.replay_with.result (says ∙ ap (λ (t : ThreadedCommand). Some (Threaded t)) c.in-Replay.is)
    c.replay_with.ensures

pub returns-in-Proc : goal.returns-in-Proc
returns-in-Proc g c words says =
    proc_ran words c.in-Proc.cpus
    (source_run g.S.Source.left g.S.Source.faults g.S.Source.given c.args.source.now c.proc_with.new.source)
    (sink_run g.K.Sink.taken g.K.Sink.faults c.args.sink.now c.proc_with.new.sink)
    c.proc_with.result (says ∙ ap (λ (t : ThreadedCommand). Some (Threaded t)) c.in-Proc.is)
    c.proc_with.ensures

pub returns-in-Big : goal.returns-in-Big
returns-in-Big g c words says =
    let is = says ∙ ap (λ (t : ThreadedCommand). Some (Threaded t)) c.in-Big.is in
    makes_ran words (big_text c.in-Big.n) (Threaded (Big c.in-Big.n))
    (source_run g.S.Source.left g.S.Source.faults g.S.Source.given c.args.source.now c.args.source.now)
    (sink_run g.K.Sink.taken g.K.Sink.faults c.args.sink.now c.big.new.sink)
    c.big.result is refl (λ none. tt) (λ bytes. summed c.in-Big.n is) refl c.big.ensures.bytes c.big.ensures.cause

pub returns-in-Private : goal.returns-in-Private
returns-in-Private g c words says =
    let is = says ∙ ap (λ (t : ThreadedCommand). Some (Threaded t)) c.in-Private.is in
    makes_ran words (measured_text c.in-Private.cpus c.in-Private.n c.in-Private.accesses) (Threaded (Private c.in-Private.cpus c.in-Private.n c.in-Private.accesses))
    (source_run g.S.Source.left g.S.Source.faults g.S.Source.given c.args.source.now c.args.source.now)
    (sink_run g.K.Sink.taken g.K.Sink.faults c.args.sink.now c.private.new.sink)
    c.private.result is refl (λ none. tt) (λ bytes. measured c.in-Private.cpus c.in-Private.n c.in-Private.accesses is) refl c.private.ensures.bytes c.private.ensures.cause
