use Rattle.std.proofs.Common.{refl, subst, false, ℕ, List, []}
use Rattle.mt_script.specs.Situation.{at_start}
use Rattle.mt_ports.specs.declared.status.Status.{Status}
use Rattle.mt_output.specs.Ports.{Held, Port, sink_run, source_run}
use Rattle.mt_stream.specs.Handling.{ResultsOn}
use Rattle.mt_stream.specs.Results.{AsksBy, ResultsAs}
use Rattle.mt_stream.proofs.Whole.{ran, refused}
use Rattle.mt_replay.specs.Running.{AsksAt, Replays, path_from}
use Rattle.mt_replay.specs.Transcript.{from_point, in_head, replay_told, transcript}
use Rattle.mt_replay.proofs.Newcomers.{early_of_text}
use Rattle.mt_replay.proofs.RunningLaws.{replay_laws}
use Rattle.mt_replay.proofs.running.replay_with.Goals as goal

-- the early text is told by the steps of the text
as_replays : (h : Held) (p : Port) (status : Status) → ResultsOn (path_from false [] (in_head at_start [])) h p status → Replays h p status
as_replays h p status runs =
    subst (λ (early : List ℕ). ResultsAs (record { tells = transcript h.bytes; early = early }) replay_told h p status) (early_of_text h.bytes) runs

pub run_lines-requires-clause-laws : goal.run_lines-requires-clause-laws
run_lines-requires-clause-laws g c = replay_laws

pub returns-in_default : goal.returns-in_default
returns-in_default g c =
    refused (path_from false [] (in_head at_start [])) (AsksBy from_point AsksAt) Replays as_replays
    (source_run g.S.Source.left g.S.Source.faults g.S.Source.given c.args.source.now c.args.source.now)
    (sink_run g.K.Sink.taken g.K.Sink.faults c.args.sink.now c.args.sink.now) refl refl

pub returns : goal.returns
returns g c =
    let start = path_from false [] (in_head at_start []) in
    ran start (AsksBy from_point AsksAt) Replays as_replays
    (source_run g.S.Source.left g.S.Source.faults g.S.Source.given c.args.source.now c.run_lines.new.source)
    (sink_run g.K.Sink.taken g.K.Sink.faults c.args.sink.now c.run_lines.new.sink)
    c.run_lines.result c.run_status.result c.run_status.ensures.value (c.run_lines.ensures.bytes start (in_head at_start [], false, (c.new-2.ensures.setup, c.new-2.ensures.dump), (refl, refl), refl)) (c.run_lines.ensures.memory start (in_head at_start [], false, (c.new-2.ensures.setup, c.new-2.ensures.dump), (refl, refl), refl))
    (c.run_status.ensures.read_fault _ _ c.run_lines.ensures.source) (c.run_status.ensures.write_fault _ _ c.run_lines.ensures.sink) c.run_lines.ensures.too_long c.run_status.ensures.others
