use Rattle.std.proofs.Common.{refl, []}
use Rattle.mt_output.specs.Ports.{sink_run, source_run}
use Rattle.mt_stream.specs.Results.{AsksBy, ResultsIn}
use Rattle.mt_stream.proofs.Whole.{ran, refused}
use Rattle.mt_proc.specs.Proc.{from_point, in_dump, proc_told}
use Rattle.mt_proc.specs.Running.{AsksAt, path_from}
use Rattle.mt_proc.proofs.RunningLaws.{proc_laws}
use Rattle.mt_proc.proofs.running.proc_with.Goals as goal

pub run_lines-requires-clause-laws : goal.run_lines-requires-clause-laws
run_lines-requires-clause-laws g c = proc_laws

pub returns-in_default : goal.returns-in_default
returns-in_default g c =
    refused (path_from c.args.cpus (in_dump [])) (AsksBy (from_point c.args.cpus) (AsksAt c.args.cpus)) (ResultsIn (proc_told c.args.cpus) []) (λ h p status runs. runs)
    (source_run g.S.Source.left g.S.Source.faults g.S.Source.given c.args.source.now c.args.source.now)
    (sink_run g.K.Sink.taken g.K.Sink.faults c.args.sink.now c.args.sink.now) refl refl

pub returns : goal.returns
returns g c =
    let start = path_from c.args.cpus (in_dump []) in
    ran start (AsksBy (from_point c.args.cpus) (AsksAt c.args.cpus)) (ResultsIn (proc_told c.args.cpus) []) (λ h p status runs. runs)
    (source_run g.S.Source.left g.S.Source.faults g.S.Source.given c.args.source.now c.run_lines.new.source)
    (sink_run g.K.Sink.taken g.K.Sink.faults c.args.sink.now c.run_lines.new.sink)
    c.run_lines.result c.run_status.result c.run_status.ensures.value (c.run_lines.ensures.bytes start (in_dump [], c.new-2.ensures, refl, refl, tt)) (c.run_lines.ensures.memory start (in_dump [], c.new-2.ensures, refl, refl, tt))
    (c.run_status.ensures.read_fault _ _ c.run_lines.ensures.source) (c.run_status.ensures.write_fault _ _ c.run_lines.ensures.sink) c.run_lines.ensures.too_long c.run_status.ensures.others
