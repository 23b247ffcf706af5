use Rattle.std.proofs.Common.{map, string_bytes}
use Rattle.mt_answers.specs.Runs.{IsAnswered}
use Rattle.mt_output.specs.Ports.{sink_run, source_run}
use Rattle.mt_cli.specs.Runs.{IsToolRun}
use Rattle.mt_cli.proofs.Ran.{answered_ran, if_ok}
use Rattle.mt_cli.proofs.top.answer_words.Goals as goal

pub returns-clause-ran : goal.returns-clause-ran
returns-clause-ran g c =
    let words = map string_bytes c.args.words.now in
    let source = source_run g.S.Source.left g.S.Source.faults g.S.Source.given c.args.source.now c.answer_words.new.source in
    let sink = sink_run g.K.Sink.taken g.K.Sink.faults c.args.sink.now c.answer_words.new.sink in
    if_ok (IsAnswered words source sink) (IsToolRun words source sink) c.answer_words.result (answered_ran words source sink) c.answer_words.ensures.answered
