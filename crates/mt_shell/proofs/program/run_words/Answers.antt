use Rattle.std.proofs.Common.{map, refl, rules, string_bytes, subst}
use Rattle.mt_output.specs.Ports.{sink_run, source_run}
use Rattle.mt_shell.specs.Runs.{IsToldRun, over_file, unopened}
use Rattle.mt_shell.proofs.program.run_words.Goals as goal

pub returns-then-not-open-clause-ends : goal.returns-then-not-open-clause-ends
returns-then-not-open-clause-ends g c =
    unopened (map string_bytes c.in-Some.front.now) c.in-Some.file.now (search rules) (c.open.ensures.unopened (search rules)) refl refl (c.open.ensures.told (search rules))

pub returns-else-not-open-clause-ends : goal.returns-else-not-open-clause-ends
returns-else-not-open-clause-ends g c =
    let on = c.open.ensures.opened (search rules) in
    over_file (map string_bytes c.in-Some.front.now) c.in-Some.file.now c.open.new.source (search rules)
    (record { standard = on.standard; named = on.named; faults = on.faults; given = on.given })
    (subst
    (λ errors. IsToldRun g.P.CommandLines.commands g.P.Program.ends (map string_bytes c.in-Some.front.now) (source_run g.S.Source.left g.S.Source.faults g.S.Source.given c.open.new.source c.run_told-in-Some.new.source)
    (sink_run g.K.Sink.taken g.K.Sink.faults c.args.sink.now c.run_told-in-Some.new.sink) (sink_run g.E.Sink.taken g.E.Sink.faults errors c.run_told-in-Some.new.errors) c.run_told-in-Some.result)
    (c.open.ensures.quiet (search rules)) c.run_told-in-Some.ensures.told)
