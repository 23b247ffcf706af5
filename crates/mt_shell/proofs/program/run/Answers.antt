use Rattle.std.proofs.Common.{◌≡◌, ◌∷◌, ℕ, List, [], None, Option, ap, rules, subst, sym}
use Rattle.std.specs.Option.{unwrap_or}
use Rattle.mt_output.specs.Ports.{sink_run, source_run}
use Rattle.mt_output.specs.Program.{texts_of}
use Rattle.mt_shell.specs.Runs.{IsProgramRun, IsToldRun, ran}
use Rattle.mt_shell.proofs.Naming.{empty_names_no_file}
use Rattle.mt_shell.proofs.program.run.Goals as goal

pub returns-in-Err-NoText-clause-ends : goal.returns-in-Err-NoText-clause-ends
returns-in-Err-NoText-clause-ends g c =
    let none : texts_of c.args.args ≡ None = c.in-Err-NoText.ensures.none (search rules) in
    let source = source_run g.S.Source.left g.S.Source.faults g.S.Source.given c.args.source.now c.run_told.new.source in
    let sink = sink_run g.K.Sink.taken g.K.Sink.faults c.args.sink.now c.run_told.new.sink in
    let errors = sink_run g.E.Sink.taken g.E.Sink.faults c.args.errors.now c.run_told.new.errors in
    subst
    (λ (words : List (List ℕ)). IsProgramRun g.P.CommandLines.commands g.S.FileSource.opens g.P.Program.ends words source sink errors c.run_told.result)
    (sym (ap (λ (texts : Option (List (List ℕ))). unwrap_or texts ([] ∷ [])) none))
    (ran (empty_names_no_file g.P.CommandLines.commands.reads)
    (subst (λ (word : List ℕ). IsToldRun g.P.CommandLines.commands g.P.Program.ends (word ∷ []) source sink errors c.run_told.result) c.new.ensures.bytes c.run_told.ensures.told))
