use Rattle.std.proofs.Common.{◌≡◌, ◌∙◌, ◌+◌, ap, refl, sym, subst, ℕ, List, [], append-nil}
use Rattle.mt_stream.specs.declared.ending.Stop.TheVariants.{BadText, NoMemory}
use Rattle.mt_script.specs.Lines.{offence_line}
use Rattle.mt_output.specs.Writing.{Adds}
use Rattle.mt_output.proofs.Writing.{passes_nothing}
use Rattle.mt_regs.specs.Agreement.{first_refusal}
use Rattle.mt_script.specs.Head.{goes_on, offends}
use Rattle.mt_stream.specs.Lines.{GoesOn, Path, Takes, at_line}
use Rattle.mt_output.specs.Ports.{change, port}
use Rattle.mt_proc.specs.Proc.{RequestState, begins, in_dump, in_requests, of_head, proc_step, situation_of}
use Rattle.mt_proc.specs.Running.{AllServe, AsksAt, HasOutput, StandsAt, path_from}
use Rattle.mt_proc.specs.Serving.{served}
use Rattle.mt_proc.specs.declared.running.Run.{Run}
use Rattle.mt_proc.specs.declared.running.Run.TheVariants as run
use Rattle.mt_proc.proofs.Taking.{ends, goes, in_the_dump, in_the_requests, leads_as, leads_by}
use Rattle.mt_proc.proofs.running.take_line.Goals as goal

pub returns-in-Ok-None-clause-bytes : goal.returns-in-Ok-None-clause-bytes
returns-in-Ok-None-clause-bytes g c = λ so_far was stands.
    let (p, at, quiet, from, each) = stands in
    let (before, read, in_it) = in_the_dump c.args.run.now c.in-Dump.reader p c.in-Dump.is at in
    let none : so_far ≡ [] = subst (λ (r : Run). HasOutput r so_far) c.in-Dump.is quiet in
    let is : was ≡ path_from c.args.cpus (in_dump before) = from ∙ ap (path_from c.args.cpus) in_it in
    let (after, holds, step) = rw c.in-Ok-None.field-0-is at (c.in-Ok-None.ensures.step (situation_of c.args.cpus) before refl read) in
    let number = c.args.line.now.number in
    let line = c.args.line.now.bytes.now in
    let here = at_line number line so_far (path_from c.args.cpus (in_dump before)) in
    let writer = change c.args.writer.now c.args.writer.now in
    let sink = port g.K.Sink.taken c.args.sink.now c.args.sink.now in
    subst (λ (q : Path). GoesOn (StandsAt c.args.cpus (run.Dump c.take_dump_line.new.dump)) (at_line number line so_far q) writer sink) (sym is)
    (goes c.args.cpus here (run.Dump c.take_dump_line.new.dump) writer sink [] (in_dump after)
    (leads_as c.args.cpus here (proc_step c.args.cpus number line (in_dump before)) (of_head (goes_on (situation_of c.args.cpus) after)) (ap of_head step) (leads_by c.args.cpus (in_dump before) number line so_far))
    holds (append-nil so_far ∙ none) tt (passes_nothing c.args.writer.now (g.K.Sink.taken c.args.sink.now)))

pub returns-in-Ok-Some-clause-bytes : goal.returns-in-Ok-Some-clause-bytes
returns-in-Ok-Some-clause-bytes g c = λ so_far was stands.
    let (p, at, quiet, from, each) = stands in
    let (before, read, in_it) = in_the_dump c.args.run.now c.in-Dump.reader p c.in-Dump.is at in
    let none : so_far ≡ [] = subst (λ (r : Run). HasOutput r so_far) c.in-Dump.is quiet in
    let is : was ≡ path_from c.args.cpus (in_dump before) = from ∙ ap (path_from c.args.cpus) in_it in
    let (holds, step) = rw c.in-Ok-Some.field-0-is at (c.in-Ok-Some.ensures.step (situation_of c.args.cpus) before refl read) in
    let number = c.args.line.now.number in
    let line = c.args.line.now.bytes.now in
    let here = at_line number line so_far (path_from c.args.cpus (in_dump before)) in
    let writer = change c.args.writer.now c.begin.new.writer in
    let sink = port g.K.Sink.taken c.args.sink.now c.begin.new.sink in
    let leads = leads_as c.args.cpus here (proc_step c.args.cpus number line (in_dump before)) (begins c.in-Ok-Some.dump (first_refusal c.in-Ok-Some.dump.files)) (ap of_head step) (leads_by c.args.cpus (in_dump before) number line so_far) in
    subst (λ (q : Path). Takes (StandsAt c.args.cpus c.begin.new.run) (at_line number line so_far q) writer sink c.begin.result) (sym is)
    (subst (λ (l : List ℕ). Takes (StandsAt c.args.cpus c.begin.new.run) (record here { so_far = l }) writer sink c.begin.result) (sym none) (c.begin.ensures.bytes here leads))

pub returns-in-Err-clause-bytes : goal.returns-in-Err-clause-bytes
returns-in-Err-clause-bytes g c = λ so_far was stands.
    let (p, at, quiet, from, each) = stands in
    let (before, read, in_it) = in_the_dump c.args.run.now c.in-Dump.reader p c.in-Dump.is at in
    let none : so_far ≡ [] = subst (λ (r : Run). HasOutput r so_far) c.in-Dump.is quiet in
    let is : was ≡ path_from c.args.cpus (in_dump before) = from ∙ ap (path_from c.args.cpus) in_it in
    let step = c.in-Err.ensures.step (situation_of c.args.cpus) before refl read in
    let number = c.args.line.now.number in
    let line = c.args.line.now.bytes.now in
    let text : c.as_slice.result.now ≡ offence_line c.in-Err.offence = c.as_slice.ensures.value ∙ c.offence_line.ensures in
    let here = at_line number line so_far (path_from c.args.cpus (in_dump before)) in
    let writer = change c.args.writer.now c.tell.new.writer in
    let sink = port g.K.Sink.taken c.args.sink.now c.tell.new.sink in
    subst (λ (q : Path). Takes (StandsAt c.args.cpus (run.Dump c.take_dump_line.new.dump)) (at_line number line so_far q) writer sink c.tell.result) (sym is)
    (ends c.args.cpus here (run.Dump c.take_dump_line.new.dump) writer sink (offence_line c.in-Err.offence) BadText c.tell.result
    (leads_as c.args.cpus here (proc_step c.args.cpus number line (in_dump before)) (of_head (offends c.in-Err.offence)) (ap of_head step) (leads_by c.args.cpus (in_dump before) number line so_far)) (λ is. cc is)
    (subst (λ l. Adds l (change c.args.writer.now c.tell.new.writer) (port g.K.Sink.taken c.args.sink.now c.tell.new.sink) c.tell.result) text c.tell.ensures.bytes) c.tell.ensures.stop)

pub returns-in-Requests-clause-bytes : goal.returns-in-Requests-clause-bytes
returns-in-Requests-clause-bytes g c = λ so_far was stands.
    let (p, at, quiet, from, each) = stands in
    let m = c.in-Requests.processors in
    let number = c.args.line.now.number in
    let line = c.args.line.now.bytes.now in
    let is : was ≡ path_from c.args.cpus (in_requests (served m)) = from ∙ ap (path_from c.args.cpus) (in_the_requests c.args.run.now m p c.in-Requests.is at) in
    let serve : AllServe c.args.cpus (run.Requests m) = subst (AllServe c.args.cpus) c.in-Requests.is each in
    let writer = change c.args.writer.now c.take_request.new.writer in
    let sink = port g.K.Sink.taken c.args.sink.now c.take_request.new.sink in
    subst (λ (q : Path). Takes (StandsAt c.args.cpus (run.Requests c.take_request.new.processors)) (at_line number line so_far q) writer sink c.take_request.result) (sym is)
    (c.take_request.ensures.bytes c.args.cpus (at_line number line so_far (path_from c.args.cpus (in_requests (served m)))) serve (leads_by c.args.cpus (in_requests (served m)) number line so_far))

pub returns-in-Requests-clause-asks : goal.returns-in-Requests-clause-asks
returns-in-Requests-clause-asks g c = λ p at wants. absurd (c.take_request.ensures.asks wants)

pub returns-in-Ok-None-clause-asks : goal.returns-in-Ok-None-clause-asks
returns-in-Ok-None-clause-asks g c = λ p at wants. absurd (cc wants)

pub returns-in-Ok-Some-clause-asks : goal.returns-in-Ok-Some-clause-asks
returns-in-Ok-Some-clause-asks g c = λ p at wants.
    let (before, read, in_it) = in_the_dump c.args.run.now c.in-Dump.reader p c.in-Dump.is at in
    let (holds, step) = rw c.in-Ok-Some.field-0-is at (c.in-Ok-Some.ensures.step (situation_of c.args.cpus) before refl read) in
    subst (λ (q : RequestState). AsksAt c.args.cpus q c.args.line.now.number c.args.line.now.bytes.now) (sym in_it) (c.in-Ok-Some.dump, step, c.begin.ensures.asks wants)

pub returns-in-Err-clause-asks : goal.returns-in-Err-clause-asks
returns-in-Err-clause-asks g c = λ p at wants. let e : NoMemory ≡ BadText = c.tell.ensures.answer NoMemory wants in absurd (cc e)
