use Rattle.std.proofs.Common.{◌≡◌, ◌∙◌, ◌++◌, ap, refl, sym, subst, [], None, Some, Ok, Err}
use Rattle.mt_ports.specs.Puts.{AppendsFront}
use Rattle.mt_stream.specs.declared.ending.Stop.TheVariants.{BadText, NoMemory}
use Rattle.mt_output.specs.Writing.{Adds, PassesOn}
use Rattle.mt_output.proofs.Writing.{passes_nothing}
use Rattle.mt_output.specs.Ports.{change, port}
use Rattle.mt_proc.specs.After.{answer_text, asked}
use Rattle.mt_proc.specs.Proc.{in_requests, of_request, request_fault_line}
use Rattle.mt_proc.specs.Requests.{request_of}
use Rattle.mt_proc.specs.Serving.{served}
use Rattle.mt_proc.specs.declared.running.Run.TheVariants as run
use Rattle.mt_proc.proofs.Taking.{ends, fails, goes, leads_as}
use Rattle.mt_proc.proofs.running.take_request.Goals as goal

pub returns-in-Ok-None-clause-bytes : goal.returns-in-Ok-None-clause-bytes
returns-in-Ok-None-clause-bytes g c = λ cpus here each leads.
    let now = served c.args.processors.now in
    let is = rw c.in-Ok-None.field-0-is at c.in-Ok-None.ensures.answer in
    goes cpus here (run.Requests c.args.processors.now) (change c.args.writer.now c.args.writer.now) (port g.K.Sink.taken c.args.sink.now c.args.sink.now) [] (in_requests now)
    (leads_as cpus here (of_request now (request_of c.args.line.now.number c.args.line.now.bytes.now)) (of_request now (Ok None)) (ap (of_request now) (sym is)) leads) refl tt each
    (passes_nothing c.args.writer.now (g.K.Sink.taken c.args.sink.now))

pub returns-in-Ok-clause-bytes : goal.returns-in-Ok-clause-bytes
returns-in-Ok-clause-bytes g c = λ cpus here each leads.
    let now = served c.args.processors.now in
    let is = rw c.in-Ok-Some.field-0-is at c.in-Ok-Some.ensures.answer in
    let text : c.as_slice.result.now ≡ answer_text now c.in-Ok-Some.request = c.as_slice.ensures.value ∙ c.ask-answer.ensures.text in
    goes cpus here (run.Requests c.ask-answer.new.self) (change c.args.writer.now c.write.new.self) (port g.K.Sink.taken c.args.sink.now c.write.new.sink)
    (answer_text now c.in-Ok-Some.request) (in_requests (asked now c.in-Ok-Some.request))
    (leads_as cpus here (of_request now (request_of c.args.line.now.number c.args.line.now.bytes.now)) (of_request now (Ok (Some c.in-Ok-Some.request))) (ap (of_request now) (sym is)) leads)
    c.ask-answer.ensures.served tt (c.ask-answer.ensures.each ∙ each.0, c.ask-answer.ensures.serves)
    (subst (λ l. PassesOn c.args.writer.now l c.write.new.self (g.K.Sink.taken c.args.sink.now) (g.K.Sink.taken c.write.new.sink)) text c.in-Ok.ensures.bytes)

pub returns-in-Err-write-clause-bytes : goal.returns-in-Err-write-clause-bytes
returns-in-Err-write-clause-bytes g c = λ cpus here each leads.
    let now = served c.args.processors.now in
    let is = rw c.in-Ok-Some.field-0-is at c.in-Ok-Some.ensures.answer in
    let text : c.as_slice.result.now ≡ answer_text now c.in-Ok-Some.request = c.as_slice.ensures.value ∙ c.ask-answer.ensures.text in
    fails cpus here c.args.writer.now (answer_text now c.in-Ok-Some.request) (port g.K.Sink.taken c.args.sink.now c.write.new.sink) (in_requests (asked now c.in-Ok-Some.request))
    (leads_as cpus here (of_request now (request_of c.args.line.now.number c.args.line.now.bytes.now)) (of_request now (Ok (Some c.in-Ok-Some.request))) (ap (of_request now) (sym is)) leads)
    (subst (λ l. AppendsFront (g.K.Sink.taken c.args.sink.now) (g.K.Sink.taken c.write.new.sink) (c.args.writer.now ++ l)) text c.in-Err-write.ensures.bytes)

pub returns-in-Err-clause-bytes : goal.returns-in-Err-clause-bytes
returns-in-Err-clause-bytes g c = λ cpus here each leads.
    let now = served c.args.processors.now in
    let line : c.as_slice-in-Err.result.now ≡ request_fault_line c.in-Err.fault = c.as_slice-in-Err.ensures.value ∙ c.request_fault_line.ensures in
    ends cpus here (run.Requests c.args.processors.now) (change c.args.writer.now c.tell.new.writer) (port g.K.Sink.taken c.args.sink.now c.tell.new.sink) (request_fault_line c.in-Err.fault) BadText c.tell.result
    (leads_as cpus here (of_request now (request_of c.args.line.now.number c.args.line.now.bytes.now)) (of_request now (Err c.in-Err.fault)) (ap (of_request now) (sym c.in-Err.ensures.answer)) leads) (λ is. cc is)
    (subst (λ l. Adds l (change c.args.writer.now c.tell.new.writer) (port g.K.Sink.taken c.args.sink.now c.tell.new.sink) c.tell.result) line c.tell.ensures.bytes) c.tell.ensures.stop

pub returns-in-Err-clause-asks : goal.returns-in-Err-clause-asks
returns-in-Err-clause-asks g c = λ wants. let e : NoMemory ≡ BadText = c.tell.ensures.answer NoMemory wants in cc e
