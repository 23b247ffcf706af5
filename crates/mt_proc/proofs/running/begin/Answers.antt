use Rattle.std.proofs.Common.{◌≡◌, ◌∙◌, ℕ, List, ap, arith, inr, length, refl, sym, subst, [], None, Some}
use Rattle.std.proofs.lemmas.List.{length-map}
use Rattle.mt_stream.specs.declared.ending.Stop.TheVariants.{NoMemory, Refused}
use Rattle.mt_regs.specs.RegisterFile.{RegisterFile}
use Rattle.mt_regs.specs.StartFiles.{AreStartFiles}
use Rattle.mt_regs.specs.Agreement.{first_refusal}
use Rattle.mt_dump.specs.Dumps.{Dump, first_file, first_of}
use Rattle.mt_dump.specs.ForProcessors.{files_for}
use Rattle.mt_output.specs.Lines.{dump_refused_line}
use Rattle.mt_output.specs.Writing.{Adds}
use Rattle.mt_output.proofs.Writing.{passes_nothing}
use Rattle.mt_output.specs.Ports.{change, port}
use Rattle.mt_proc.specs.After.{at_first}
use Rattle.mt_proc.specs.Proc.{begins, in_requests}
use Rattle.mt_machine.specs.Machine.{Machine}
use Rattle.mt_proc.specs.Running.{IsDump}
use Rattle.mt_proc.specs.Serving.{Serves, idle, idling, served}
use Rattle.mt_proc.specs.declared.running.Run.{Run}
use Rattle.mt_proc.specs.declared.running.Run.TheVariants as run
use Rattle.mt_proc.proofs.Beginning.{each_accepted, first_for}
use Rattle.mt_proc.proofs.Served.{served_idling, serves_idling}
use Rattle.mt_proc.proofs.Taking.{ends, goes, leads_as}
use Rattle.mt_proc.proofs.running.begin.Goals as goal

pub new-requires-clause-start : goal.new-requires-clause-start
new-requires-clause-start g c =
    let none : first_refusal c.args.dump.now.files ≡ None = ap first_refusal (sym (c.as_slice.ensures.value ∙ ap (λ (d : Dump). d.files) c.dump.view_is)) ∙ sym c.first_refusal.ensures.refusal ∙ c.in_default.is in
    subst AreStartFiles (sym c.as_slice-2.ensures.value) (c.files_for-files.ensures.start (each_accepted c.args.dump.now.files none))

pub returns-in-Some-clause-bytes : goal.returns-in-Some-clause-bytes
returns-in-Some-clause-bytes g c = λ at leads.
    let here = record at { so_far = [] } in
    let k : ℕ = c.in-Some.k in
    let fault = c.in-Some.fault in
    let dump = c.args.dump.now in
    let line : c.as_slice-in-Some.result.now ≡ dump_refused_line dump.version k fault =
    c.as_slice-in-Some.ensures.value ∙ c.dump_refused_line-line.ensures ∙ ap (λ (d : Dump). dump_refused_line d.version k fault) c.dump.view_is in
    let refused : first_refusal dump.files ≡ Some (k, fault) = ap first_refusal (sym (c.as_slice.ensures.value ∙ ap (λ (d : Dump). d.files) c.dump.view_is)) ∙ sym c.in-Some.ensures.refusal in
    ends c.args.cpus here c.args.run.now (change c.args.writer.now c.tell.new.writer) (port g.K.Sink.taken c.args.sink.now c.tell.new.sink) (dump_refused_line dump.version k fault) Refused c.tell.result
    (leads_as c.args.cpus here (begins dump (first_refusal dump.files)) (begins dump (Some (k, fault))) (ap (begins dump) refused) leads) (λ is. cc is)
    (subst (λ l. Adds l (change c.args.writer.now c.tell.new.writer) (port g.K.Sink.taken c.args.sink.now c.tell.new.sink) c.tell.result) line c.tell.ensures.bytes) c.tell.ensures.stop

pub returns-in_default-new-clause-bytes : goal.returns-in_default-new-clause-bytes
returns-in_default-new-clause-bytes g c = λ at leads. inr (record { refused = refl; early = λ end lines. (_, refl); passed = passes_nothing c.args.writer.now (g.K.Sink.taken c.args.sink.now) })

pub returns-clause-bytes : goal.returns-clause-bytes
returns-clause-bytes g c = λ there leads.
    let here = record there { so_far = [] } in
    let dump = c.args.dump.now in
    let none : first_refusal dump.files ≡ None = ap first_refusal (sym (c.as_slice.ensures.value ∙ ap (λ (d : Dump). d.files) c.dump.view_is)) ∙ sym c.first_refusal.ensures.refusal ∙ c.in_default.is in
    let files : c.as_slice-2.result.now ≡ files_for c.args.cpus dump = c.as_slice-2.ensures.value ∙ c.files_for-files.ensures.files in
    let count : length c.as_slice-2.result.now ≡ c.args.cpus = ap (λ (fs : List RegisterFile). length fs) c.as_slice-2.ensures.value ∙ c.files_for-files.ensures.count c.requires.each in
    let first : first_of c.as_slice-2.result.now ≡ first_file dump = ap first_of files ∙ first_for c.args.cpus dump c.requires.some in
    let at : served c.in-Ok.processors ≡ at_first (first_file dump) =
    ap served c.in-Ok.ensures ∙ served_idling c.as_slice-2.result.now 0 (omega (arith, count, c.requires.some)) ∙ ap at_first first in
    let each : length c.in-Ok.processors.system.processors ≡ c.args.cpus = ap (λ (m : Machine). length m.system.processors) c.in-Ok.ensures ∙ length-map c.as_slice-2.result.now (idle 0) ∙ count in
    let start = subst AreStartFiles (sym c.as_slice-2.ensures.value) (c.files_for-files.ensures.start (each_accepted dump.files none)) in
    let serves : Serves c.in-Ok.processors =
    subst Serves (sym c.in-Ok.ensures) (serves_idling c.as_slice-2.result.now (omega (arith, count, c.requires.some)) (omega (arith, count, c.requires.few)) start) in
    goes c.args.cpus here (run.Requests c.in-Ok.processors) (change c.args.writer.now c.args.writer.now) (port g.K.Sink.taken c.args.sink.now c.args.sink.now) [] (in_requests (at_first (first_file dump)))
    (leads_as c.args.cpus here (begins dump (first_refusal dump.files)) (begins dump None) (ap (begins dump) none) leads) at tt (each, serves)
    (passes_nothing c.args.writer.now (g.K.Sink.taken c.args.sink.now))

-- the run is in the dump still
still : (r : Run) (m : Machine) → IsDump r → r ≡ run.Requests m → ⊥
still r m is same = subst IsDump same is

pub returns-in-Some-clause-starts : goal.returns-in-Some-clause-starts
returns-in-Some-clause-starts g c = λ m same. absurd (still c.args.run.now m c.requires.dump same)

pub returns-clause-starts : goal.returns-clause-starts
returns-clause-starts g c = λ m same.
    let is : c.in-Ok.processors ≡ m = cc same in
    sym is ∙ c.in-Ok.ensures ∙ ap (λ (fs : List RegisterFile). idling fs 0) (c.as_slice-2.ensures.value ∙ c.files_for-files.ensures.files)

pub returns-in-Some-clause-asks : goal.returns-in-Some-clause-asks
returns-in-Some-clause-asks g c = λ wants. let e : NoMemory ≡ Refused = c.tell.ensures.answer NoMemory wants in absurd (cc e)
