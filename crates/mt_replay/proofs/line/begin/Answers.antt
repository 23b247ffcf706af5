use Rattle.std.proofs.Common.{◌≡◌, ◌∙◌, ap, inr, refl, subst, sym, ℕ, List, None, Some}
use Rattle.mt_regs.specs.Agreement.{first_refusal}
use Rattle.mt_output.specs.Lines.{dump_refused_line}
use Rattle.mt_output.specs.Writing.{Adds}
use Rattle.mt_output.proofs.Writing.{passes_nothing}
use Rattle.mt_stream.specs.declared.ending.Stop.TheVariants.{NoMemory, Refused}
use Rattle.mt_dump.specs.Dumps.{Dump}
use Rattle.mt_dump.specs.ForProcessors.{files_for}
use Rattle.mt_replay.specs.Kept.{HasEras}
use Rattle.mt_replay.specs.ReplayState.{ReplayState}
use Rattle.mt_replay.specs.Running.{StandsAt, dump_at}
use Rattle.mt_output.specs.Ports.{change, port}
use Rattle.mt_stream.proofs.Taking.{takes_last}
use Rattle.mt_replay.proofs.Files.{none_finished}
use Rattle.mt_replay.proofs.Taking.{dump_fails, dump_goes, dump_refused}
use Rattle.mt_replay.proofs.FirstRefusal.{all_accepted}
use Rattle.mt_replay.proofs.Sums.Last.{begins_refused}
use Rattle.mt_replay.specs.declared.line.Run.TheVariants as run
use Rattle.mt_replay.proofs.line.begin.Goals as goal

pub begin-requires-clause-accepted : goal.begin-requires-clause-accepted
begin-requires-clause-accepted g c =
    let none : first_refusal c.args.end.dump.files ≡ None = ap first_refusal (sym (c.as_slice-files.ensures.value ∙ ap (λ (d : Dump). d.files) c.dump.view_is)) ∙ sym c.first_refusal.ensures.refusal ∙ c.in_default.is in
    all_accepted c.args.end.dump.files none

pub returns-in-Some-clause-bytes : goal.returns-in-Some-clause-bytes
returns-in-Some-clause-bytes g c = λ number.
    let refused : first_refusal c.args.end.dump.files ≡ Some (c.in-Some.k, c.in-Some.fault) = ap first_refusal (sym (c.as_slice-files.ensures.value ∙ ap (λ (d : Dump). d.files) c.dump.view_is)) ∙ sym c.in-Some.ensures.refusal in
    let line : c.as_slice.result.now ≡ dump_refused_line c.args.end.dump.version c.in-Some.k c.in-Some.fault =
    c.as_slice.ensures.value ∙ c.dump_refused_line-line.ensures ∙ ap (λ (d : Dump). dump_refused_line d.version c.in-Some.k c.in-Some.fault) c.dump.view_is in
    takes_last (StandsAt c.args.run.now) (dump_at c.args.end.setup c.args.end.dump number) (dump_refused_line c.args.end.dump.version c.in-Some.k c.in-Some.fault) (change c.args.writer.now c.tell.new.writer)
    (port g.K.Sink.taken c.args.sink.now c.tell.new.sink) Refused c.tell.result (dump_refused c.args.end.setup c.args.end.dump number (c.in-Some.k, c.in-Some.fault) refused) (λ is. cc is)
    (subst (λ (l : List ℕ). Adds l (change c.args.writer.now c.tell.new.writer) (port g.K.Sink.taken c.args.sink.now c.tell.new.sink) c.tell.result) line c.tell.ensures.bytes) c.tell.ensures.stop

pub returns-in_default-begin-clause-bytes : goal.returns-in_default-begin-clause-bytes
returns-in_default-begin-clause-bytes g c = λ number. inr (record { refused = refl; early = λ end lines. (_, refl); passed = passes_nothing c.args.writer.now (g.K.Sink.taken c.args.sink.now) })

pub returns-in-Ok-write-clause-bytes : goal.returns-in-Ok-write-clause-bytes
returns-in-Ok-write-clause-bytes g c = λ number.
    let none : first_refusal c.args.end.dump.files ≡ None = ap first_refusal (sym (c.as_slice-files.ensures.value ∙ ap (λ (d : Dump). d.files) c.dump.view_is)) ∙ sym c.first_refusal.ensures.refusal ∙ c.in_default.is in
    dump_goes c.args.end.setup c.args.end.dump number c.in-Ok.replayer c.accepted_line.result.now (change c.args.writer.now c.write.new.self) (port g.K.Sink.taken c.args.sink.now c.write.new.sink) none c.in-Ok.ensures c.accepted_line.ensures c.in-Ok-write.ensures.bytes

pub returns-in-Err-clause-bytes : goal.returns-in-Err-clause-bytes
returns-in-Err-clause-bytes g c = λ number.
    let none : first_refusal c.args.end.dump.files ≡ None = ap first_refusal (sym (c.as_slice-files.ensures.value ∙ ap (λ (d : Dump). d.files) c.dump.view_is)) ∙ sym c.first_refusal.ensures.refusal ∙ c.in_default.is in
    dump_fails c.args.end.setup c.args.end.dump number c.args.writer.now c.accepted_line.result.now (port g.K.Sink.taken c.args.sink.now c.write.new.sink) none c.accepted_line.ensures c.in-Err.ensures.bytes

pub returns-in-Ok-write-clause-eras : goal.returns-in-Ok-write-clause-eras
returns-in-Ok-write-clause-eras g c = λ most. subst (λ (r : ReplayState). HasEras most r) (sym c.in-Ok.ensures) (none_finished most (files_for c.args.end.setup.cpus c.args.end.dump))

pub returns-in-Some-clause-state : goal.returns-in-Some-clause-state
returns-in-Some-clause-state g c =
    let refused : first_refusal c.args.end.dump.files ≡ Some (c.in-Some.k, c.in-Some.fault) = ap first_refusal (sym (c.as_slice-files.ensures.value ∙ ap (λ (d : Dump). d.files) c.dump.view_is)) ∙ sym c.in-Some.ensures.refusal in
    begins_refused c.args.end.setup c.args.end.dump (c.in-Some.k, c.in-Some.fault) c.args.run.now Refused c.tell.result c.tell.ensures.stop refused c.requires.head

pub returns-in-Ok-write-clause-state : goal.returns-in-Ok-write-clause-state
returns-in-Ok-write-clause-state g c =
    let none : first_refusal c.args.end.dump.files ≡ None = ap first_refusal (sym (c.as_slice-files.ensures.value ∙ ap (λ (d : Dump). d.files) c.dump.view_is)) ∙ sym c.first_refusal.ensures.refusal ∙ c.in_default.is in
    (none, ap run.Body c.in-Ok.ensures)

pub returns-in-Some-clause-asks : goal.returns-in-Some-clause-asks
returns-in-Some-clause-asks g c = λ wants. let e : NoMemory ≡ Refused = c.tell.ensures.answer NoMemory wants in absurd (cc e)
