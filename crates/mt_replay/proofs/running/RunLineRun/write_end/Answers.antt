use Rattle.std.proofs.Common.{◌≡◌, ◌∙◌, ap, sym, subst, ℕ, List, None, Some}
use Rattle.mt_ports.specs.declared.status.Status.TheVariants.{BadText}
use Rattle.mt_script.specs.Lines.{offence_line}
use Rattle.mt_script.specs.Commands.{end_fault}
use Rattle.mt_script.specs.declared.fault.Offence.TheVariants.{Script}
use Rattle.mt_stream.specs.Lines.{Closes}
use Rattle.mt_output.specs.Ports.{port}
use Rattle.mt_stream.specs.Transcript.{Transcript, transcript_with}
use Rattle.mt_replay.specs.Running.{setup_of}
use Rattle.mt_replay.specs.Transcript.{told_at_end}
use Rattle.mt_replay.proofs.running.RunLineRun.write_end.Goals as goal

pub returns-in-Ok-clause-bytes : goal.returns-in-Ok-clause-bytes
returns-in-Ok-clause-bytes g c =
    let none : end_fault (setup_of c.args.self.now).stage c.args.end ≡ None = rw c.setup.ensures at c.in-Ok.ensures in
    subst (λ (t : Transcript). Closes t c.args.writer.now (port g.K.Sink.taken c.args.sink.now c.close.new.sink) c.close.result) (sym (ap told_at_end none)) c.close.ensures.bytes

pub returns-in-Err-clause-bytes : goal.returns-in-Err-clause-bytes
returns-in-Err-clause-bytes g c =
    let bad : end_fault (setup_of c.args.self.now).stage c.args.end ≡ Some c.in-Err.fault = rw c.setup.ensures at c.in-Err.ensures in
    let text : c.as_slice.result.now ≡ offence_line (Script c.in-Err.fault) = c.as_slice.ensures.value ∙ c.offence_line-line.ensures in
    subst (λ (t : Transcript). Closes t c.args.writer.now (port g.K.Sink.taken c.args.sink.now c.close-in-Err.new.sink) c.close-in-Err.result) (ap (λ (l : List ℕ). transcript_with l BadText) text ∙ sym (ap told_at_end bad)) c.close-in-Err.ensures.bytes
