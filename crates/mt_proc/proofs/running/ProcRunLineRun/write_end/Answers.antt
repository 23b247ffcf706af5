use Rattle.std.proofs.Common.{◌≡◌, ◌∙◌, ◌++◌, ap, sym, subst, List, ℕ, Err}
use Rattle.mt_ports.specs.Puts.{AppendsFront}
use Rattle.mt_ports.specs.declared.status.Status.TheVariants.{Done}
use Rattle.mt_output.specs.Writing.{PassesOn}
use Rattle.mt_output.proofs.Writing.{fails_longer}
use Rattle.mt_stream.specs.Lines.{Closes}
use Rattle.mt_output.specs.Ports.{change}
use Rattle.mt_stream.specs.Transcript.{transcript_with}
use Rattle.mt_stream.proofs.Taking.{closes_after}
use Rattle.mt_proc.specs.After.{era_line}
use Rattle.mt_proc.specs.Listing.{listing}
use Rattle.mt_proc.specs.Running.{end_of_run}
use Rattle.mt_proc.specs.Serving.{served}
use Rattle.mt_proc.specs.declared.running.Run.{Run}
use Rattle.mt_proc.proofs.running.ProcRunLineRun.write_end.Goals as goal

pub returns-in-Ok-clause-bytes : goal.returns-in-Ok-clause-bytes
returns-in-Ok-clause-bytes g c =
    let now = served c.in-Requests.processors in
    let a = g.K.Sink.taken c.args.sink.now in
    let b = g.K.Sink.taken c.write_listing.new.sink in
    let d = g.K.Sink.taken c.close-in-Ok.new.sink in
    let list : listing c.file.result.now ≡ listing now.file = ap listing c.file.ensures in
    let era : c.as_slice-in-Ok.result.now ≡ era_line now.count = c.as_slice-in-Ok.ensures.value ∙ c.era_line.ensures ∙ ap era_line c.count.ensures in
    let passed : PassesOn c.args.writer.now (listing now.file) c.write_listing.new.writer a b = subst (λ (l : List ℕ). PassesOn c.args.writer.now l c.write_listing.new.writer a b) list c.in-Ok.ensures.bytes in
    let closes : Closes (transcript_with (era_line now.count) Done) c.write_listing.new.writer (change b d) c.close-in-Ok.result = subst (λ (l : List ℕ). Closes (transcript_with l Done) c.write_listing.new.writer (change b d) c.close-in-Ok.result) era c.close-in-Ok.ensures.bytes in
    subst (λ (r : Run). Closes (end_of_run r c.args.end) c.args.writer.now (change a d) c.close-in-Ok.result) (sym c.in-Requests.is)
    (closes_after c.args.writer.now (listing now.file) c.write_listing.new.writer (era_line now.count) Done c.close-in-Ok.result a b d passed closes)

pub returns-in-Err-clause-bytes : goal.returns-in-Err-clause-bytes
returns-in-Err-clause-bytes g c =
    let now = served c.in-Requests.processors in
    let a = g.K.Sink.taken c.args.sink.now in
    let b = g.K.Sink.taken c.write_listing.new.sink in
    let failed : AppendsFront a b (c.args.writer.now ++ listing now.file) = subst (λ (l : List ℕ). AppendsFront a b (c.args.writer.now ++ l)) (ap listing c.file.ensures) c.in-Err.ensures.bytes in
    subst (λ (r : Run). Closes (end_of_run r c.args.end) c.args.writer.now (change a b) (Err c.in-Err.failed)) (sym c.in-Requests.is)
    (fails_longer c.args.writer.now (listing now.file) (era_line now.count) a b failed)
