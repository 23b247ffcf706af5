use Rattle.std.proofs.Common.{◌≡◌, ◌∙◌, ◌<◌, ap, length, refl, arith}
use Rattle.mt_output.proofs.Writing.{all_passed, none_passed, part_failed, part_passed}
use Rattle.mt_proc.proofs.Written.{next_line, none_left}
use Rattle.mt_proc.proofs.running.write_listing.Goals as goal

pub pairs-init : goal.pairs-init
pairs-init g c = record { lines = none_passed _ _ _; faults = refl }

pub returns-in-Err-clause-bytes : goal.returns-in-Err-clause-bytes
returns-in-Err-clause-bytes g c =
    let count : c.len-n-end.result ≡ length c.args.file.now.pairs = c.len-n-end.ensures.value ∙ ap (λ f. length f.pairs) c.file.view_is in
    let within : c.pairs.n < length c.args.file.now.pairs = omega (arith, count, c.pairs-test.true) in
    part_failed _ _ _ _ _ _ _ _ (g.K.Sink.taken c.write.new.sink)
    (next_line c.args.file.now c.pairs.n c.as_slice.result.now within (c.as_slice.ensures.value ∙ c.line_of-line.ensures.text)) c.pairs.invariant.lines c.in-Err.ensures.bytes

pub pairs-preserved : goal.pairs-preserved
pairs-preserved g c =
    let count : c.len-n-end.result ≡ length c.args.file.now.pairs = c.len-n-end.ensures.value ∙ ap (λ f. length f.pairs) c.file.view_is in
    let within : c.pairs.n < length c.args.file.now.pairs = omega (arith, count, c.pairs-test.true) in
    record {
      lines =
          part_passed _ _ _ _ _ _ _ _ (g.K.Sink.taken c.write.new.sink)
          (next_line c.args.file.now c.pairs.n c.as_slice.result.now within (c.as_slice.ensures.value ∙ c.line_of-line.ensures.text)) c.pairs.invariant.lines c.write.new.self c.in-Ok.ensures.bytes;
      faults = c.in-Ok.ensures.cause ∙ c.pairs.invariant.faults;
    }

pub returns-clause-bytes : goal.returns-clause-bytes
returns-clause-bytes g c =
    let count : c.len-n-end.result ≡ length c.args.file.now.pairs = c.len-n-end.ensures.value ∙ ap (λ f. length f.pairs) c.file.view_is in
    all_passed _ _ _ _ _ _ (none_left c.args.file.now c.pairs.n (omega (arith, count, c.pairs-test.false, c.pairs.auto.n-end))) c.pairs.invariant.lines
