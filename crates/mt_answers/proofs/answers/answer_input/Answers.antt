use Rattle.std.proofs.Common.{◌∙◌, List, subst, ℕ}
use Rattle.mt_ports.specs.declared.status.Status.TheVariants.{BadText}
use Rattle.mt_output.specs.Written.{Writes}
use Rattle.mt_answers.specs.Written.{bad_input, good_input}
use Rattle.mt_answers.proofs.Endings.{answers_fit, never_answers}
use Rattle.mt_answers.proofs.answers.answer_input.Goals as goal

pub returns-in-Ok-Ok-clause-bytes : goal.returns-in-Ok-Ok-clause-bytes
returns-in-Ok-Ok-clause-bytes g c bytes is = good_input c.in-Ok-Ok.dump (rw c.in-Ok-Ok.field-0-is at (c.in-Ok-Ok.ensures.answer bytes is)) (c.in-Ok-Ok.ensures.end bytes is) c.answer.ensures.bytes

pub returns-in-Ok-Ok-clause-usage : goal.returns-in-Ok-Ok-clause-usage
returns-in-Ok-Ok-clause-usage g c = (never_answers c.in-Ok-Ok.dump c.args.command _ _ _ c.answer.ensures.bytes).0

pub returns-in-Ok-Ok-clause-read_fault : goal.returns-in-Ok-Ok-clause-read_fault
returns-in-Ok-Ok-clause-read_fault g c = record {
  rose = λ is. absurd ((never_answers c.in-Ok-Ok.dump c.args.command _ _ _ c.answer.ensures.bytes).1 is);
  stands = λ not. c.in-Ok-Ok.ensures.stands (λ e. cc e);
}

pub returns-in-Ok-Ok-clause-too_long : goal.returns-in-Ok-Ok-clause-too_long
returns-in-Ok-Ok-clause-too_long g c =
    (λ is. absurd ((never_answers c.in-Ok-Ok.dump c.args.command _ _ _ c.answer.ensures.bytes).2 is), λ much. absurd (cc (c.in-Ok-Ok.ensures.too_long.1 much)))

pub returns-in-Ok-Err-clause-bytes : goal.returns-in-Ok-Err-clause-bytes
returns-in-Ok-Err-clause-bytes g c bytes is =
    let wrote = subst (λ (t : List ℕ). Writes t BadText (g.K.Sink.taken c.args.sink.now) (g.K.Sink.taken c.written.new.sink) c.written.result) (c.as_slice.ensures.value ∙ c.bad_text_line.ensures) c.written.ensures.bytes in
    bad_input c.in-Ok-Err.fault (rw c.in-Ok-Err.field-0-is at (c.in-Ok-Err.ensures.answer bytes is)) (c.in-Ok-Err.ensures.end bytes is) wrote

pub returns-in-Ok-Ok-clause-few : goal.returns-in-Ok-Ok-clause-few
returns-in-Ok-Ok-clause-few g c = (answers_fit c.in-Ok-Ok.dump c.args.command _ _ _ c.answer.ensures.bytes).0

pub returns-in-Ok-Ok-clause-disabled : goal.returns-in-Ok-Ok-clause-disabled
returns-in-Ok-Ok-clause-disabled g c = (answers_fit c.in-Ok-Ok.dump c.args.command _ _ _ c.answer.ensures.bytes).1
