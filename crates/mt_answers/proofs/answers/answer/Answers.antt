use Rattle.std.proofs.Common.{◌∙◌, ap, subst}
use Rattle.mt_dump.specs.Dumps.{Dump}
use Rattle.mt_output.specs.Lines.{dump_refused_line}
use Rattle.mt_answers.specs.Answer.{Answer, refused}
use Rattle.mt_answers.specs.Written.{Answers}
use Rattle.mt_answers.proofs.Answering.{answers_with}
use Rattle.mt_answers.proofs.answers.answer.Goals as goal

pub returns-in-Err-clause-bytes : goal.returns-in-Err-clause-bytes
returns-in-Err-clause-bytes g c =
    let says = c.in-Err.ensures in
    subst (λ k. Answers (Answer c.args.d.now c.args.command) (g.K.Sink.taken k) (g.K.Sink.taken c.written.new.sink) c.written.result) says.kept
    (answers_with (Answer c.args.d.now c.args.command) _ _ _ _ _ _ (refused c.args.command c.in-Err.k c.in-Err.fault says.refused says.refusal)
    (c.as_slice.ensures.value ∙ c.dump_refused_line-line.ensures ∙ ap (λ (d : Dump). dump_refused_line d.version c.in-Err.k c.in-Err.fault) c.d.view_is) c.written.ensures.bytes)
