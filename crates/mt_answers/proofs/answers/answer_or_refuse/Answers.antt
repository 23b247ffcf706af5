use Rattle.mt_answers.specs.declared.command.DumpCommand.TheVariants.{Gran, Page, Tidy, Types}
use Rattle.mt_answers.proofs.Answering.{answers_about}
use Rattle.mt_answers.proofs.answers.answer_or_refuse.Goals as goal

pub returns-in-Show-clause-bytes : goal.returns-in-Show-clause-bytes
returns-in-Show-clause-bytes g c = rw c.in-Show.is c.show.ensures.bytes

pub returns-in_ok-accepted-in-Check-clause-bytes : goal.returns-in_ok-accepted-in-Check-clause-bytes
returns-in_ok-accepted-in-Check-clause-bytes g c = rw c.in-Check.is c.check.ensures.bytes

pub returns-in_ok-accepted-in-Types-clause-bytes : goal.returns-in_ok-accepted-in-Types-clause-bytes
returns-in_ok-accepted-in-Types-clause-bytes g c =
    let file = c.in_ok-accepted-in-Types.ensures in
    rw c.in-Types.is (answers_about c.args.d.now Types _ _ _ _ file.refusal file.file c.types.ensures.bytes)

pub returns-in_ok-accepted-in-Page-clause-bytes : goal.returns-in_ok-accepted-in-Page-clause-bytes
returns-in_ok-accepted-in-Page-clause-bytes g c =
    let file = c.in_ok-accepted-in-Page.ensures in
    rw c.in-Page.is (answers_about c.args.d.now (Page c.in-Page.address c.in-Page.index) _ _ _ _ file.refusal file.file c.page.ensures.bytes)

pub returns-in_ok-accepted-in-Tidy-clause-bytes : goal.returns-in_ok-accepted-in-Tidy-clause-bytes
returns-in_ok-accepted-in-Tidy-clause-bytes g c =
    let file = c.in_ok-accepted-in-Tidy.ensures in
    rw c.in-Tidy.is (answers_about c.args.d.now (Tidy c.in-Tidy.spare c.in-Tidy.chunk) _ _ _ _ file.refusal file.file c.tidied.ensures.bytes)

pub returns-in_ok-accepted-in-Gran-clause-bytes : goal.returns-in_ok-accepted-in-Gran-clause-bytes
returns-in_ok-accepted-in-Gran-clause-bytes g c =
    let file = c.in_ok-accepted-in-Gran.ensures in
    rw c.in-Gran.is (answers_about c.args.d.now (Gran c.in-Gran.log c.in-Gran.spare c.in-Gran.chunk) _ _ _ _ file.refusal file.file c.grained.ensures.bytes)
