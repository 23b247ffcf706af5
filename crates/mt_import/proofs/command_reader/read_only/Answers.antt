use Rattle.std.proofs.Common.{◌∙◌, ap, sym, Some, false}
use Rattle.mt_text.specs.Text.{end_of}
use Rattle.mt_import.specs.Import.{failed}
use Rattle.mt_import.proofs.Takes.{begins_log, log_course, only_outcome}
use Rattle.mt_import.proofs.command_reader.read_only.Goals as goal

pub returns-in-Ok-Ok-clause-answer : goal.returns-in-Ok-Ok-clause-answer
returns-in-Ok-Ok-clause-answer g c = λ bytes is.
    let supplied = c.args.supplied.now in
    let led = begins_log false supplied (Some c.args.format) c.new.result c.new.ensures in
    only_outcome c.args.format supplied bytes (end_of bytes) _ (sym c.in-Ok-Ok.field-0-is ∙ c.in-Ok-Ok.ensures.answer (log_course false supplied (Some c.args.format)) bytes led is)

pub returns-in-Ok-Err-clause-answer : goal.returns-in-Ok-Err-clause-answer
returns-in-Ok-Err-clause-answer g c = λ bytes is.
    let supplied = c.args.supplied.now in
    let led = begins_log false supplied (Some c.args.format) c.new.result c.new.ensures in
    c.failed.ensures.told ∙ ap (λ pick. failed pick c.in-Ok-Err.failure) c.table.ensures ∙ only_outcome c.args.format supplied bytes (end_of bytes) _ (sym c.in-Ok-Err.field-0-is ∙ c.in-Ok-Err.ensures.answer (log_course false supplied (Some c.args.format)) bytes led is)
