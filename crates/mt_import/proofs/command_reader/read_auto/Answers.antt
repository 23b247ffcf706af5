use Rattle.std.proofs.Common.{◌∙◌, sym}
use Rattle.mt_text.specs.Text.{end_of}
use Rattle.mt_import.specs.Readers.{LeadsBest}
use Rattle.mt_import.proofs.Settling.{begins_best, best_course, err_outcome, ok_outcome}
use Rattle.mt_import.proofs.command_reader.read_auto.Goals as goal

pub returns-in-Ok-Ok-clause-answer : goal.returns-in-Ok-Ok-clause-answer
returns-in-Ok-Ok-clause-answer g c = λ bytes is.
    let supplied = c.args.supplied.now in
    let led : LeadsBest c.new.result.supplied.now c.new.result.readers.now c.new.result.census 1 (best_course supplied) =
    rw (c.new.ensures.supplied, c.new.ensures.readers, c.new.ensures.census) (begins_best supplied c.new-readers.result c.new-readers.ensures) in
    ok_outcome supplied bytes (end_of bytes) _ (sym c.in-Ok-Ok.field-0-is ∙ c.in-Ok-Ok.ensures.answer (best_course supplied) bytes led is)

pub returns-in-Ok-Err-clause-answer : goal.returns-in-Ok-Err-clause-answer
returns-in-Ok-Err-clause-answer g c = λ bytes is.
    let supplied = c.args.supplied.now in
    let led : LeadsBest c.new.result.supplied.now c.new.result.readers.now c.new.result.census 1 (best_course supplied) =
    rw (c.new.ensures.supplied, c.new.ensures.readers, c.new.ensures.census) (begins_best supplied c.new-readers.result c.new-readers.ensures) in
    err_outcome supplied bytes (end_of bytes) _ (sym c.in-Ok-Err.field-0-is ∙ c.in-Ok-Err.ensures.answer (best_course supplied) bytes led is)
