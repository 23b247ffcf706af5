use Rattle.std.proofs.Common.{◌∙◌, Some, ap, map, refl, string_bytes, sym}
use Rattle.mt_answers.proofs.SoundCommands.{sound_serial}
use Rattle.mt_web.proofs.Answered.{answers_serial, answers_threaded, answers_usage}
use Rattle.mt_web.proofs.answering.answered_by.Goals as goal

pub run_serial-status-requires : goal.run_serial-status-requires
run_serial-status-requires c = sound_serial (map string_bytes c.args.words.now) c.in-Serial.command (sym c.in-Some.ensures ∙ ap Some c.in-Serial.is)

pub returns-in_default : goal.returns-in_default
returns-in_default c =
    answers_usage (map string_bytes c.args.words.now) c.args.input.now _ _ _ _ c.wrong_usage-status.result (sym c.in_default.ensures) c.new-sink.ensures c.wrong_usage-status.ensures.bytes
    c.ended.ensures.text c.ended.ensures.number

pub returns-in-Serial : goal.returns-in-Serial
returns-in-Serial c =
    let does = c.run_serial-status.ensures in
    answers_serial (map string_bytes c.args.words.now) c.args.input.now _ _ _ _ _ _ c.in-Serial.command c.run_serial-status.result (sym c.in-Some.ensures ∙ ap Some c.in-Serial.is)
    c.new-sink.ensures (rw (c.new-source.ensures.0, c.new-source.ensures.1) refl) does.read_fault does.bytes does.text c.ended-in-Serial.ensures.text c.ended-in-Serial.ensures.number

pub returns-in-Threaded : goal.returns-in-Threaded
returns-in-Threaded c =
    answers_threaded (map string_bytes c.args.words.now) c.args.input.now _ _ c.in-Threaded.field-0 (sym c.in-Some.ensures ∙ ap Some c.in-Threaded.is) c.threaded.ensures
