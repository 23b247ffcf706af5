use Rattle.std.proofs.Common.{◌∙◌, Some, ap, map, refl, string_bytes, sym}
use Rattle.mt_answers.specs.CommandLine.{threaded_of}
use Rattle.mt_answers.specs.Runs.{answered, no_command}
use Rattle.mt_answers.proofs.SoundCommands.{sound_serial}
use Rattle.mt_answers.proofs.program.answer_words.Goals as goal

pub run_serial-requires : goal.run_serial-requires
run_serial-requires g c = sound_serial (map string_bytes c.args.words.now) c.in-Serial.command (sym c.in-Some.ensures ∙ ap Some c.in-Serial.is)

pub returns-in_default-clause-answered : goal.returns-in_default-clause-answered
returns-in_default-clause-answered g c =
    let wrote = c.wrong_usage.ensures in
    no_command (sym c.in_default.ensures) (record { unread = refl; bytes = wrote.bytes; ends = wrote.status; cause = wrote.cause })

pub returns-in-Serial-clause-answered : goal.returns-in-Serial-clause-answered
returns-in-Serial-clause-answered g c = answered c.in-Serial.command (sym c.in-Some.ensures ∙ ap Some c.in-Serial.is) c.run_serial.ensures

pub returns-in_default-clause-threaded : goal.returns-in_default-clause-threaded
returns-in_default-clause-threaded g c = ap threaded_of (sym c.in_default.ensures)

pub returns-in-Serial-clause-threaded : goal.returns-in-Serial-clause-threaded
returns-in-Serial-clause-threaded g c = ap threaded_of (sym c.in-Some.ensures ∙ ap Some c.in-Serial.is)

pub returns-in-Threaded-clause-threaded : goal.returns-in-Threaded-clause-threaded
returns-in-Threaded-clause-threaded g c = ap threaded_of (sym c.in-Some.ensures ∙ ap Some c.in-Threaded.is)
