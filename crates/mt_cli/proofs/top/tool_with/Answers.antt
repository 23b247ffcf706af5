use Rattle.std.proofs.Common.{map, rules, string_bytes}
use Rattle.mt_answers.specs.CommandLine.{command_of}
use Rattle.mt_cli.proofs.Ran.{ran_from}
use Rattle.mt_answers.proofs.SoundCommands.{is_threaded, sound_threaded}
use Rattle.mt_cli.proofs.top.tool_with.Goals as goal

pub run_threaded-requires : goal.run_threaded-requires
run_threaded-requires g c =
    let words = map string_bytes c.args.words.now in
    (search rules, (search rules, sound_threaded words c.in-Err.command (is_threaded (command_of words) c.in-Err.command c.in-Err.ensures.threaded)))

pub returns-in-Ok : goal.returns-in-Ok
returns-in-Ok g c = c.in-Ok.ensures.ran

pub returns-in-Err : goal.returns-in-Err
returns-in-Err g c =
    let words = map string_bytes c.args.words.now in
    ran_from words g.S.Source.left g.S.Source.faults g.S.Source.given g.K.Sink.taken g.K.Sink.faults
    c.args.source.now c.answer_words.new.source c.run_threaded.new.source c.args.sink.now c.answer_words.new.sink c.run_threaded.new.sink c.run_threaded.result
    c.in-Err.ensures.untouched.0 c.in-Err.ensures.untouched.1
    (c.run_threaded.ensures words (is_threaded (command_of words) c.in-Err.command c.in-Err.ensures.threaded))
