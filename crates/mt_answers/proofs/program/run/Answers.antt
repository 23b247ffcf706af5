use Rattle.std.proofs.Common.{◌≡◌, ◌∙◌, ℕ, List, None, ap, map, refl, string_bytes, subst, sym}
use Rattle.std.specs.Prelude.{Err, IfErr, Ok, Result, String}
use Rattle.std.specs.declared.vec.IntoIter.{IntoIter}
use Rattle.mt_ports.specs.declared.status.Status.{Status}
use Rattle.mt_output.specs.Ports.{SinkRun, SourceRun}
use Rattle.mt_output.specs.Ports.{sink_run, source_run}
use Rattle.mt_output.specs.Program.{words_of}
use Rattle.mt_answers.specs.CommandLine.{command_of}
use Rattle.mt_answers.specs.Runs.{IsAnswered, IsUsage, IsUsageEnd, alone, answered, elsewhere, no_command}
use Rattle.mt_answers.proofs.SoundCommands.{is_threaded}
use Rattle.mt_answers.proofs.program.run.Goals as goal

pub returns-in-Ok-answer_words-clause-ends : goal.returns-in-Ok-answer_words-clause-ends
returns-in-Ok-answer_words-clause-ends g c =
    let words : map string_bytes c.deref.result.now ≡ words_of c.args.args = ap (map string_bytes) c.deref.ensures.value ∙ c.in-Ok.ensures.words in
    alone
    (subst
    (λ (w : List (List ℕ)).
    IsAnswered w (source_run g.S.Source.left g.S.Source.faults g.S.Source.given c.args.source.now c.answer_words.new.source) (sink_run g.K.Sink.taken g.K.Sink.faults c.args.sink.now c.answer_words.new.sink) c.in-Ok-answer_words.status)
    words c.in-Ok-answer_words.ensures.answered)

pub returns-clause-ends : goal.returns-clause-ends
returns-clause-ends g c =
    let words : map string_bytes c.deref.result.now ≡ words_of c.args.args = ap (map string_bytes) c.deref.ensures.value ∙ c.in-Ok.ensures.words in
    let says = is_threaded (command_of (map string_bytes c.deref.result.now)) c.in-Err.field-0 c.in-Err.ensures.threaded in
    let source = source_run g.S.Source.left g.S.Source.faults g.S.Source.given c.args.source.now c.answer_words.new.source in
    let wrote = c.wrong_usage.ensures in
    elsewhere c.in-Err.field-0 (ap command_of (sym words) ∙ says)
    (subst (λ k. IsUsage source (sink_run g.K.Sink.taken g.K.Sink.faults k c.wrong_usage.new.sink) c.wrong_usage.result) c.in-Err.ensures.untouched.1
    (record { unread = c.in-Err.ensures.untouched.0; bytes = wrote.bytes; ends = wrote.status; cause = wrote.cause }))

-- words that are no command line end as wrong usage
usage_ends : {S K : Type 0} (words : List (List ℕ)) (source : SourceRun S) (sink : SinkRun K) (status : Status) → IsAnswered words source sink status → command_of words ≡ None → IsUsageEnd status
usage_ends words source sink status (answered command says run) none = absurd (cc (says, none))
usage_ends words source sink status (no_command is run) none = run.ends

-- arguments that are no text are no words
of_words : {A B E : Type 0} (args : Result (IntoIter (String A) B) E) (status : Status) (P : E → Type 0)
    → (command_of (words_of args) ≡ None → IsUsageEnd status) → IfErr args (λ e. P e → IsUsageEnd status)
of_words (Ok words) status P ends = tt
of_words (Err e) status P ends = λ kind. ends refl

pub returns-in-Ok-answer_words-clause-no_text : goal.returns-in-Ok-answer_words-clause-no_text
returns-in-Ok-answer_words-clause-no_text g c =
    let words : map string_bytes c.deref.result.now ≡ words_of c.args.args = ap (map string_bytes) c.deref.ensures.value ∙ c.in-Ok.ensures.words in
    of_words c.args.args c.in-Ok-answer_words.status _ (λ none. usage_ends _ _ _ _ c.in-Ok-answer_words.ensures.answered (ap command_of words ∙ none))

pub returns-clause-no_text : goal.returns-clause-no_text
returns-clause-no_text g c = of_words c.args.args c.wrong_usage.result _ (λ none. c.wrong_usage.ensures.status)
