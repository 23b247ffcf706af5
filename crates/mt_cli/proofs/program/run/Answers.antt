use Rattle.std.proofs.Common.{◌≡◌, ◌∙◌, ℕ, List, None, ap, inl, inr, map, refl, string_bytes, subst}
use Rattle.std.specs.Prelude.{◌⊎◌, Err, IfErr, Ok, Result, String}
use Rattle.std.specs.declared.vec.IntoIter.{IntoIter}
use Rattle.mt_ports.specs.declared.status.Status.{Status}
use Rattle.mt_ports.specs.declared.status.Status.TheVariants.{Usage, WriteFault}
use Rattle.mt_output.specs.Program.{words_of}
use Rattle.mt_answers.specs.CommandLine.{command_of}
use Rattle.mt_output.specs.Ports.{sink_run, source_run}
use Rattle.mt_cli.specs.Runs.{IsRun}
use Rattle.mt_cli.proofs.Ran.{of_error, starved_run}
use Rattle.mt_cli.proofs.program.run.Goals as goal

pub returns-in-Ok-clause-run : goal.returns-in-Ok-clause-run
returns-in-Ok-clause-run g c =
    subst
    (λ (w : List (List ℕ)).
    IsRun w (source_run g.S.Source.left g.S.Source.faults g.S.Source.given c.args.source.now c.tool.new.source) (sink_run g.K.Sink.taken g.K.Sink.faults c.args.sink.now c.tool.new.sink) c.tool.result)
    (ap (map string_bytes) c.deref.ensures.value ∙ c.in-Ok.ensures.words) c.tool.ensures.run

pub returns-in-Ok-clause-no_command : goal.returns-in-Ok-clause-no_command
returns-in-Ok-clause-no_command g c = λ none.
    let words : map string_bytes c.deref.result.now ≡ words_of c.args.args = ap (map string_bytes) c.deref.ensures.value ∙ c.in-Ok.ensures.words in
    elim (c.tool.ensures.no_command (ap command_of words ∙ none)) [ inl is ↦ inl is | inr is ↦ inr (inl is) ]

pub returns-in-Ok-clause-no_memory : goal.returns-in-Ok-clause-no_memory
returns-in-Ok-clause-no_memory g c = of_error _ _ c.args.args (λ e starved is. let no = starved is in absurd (cc no)) c.in-Ok.ensures.no_memory

pub returns-in-Err-clause-run : goal.returns-in-Err-clause-run
returns-in-Err-clause-run g c =
    starved_run (words_of c.args.args) (source_run g.S.Source.left g.S.Source.faults g.S.Source.given c.args.source.now c.args.source.now)
    (sink_run g.K.Sink.taken g.K.Sink.faults c.args.sink.now c.args.sink.now) refl refl

-- arguments that are no text are no words
of_words : {A B E : Type 0} (args : Result (IntoIter (String A) B) E) (result : Status) (P : E → Type 0)
    → (command_of (words_of args) ≡ None → (result ≡ Usage) ⊎ (result ≡ WriteFault)) → IfErr args (λ e. P e → (result ≡ Usage) ⊎ (result ≡ WriteFault))
of_words (Ok words) result P ends = tt
of_words (Err e) result P ends = λ kind. ends refl

pub returns-in-Ok-clause-no_text : goal.returns-in-Ok-clause-no_text
returns-in-Ok-clause-no_text g c =
    let words : map string_bytes c.deref.result.now ≡ words_of c.args.args = ap (map string_bytes) c.deref.ensures.value ∙ c.in-Ok.ensures.words in
    of_words c.args.args c.tool.result _ (λ none. c.tool.ensures.no_command (ap command_of words ∙ none))

pub returns-in-Err-clause-no_text : goal.returns-in-Err-clause-no_text
returns-in-Err-clause-no_text g c = of_error _ _ c.args.args (λ e gives kind. absurd (gives kind)) c.in-Err.ensures.no_text
