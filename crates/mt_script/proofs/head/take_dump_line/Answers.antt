use Rattle.std.proofs.Common.{◌≡◌, ◌∙◌, [], ap, sym, subst, true}
use Rattle.mt_text.specs.Text.{words_of}
use Rattle.mt_text.specs.declared.place.Place.{Place}
use Rattle.mt_dump.specs.Reader.{read_from}
use Rattle.mt_script.specs.Head.{end_step, ends_dump, shows, step_in_dump}
use Rattle.mt_script.specs.Words.{place_of}
use Rattle.mt_script.proofs.head.take_dump_line.Goals as goal

pub returns-in-Ok-clause-step : goal.returns-in-Ok-clause-step
returns-in-Ok-clause-step c = λ now before count read.
    let number = c.args.line.now.number in
    let line = c.args.line.now.bytes.now in
    let ends : ends_dump line ≡ true = sym c.ends_dump.ensures ∙ c.if-ends_dump.true in
    let (holds, shown) = c.in-Ok.ensures.step before read in
    let place : Place = place_of number (words_of line) 0 in
    let there : end_step c.args.cpus place (read_from place before []) ≡ shows c.in-Ok.d =
    subst (λ (p : Place). end_step c.args.cpus p (read_from p before []) ≡ shows c.in-Ok.d) c.first_place.ensures shown in
    (holds, ap (step_in_dump now before number line) ends ∙ ap (λ cpus. end_step cpus place (read_from place before [])) count ∙ there)
