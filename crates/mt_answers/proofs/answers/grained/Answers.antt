use Rattle.std.proofs.Common.{◌≡◌, ◌++◌, ◌∙◌, List, ap, false, sym, subst}
use Rattle.std.specs.List.{All}
use Rattle.mt_regs.specs.RegisterFile.{RegisterFile, is_enabled}
use Rattle.mt_regs.proofs.Powers.{few_pages}
use Rattle.mt_types.specs.declared.run.Run.{Run}
use Rattle.mt_dump.specs.Canon.{canon}
use Rattle.mt_dump.specs.Dumps.{dump_of}
use Rattle.mt_gran.specs.Granules.{pages_of}
use Rattle.mt_answers.specs.Lines.{IsLine, disabled_line, lost_line, parts_text, used_line}
use Rattle.mt_answers.specs.declared.command.DumpCommand.TheVariants.{Gran}
use Rattle.mt_answers.specs.Answer.{FileAnswer, grained, gran_disabled, gran_too_few}
use Rattle.mt_answers.proofs.Answering.{answers_with}
use Rattle.mt_answers.proofs.Parting.{parts_have_lines}
use Rattle.mt_answers.proofs.answers.grained.Goals as goal

pub grained_text-requires : goal.grained_text-requires
grained_text-requires g c =
    subst (λ (parts : List Run). All IsLine parts) (sym c.as_slice-parts.ensures.runs)
    (parts_have_lines (pages_of c.args.f.now) c.args.log c.in-Ok.grained.parts (few_pages c.args.f.now.width c.is_register_file.ensures.narrow) c.in-Ok.ensures.ok.parts_are)

pub returns-in-Ok-grained_text-clause-bytes : goal.returns-in-Ok-grained_text-clause-bytes
returns-in-Ok-grained_text-clause-bytes g c =
    answers_with (FileAnswer c.args.f.now (Gran c.args.log c.args.spare c.args.chunk)) _ _ _ _ _ _
    (grained c.args.log c.args.spare c.args.chunk c.in-Ok.grained c.in-Ok.ensures.ok)
    (c.as_slice-in-Ok-grained_text.ensures.value ∙ c.in-Ok-grained_text.ensures
    ∙ ap (λ (parts : List Run). parts_text parts ++ lost_line c.in-Ok.grained.lost ++ used_line c.in-Ok.grained.tidied.used ++ canon (dump_of c.in-Ok.grained.tidied.file)) c.as_slice-parts.ensures.runs)
    c.written-in-Ok-grained_text.ensures.bytes

pub returns-then-not-is_enabled-clause-bytes : goal.returns-then-not-is_enabled-clause-bytes
returns-then-not-is_enabled-clause-bytes g c =
    let off : is_enabled c.args.f.now ≡ false = sym c.is_enabled.ensures ∙ c.if-not-is_enabled.true in
    answers_with (FileAnswer c.args.f.now (Gran c.args.log c.args.spare c.args.chunk)) _ _ _ _ _ _ (gran_disabled c.args.log c.args.spare c.args.chunk off)
    (c.as_slice.ensures.value ∙ c.disabled_line.ensures ∙ ap (λ (f : RegisterFile). disabled_line f.default_type) c.f.view_is) c.written.ensures.bytes

pub returns-in-Err-clause-bytes : goal.returns-in-Err-clause-bytes
returns-in-Err-clause-bytes g c =
    answers_with (FileAnswer c.args.f.now (Gran c.args.log c.args.spare c.args.chunk)) _ _ _ _ _ _ (gran_too_few c.args.log c.args.spare c.args.chunk c.in-Err.field-0.needs c.in-Err.field-0.has c.in-Err.ensures.err)
    (c.as_slice-in-Err.ensures.value ∙ c.too_few_line.ensures) c.written-in-Err.ensures.bytes
