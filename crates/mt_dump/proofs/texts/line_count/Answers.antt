use Rattle.std.proofs.Common.{◌∙◌, ap, length, subst, sym}
use Rattle.mt_regs.specs.RegisterFile.{RegisterFile}
use Rattle.mt_regs.specs.Registers.{writable}
use Rattle.mt_dump.specs.Dumps.{Dump, IsDump}
use Rattle.mt_dump.proofs.CanonicalLines.{version_2_count}
use Rattle.mt_dump.proofs.texts.line_count.Goals as goal

pub returns-then-d-eq2-clause-count : goal.returns-then-d-eq2-clause-count
returns-then-d-eq2-clause-count c =
    version_2_count c.args.d.now c.len.result c.count-lines.result (sym (ap (λ (d : Dump). d.version) c.d.view_is) ∙ c.if-d-eq2.true) (subst IsDump c.d.view_is c.d.invariant)
    (c.len.ensures.value ∙ ap (λ (d : Dump). length d.files) c.d.view_is)
    (c.count-lines.ensures.count ∙ ap (λ (f : RegisterFile). length (writable f)) c.first_file.ensures)
