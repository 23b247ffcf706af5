use Rattle.std.proofs.Common.{◌≡◌, ◌∙◌, ap, subst, sym}
use Rattle.mt_regs.specs.Faults.{IsAccepted}
use Rattle.mt_regs.specs.StartFiles.{AreStartFiles}
use Rattle.mt_dump.specs.Dumps.{Dump, IsDump}
use Rattle.mt_dump.proofs.ForProcessors.{first_holds, sections_start}
use Rattle.mt_dump.proofs.dumps.Dump.files_for.Goals as goal

pub returns-then-self-eq2-clause-start : goal.returns-then-self-eq2-clause-start
returns-then-self-eq2-clause-start c = λ accepted.
    let is : IsDump c.args.self.now = rw (← c.self.view_is) c.self.invariant in
    let same : c.result.inside.files.items ≡ c.args.self.now.files = ap (λ (d : Dump). d.files) (c.result.view_is ∙ c.copy.ensures) in
    subst AreStartFiles (sym same) (sections_start c.args.self.now is accepted)

pub returns-else-self-eq2-clause-start : goal.returns-else-self-eq2-clause-start
returns-else-self-eq2-clause-start c = λ accepted.
    let is : IsDump c.args.self.now = rw (← c.self.view_is) c.self.invariant in
    c.copies.ensures.start (rw c.first_file.ensures (first_holds IsAccepted c.args.self.now.files is.some accepted))
