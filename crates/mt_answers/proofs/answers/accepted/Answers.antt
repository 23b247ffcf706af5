use Rattle.std.proofs.Common.{◌≡◌, ◌∙◌, None, ap, subst, sym}
use Rattle.mt_regs.specs.Faults.{IsAccepted}
use Rattle.mt_regs.specs.Agreement.{first_refusal}
use Rattle.mt_dump.specs.Dumps.{Dump}
use Rattle.mt_answers.proofs.FirstFiles.{first_is_accepted}
use Rattle.mt_answers.proofs.answers.accepted.Goals as goal

pub returns-in-None-clause-accepted : goal.returns-in-None-clause-accepted
returns-in-None-clause-accepted c =
    let none : first_refusal c.args.d.now.files ≡ None = ap first_refusal (sym (c.as_slice.ensures.value ∙ ap (λ (d : Dump). d.files) c.d.view_is)) ∙ sym c.first_refusal.ensures.refusal ∙ c.in-None.is in
    subst IsAccepted (sym c.first_file.ensures) (first_is_accepted c.args.d.now c.is_dump.ensures none)
