use Rattle.std.proofs.Common.{◌∙◌, ◌++◌, ℕ, List, Option, ap}
use Rattle.mt_import.specs.Census.{passed_by, passed_lines, passed_over}
use Rattle.mt_import.specs.declared.format.Format.{Format}
use Rattle.mt_import.specs.declared.format.Format.TheVariants.{Rdmsr, X86info, Inteltool, Coreboot, Edk2, Linux, Xen, Chipsec, Windbg, Plain}
use Rattle.mt_import.proofs.shape.Census.passed_over.Goals as goal

pub returns-clause-text : goal.returns-clause-text
unfolding passed_over
returns-clause-text c =
    let census = c.args.self.now in
    let own = c.taken-own.result in
    c.append_passed-10.ensures.text ∙ ap (λ (t : List ℕ). t ++ passed_by own census Plain)
    (c.append_passed-9.ensures.text ∙ ap (λ (t : List ℕ). t ++ passed_by own census Windbg)
    (c.append_passed-8.ensures.text ∙ ap (λ (t : List ℕ). t ++ passed_by own census Chipsec)
    (c.append_passed-7.ensures.text ∙ ap (λ (t : List ℕ). t ++ passed_by own census Rdmsr)
    (c.append_passed-6.ensures.text ∙ ap (λ (t : List ℕ). t ++ passed_by own census X86info)
    (c.append_passed-5.ensures.text ∙ ap (λ (t : List ℕ). t ++ passed_by own census Inteltool)
    (c.append_passed-4.ensures.text ∙ ap (λ (t : List ℕ). t ++ passed_by own census Edk2)
    (c.append_passed-3.ensures.text ∙ ap (λ (t : List ℕ). t ++ passed_by own census Coreboot)
    (c.append_passed-2.ensures.text ∙ ap (λ (t : List ℕ). t ++ passed_by own census Linux)
    (c.append_passed.ensures.text ∙ ap (λ (t : List ℕ). t ++ passed_by own census Xen) (c.new-text.ensures))))))))))
    ∙ ap (λ (o : Option Format). passed_lines o census) c.taken-own.ensures
