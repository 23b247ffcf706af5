use Rattle.std.proofs.Common.{Some, None, sym, ◌∙◌, ap, ◌≡◌}
use Rattle.mt_regs.specs.FirstFault.{first_fault}
use Rattle.mt_regs.proofs.Agreeing.{from_ends, from_on}
use Rattle.mt_regs.proofs.FaultNumbers.{fault_number}
use Rattle.mt_regs.proofs.FirstFault.{is_first_fault}
use Rattle.mt_regs.proofs.agreement.first_refusal.Goals as goal

pub returns-in-Some-clause-refusal : goal.returns-in-Some-clause-refusal
returns-in-Some-clause-refusal c =
    let file = c.index-files-k.result in
    let fault = sym (is_first_fault file (Some c.in-Some.fault) c.in-Some.ensures) in
    sym (c.loop-k.invariant ∙ from_ends first_fault c.args.files.now c.loop-k.k file c.in-Some.fault c.loop-k-test.true (ap first_fault (sym c.index-files-k.is) ∙ fault))

pub returns-in-Some-clause-short : goal.returns-in-Some-clause-short
returns-in-Some-clause-short c = fault_number c.index-files-k.result c.in-Some.fault c.is_register_file.ensures c.in-Some.ensures

pub loop-k-preserved : goal.loop-k-preserved
loop-k-preserved c =
    let file = c.index-files-k.result in
    let none : first_fault file ≡ None = sym (is_first_fault file None c.in_default.ensures) in
    c.loop-k.invariant ∙ from_on first_fault c.args.files.now c.loop-k.k file c.loop-k-test.true (ap first_fault (sym c.index-files-k.is) ∙ none)
