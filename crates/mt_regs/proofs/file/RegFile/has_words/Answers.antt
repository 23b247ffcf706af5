use Rattle.std.proofs.Common.{◌≡◌, ◌∙◌, ap, arith, unwrap_or}
use Rattle.mt_regs.specs.RegisterFile.{IsRegisterFile}
use Rattle.mt_regs.proofs.ByNumber.{all_fit}
use Rattle.mt_regs.proofs.file.RegFile.has_words.Goals as goal

pub returns : goal.returns
returns c =
    let is : IsRegisterFile c.args.self.now = rw (← c.self.view_is) c.self.invariant in
    let read : c.unwrap_or.result ≡ c.args.self.now.capabilities = c.unwrap_or.ensures ∙ ap (λ o. unwrap_or o 0) c.get.ensures in
    all_fit c.args.self.now c.registers.i is (omega (arith, c.count-i-end.ensures.count)) c.registers.invariant (omega (arith, read, c.unwrap_or.type_inv))
