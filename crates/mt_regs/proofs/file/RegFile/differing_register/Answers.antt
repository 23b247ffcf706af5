use Rattle.std.proofs.Common.{Some, ap, sym, ◌∙◌}
use Rattle.std.specs.Option.{option_map}
use Rattle.mt_regs.specs.Registers.{number_of}
use Rattle.mt_regs.specs.Agreement.{differs_in}
use Rattle.mt_regs.specs.Registers.{writable}
use Rattle.mt_regs.proofs.Writable.{search_ends, search_on}
use Rattle.mt_regs.proofs.Agreeing.{test_differs, test_equal}
use Rattle.mt_regs.proofs.file.RegFile.differing_register.Goals as goal

pub returns-then-value_of-clause-number : goal.returns-then-value_of-clause-number
returns-then-value_of-clause-number c =
    let f = c.args.self.now in
    let differs = test_differs _ _ (λ e. c.if-value_of.true (c.value_of.ensures ∙ e ∙ sym c.value_of-in-loop-i.ensures)) in
    let found = c.loop-i.invariant ∙ search_ends (differs_in f c.args.other.now) (writable f) c.loop-i.i c.in_ok-register.register c.in_ok-register.ensures.at differs in
    ap Some c.number.ensures ∙ ap (option_map number_of) (sym found)

pub loop-i-preserved : goal.loop-i-preserved
loop-i-preserved c =
    let f = c.args.self.now in
    let equal = test_equal _ _ (sym c.value_of.ensures ∙ c.if-value_of.false ∙ c.value_of-in-loop-i.ensures) in
    c.loop-i.invariant ∙ search_on (differs_in f c.args.other.now) (writable f) c.loop-i.i c.in_ok-register.register c.in_ok-register.ensures.at equal
