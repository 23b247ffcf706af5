use Rattle.std.proofs.Common.{◌∙◌, ap, sym}
use Rattle.mt_import.specs.Rdmsr.{announced, register_named}
use Rattle.mt_import.proofs.Kernels.{call_ends, call_fails, call_goes_on}
use Rattle.mt_import.proofs.rdmsr.+call_from.Goals as goal

pub returns-then-count-at : goal.returns-then-count-at
returns-then-count-at t c =
    c.announced.ensures ∙ ap (announced c.args.processor) (c.register_named.ensures ∙ ap register_named c.text.ensures)
    ∙ sym (call_ends c.args.options c.args.at c.args.processor c.args.words.now.words (sym c.count.ensures ∙ c.if-count-at.true))

pub returns-in-Some : goal.returns-in-Some
returns-in-Some t c =
    c.call_from.ensures
    ∙ call_goes_on c.args.options c.args.at c.in-Some.size c.args.processor c.in-Some.next c.args.words.now.words c.if-options-eq0.false (λ is. c.if-count-at.false (c.count.ensures ∙ is))
    (sym c.option_at.ensures.option ∙ c.in-Some.is)

pub returns-in-None : goal.returns-in-None
returns-in-None t c =
    sym (call_fails c.args.options c.args.at c.args.processor c.args.words.now.words c.if-options-eq0.false (λ is. c.if-count-at.false (c.count.ensures ∙ is)) (sym c.option_at.ensures.option ∙ c.in-None.is))
