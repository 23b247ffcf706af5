use Rattle.std.proofs.Common.{◌≡◌, ◌∙◌, Some, None, ap, sym}
use Rattle.mt_import.specs.Tries.{Tried}
use Rattle.mt_import.proofs.Takes.{ends_closed, ends_failed}
use Rattle.mt_import.proofs.tries.Tries.answer.Goals as goal

pub returns-in-Some-clause-value : goal.returns-in-Some-clause-value
returns-in-Some-clause-value c = λ number course end led.
    let tries = c.args.self.now in
    let found : tries.current.fault ≡ Some c.in-Some.fault = sym (ap (λ (t : Tried). t.fault) c.current.ensures) ∙ sym c.fault.ensures.value ∙ c.in-Some.is in
    ends_failed c.args.is_auto c.args.supplied.now tries number course end led c.in-Some.fault c.failure_or.result found c.failure_or.ensures.value

pub returns-in-None-clause-value : goal.returns-in-None-clause-value
returns-in-None-clause-value c = λ number course end led.
    let tries = c.args.self.now in
    let found : tries.current.fault ≡ None = sym (ap (λ (t : Tried). t.fault) c.current.ensures) ∙ sym c.fault.ensures.value ∙ c.in-None.is in
    sym (ends_closed c.args.is_auto c.args.supplied.now tries number course end led c.closed.result found c.closed.ensures.told)
