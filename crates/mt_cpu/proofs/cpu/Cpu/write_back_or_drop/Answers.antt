use Rattle.std.proofs.Common.{◌∙◌, ap, arith, List}
use Rattle.mt_cache.specs.declared.line.CacheLine.{CacheLine}
use Rattle.mt_machine.specs.declared.event.Event.TheVariants.{DropLines, WriteBack}
use Rattle.mt_machine.specs.System.{Processor}
use Rattle.mt_machine.specs.Machine.{own_step, write_back_or_drop}
use Rattle.mt_cpu.specs.State.{processor_of}
use Rattle.mt_cpu.proofs.Stepping.{cleaned, event_of, number_within}
use Rattle.mt_cpu.proofs.cpu.Cpu.write_back_or_drop.Goals as goal

pub overflow_mul-address : goal.overflow_mul-address
overflow_mul-address c =
    let h = number_within c.deref_mut-state.result.now.cache _ c.in-Some.i _ (ap (λ (q : Processor). q.lines) (ap processor_of c.deref_mut-state.ensures.value ∙ c.self.view_is)) c.nth-line.ensures c.requires.numbers in
    omega (arith, h)

pub overflow_add-address : goal.overflow_add-address
overflow_add-address c =
    let h = number_within c.deref_mut-state.result.now.cache _ c.in-Some.i _ (ap (λ (q : Processor). q.lines) (ap processor_of c.deref_mut-state.ensures.value ∙ c.self.view_is)) c.nth-line.ensures c.requires.numbers in
    let w = c.in-Some.ensures.within.1 in
    omega (arith, h, w)

pub returns-in_default-clause-step : goal.returns-in_default-clause-step
returns-in_default-clause-step c = λ g. c.drop_lines.ensures g ∙ ap (own_step g DropLines) (ap processor_of c.deref_mut-state.ensures.value ∙ c.self.view_is)

pub returns-clause-event : goal.returns-clause-event
returns-clause-event c =
    event_of c.deref_mut-state.result.now.cache c.in-Some.i c.in-Some.word _ c.nth-line.ensures c.in-Some.ensures.line c.in-Some.ensures.word
    ∙ ap write_back_or_drop (ap processor_of c.deref_mut-state.ensures.value ∙ c.self.view_is)

pub returns-clause-step : goal.returns-clause-step
returns-clause-step c = λ g.
    ap (λ (ls : List CacheLine). record (processor_of c.deref_mut-state.result.now) { lines = ls })
    (c.clean_word.ensures ∙ cleaned c.deref_mut-state.result.now.cache c.in-Some.i c.in-Some.word _ c.nth-line.ensures c.in-Some.ensures.within.1)
    ∙ ap (own_step g (WriteBack _ 0)) (ap processor_of c.deref_mut-state.ensures.value ∙ c.self.view_is)
