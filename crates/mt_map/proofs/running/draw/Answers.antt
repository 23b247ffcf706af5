use Rattle.std.proofs.Common.{◌∙◌, ap, subst, sym, true≢false, List, ℕ}
use Rattle.mt_ports.specs.declared.status.Status.{Status}
use Rattle.mt_ports.specs.declared.status.Status.TheVariants.{Refused}
use Rattle.mt_regs.specs.Agreement.{first_refusal}
use Rattle.mt_dump.specs.Dumps.{Dump}
use Rattle.mt_output.specs.Lines.{dump_refused_line}
use Rattle.mt_output.specs.Written.{Writes}
use Rattle.mt_map.specs.Map.{CanBeDrawn, drawn, not_drawn, status_of, writes}
use Rattle.mt_map.proofs.Accepted.{accepted_can}
use Rattle.mt_map.proofs.running.draw.Goals as goal

pub returns-in-Ok-clause-tells : goal.returns-in-Ok-clause-tells
returns-in-Ok-clause-tells g c =
    let refusal = c.first_refusal-refusal.ensures.refusal ∙ ap first_refusal c.as_slice.ensures.value ∙ ap (λ (dump : Dump). first_refusal dump.files) c.d.view_is in
    let status = c.status_of.ensures.status ∙ ap status_of refusal in
    let old = g.K.Sink.taken c.args.sink.now in
    let new = g.K.Sink.taken c.written.new.sink in
    let text = c.as_slice-in-Ok.result.now in
    writes text _ (drawn text (c.can_be_drawn.ensures.0 c.if-can_be_drawn.true)) (subst (λ (s : Status). Writes text s old new c.written.result) status c.written.ensures.bytes)

pub unreachable-requires : goal.unreachable-requires
unreachable-requires g c =
    let refusal = c.first_refusal-refusal.ensures.refusal ∙ ap first_refusal c.as_slice.ensures.value ∙ ap (λ (dump : Dump). first_refusal dump.files) c.d.view_is in
    true≢false (sym (c.can_be_drawn.ensures.1 (accepted_can c.args.d.now c.is_dump.ensures.some (sym refusal ∙ c.in-None.is))) ∙ c.if-can_be_drawn.false)

pub returns-clause-tells : goal.returns-clause-tells
returns-clause-tells g c =
    let refusal = c.first_refusal-refusal.ensures.refusal ∙ ap first_refusal c.as_slice.ensures.value ∙ ap (λ (dump : Dump). first_refusal dump.files) c.d.view_is in
    let cannot : CanBeDrawn c.args.d.now → ⊥ = λ can. true≢false (sym (c.can_be_drawn.ensures.1 can) ∙ c.if-can_be_drawn.false) in
    let old = g.K.Sink.taken c.args.sink.now in
    let new = g.K.Sink.taken c.written-in-Some.new.sink in
    let version = ap (λ (dump : Dump). dump_refused_line dump.version c.in-Some.k c.in-Some.fault) c.d.view_is in
    writes _ _ (not_drawn c.in-Some.k c.in-Some.fault cannot (sym refusal ∙ c.in-Some.is))
    (subst (λ (text : List ℕ). Writes text Refused old new c.written-in-Some.result) (c.as_slice-in-Some.ensures.value ∙ c.dump_refused_line-line.ensures ∙ version) c.written-in-Some.ensures.bytes)
