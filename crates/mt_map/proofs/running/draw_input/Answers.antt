use Rattle.std.proofs.Common.{◌∙◌, subst, List, ℕ, Some, refl}
use Rattle.mt_ports.specs.declared.status.Status.TheVariants.{BadText}
use Rattle.mt_output.specs.Written.{Writes}
use Rattle.mt_map.specs.declared.asked.Asked.TheVariants.{Picture}
use Rattle.mt_map.proofs.Telling.{told_bad, told_dump}
use Rattle.mt_map.proofs.running.draw_input.Goals as goal

pub returns-in-Ok-Ok-clause-maps : goal.returns-in-Ok-Ok-clause-maps
returns-in-Ok-Ok-clause-maps g c bytes is =
    told_dump (Some Picture) bytes c.in-Ok-Ok.dump _ _ _ _ refl (c.in-Ok-Ok.ensures.end bytes is) (rw c.in-Ok-Ok.field-0-is at (c.in-Ok-Ok.ensures.answer bytes is)) c.draw.ensures.tells

pub returns-in-Ok-Err-clause-maps : goal.returns-in-Ok-Err-clause-maps
returns-in-Ok-Err-clause-maps g c bytes is =
    let old = g.K.Sink.taken c.args.sink.now in
    let new = g.K.Sink.taken c.written.new.sink in
    told_bad (Some Picture) bytes c.in-Ok-Err.fault _ _ _ _ refl (c.in-Ok-Err.ensures.end bytes is) (rw c.in-Ok-Err.field-0-is at (c.in-Ok-Err.ensures.answer bytes is))
    (subst (λ (text : List ℕ). Writes text BadText old new c.written.result) (c.as_slice.ensures.value ∙ c.bad_text_line.ensures) c.written.ensures.bytes)
