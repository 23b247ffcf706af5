use Rattle.std.proofs.Common.{◌∙◌, ap, subst, sym, List, ℕ, Option, Some}
use Rattle.mt_ports.specs.declared.status.Status.TheVariants.{Done}
use Rattle.mt_output.specs.Written.{Writes}
use Rattle.mt_output.specs.Ports.{change, held}
use Rattle.mt_map.specs.declared.asked.Asked.{Asked}
use Rattle.mt_map.specs.Map.{Maps}
use Rattle.mt_map.proofs.Telling.{told_help, told_usage, told_version}
use Rattle.mt_map.proofs.running.map.Goals as goal

pub returns-in-None-clause-maps : goal.returns-in-None-clause-maps
returns-in-None-clause-maps g c bytes is = told_usage c.args.asked bytes _ _ _ _ c.in-None.is is c.wrong_usage.ensures.bytes

pub returns-in-Some-Help-clause-maps : goal.returns-in-Some-Help-clause-maps
returns-in-Some-Help-clause-maps g c bytes is =
    let old = g.K.Sink.taken c.args.sink.now in
    let new = g.K.Sink.taken c.written.new.sink in
    told_help c.args.asked bytes _ _ _ _ (c.in-Some-Help.is ∙ ap Some (rw c.in-Some-Help.is at c.in-Some-Help.field-0-is)) is
    (subst (λ (text : List ℕ). Writes text Done old new c.written.result) c.help_text.ensures c.written.ensures.bytes)

pub returns-in-Some-Version-clause-maps : goal.returns-in-Some-Version-clause-maps
returns-in-Some-Version-clause-maps g c bytes is =
    let old = g.K.Sink.taken c.args.sink.now in
    let new = g.K.Sink.taken c.written-in-Some-Version.new.sink in
    told_version c.args.asked bytes _ _ _ _ (c.in-Some-Version.is ∙ ap Some (rw c.in-Some-Version.is at c.in-Some-Version.field-0-is)) is
    (subst (λ (text : List ℕ). Writes text Done old new c.written-in-Some-Version.result) c.version_text.ensures c.written-in-Some-Version.ensures.bytes)

pub returns-in-Some-Picture-clause-maps : goal.returns-in-Some-Picture-clause-maps
returns-in-Some-Picture-clause-maps g c bytes is =
    let left = g.S.Source.left c.draw_input.new.source in
    let old = g.K.Sink.taken c.args.sink.now in
    let new = g.K.Sink.taken c.draw_input.new.sink in
    subst (λ (asked : Option Asked). Maps asked (held bytes left) (change old new) c.draw_input.result)
    (sym (c.in-Some-Picture.is ∙ ap Some (rw c.in-Some-Picture.is at c.in-Some-Picture.field-0-is))) (c.draw_input.ensures.maps bytes is)
