use Rattle.std.proofs.Common.{map, refl, string_bytes}
use Rattle.mt_web.proofs.Drawn.{draws_for}
use Rattle.mt_web.proofs.drawing.drawn_by.Goals as goal

pub returns : goal.returns
returns c =
    let does = c.map-status.ensures in
    draws_for (map string_bytes c.args.words.now) c.args.input.now _ _ _ _ _ c.map-status.result _ c.asked_by.ensures c.new-sink.ensures does.read_fault (does.maps c.args.input.now (rw (c.new-source.ensures.0, c.new-source.ensures.1) refl))
    c.ended.ensures.text c.ended.ensures.number
