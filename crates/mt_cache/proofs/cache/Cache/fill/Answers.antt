use Rattle.std.proofs.Common.{◌∙◌, ap}
use Rattle.mt_cache.specs.Lines.{find_line}
use Rattle.mt_cache.proofs.Lists.{absent_in_room}
use Rattle.mt_cache.proofs.cache.Cache.fill.Goals as goal

pub push-requires-clause-absent : goal.push-requires-clause-absent
push-requires-clause-absent c = ap (find_line c.args.number) c.make_room.ensures.lines ∙ absent_in_room c.args.number 64 _ c.requires
