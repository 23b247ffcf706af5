use Rattle.std.proofs.Common.{◌∙◌, ap}
use Rattle.mt_map.specs.Bands.{bands}
use Rattle.mt_map.proofs.Covering.{are_rows}
use Rattle.mt_map.proofs.picture.picture_of_files.Goals as goal

pub returns-clause-rows : goal.returns-clause-rows
returns-clause-rows c =
    are_rows c.args.f.now c.args.others.now c.in_ok-cuts.cuts.items c.in_ok-stack.stack.bands.items c.requires.one_width c.in_ok-cuts.ensures.edges
    (c.in_ok-stack.ensures.bands ∙ ap (bands c.args.f.now c.args.others.now) c.as_slice.ensures.value)
