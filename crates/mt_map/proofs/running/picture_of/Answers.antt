use Rattle.std.proofs.Common.{◌∙◌}
use Rattle.mt_map.proofs.Accepted.{one_width}
use Rattle.mt_map.proofs.running.picture_of.Goals as goal

pub picture_of_files-requires-clause-one_width : goal.picture_of_files-requires-clause-one_width
picture_of_files-requires-clause-one_width c =
    rw (c.first_file-f.ensures, c.as_slice.ensures.value ∙ c.others-others.ensures) (one_width c.args.d.now c.is_dump.ensures)
