use Rattle.std.proofs.Common.{◌∙◌, [], refl}
use Rattle.mt_text.proofs.EndPlace.{place_behind-end}
use Rattle.mt_text.proofs.line.end_place.Goals as goal

pub returns : goal.returns
returns c = c.place_behind.ensures.value ∙ place_behind-end [] c.args.source.now _ refl
