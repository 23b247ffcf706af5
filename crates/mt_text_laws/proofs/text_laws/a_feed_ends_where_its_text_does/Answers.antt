use Rattle.std.proofs.Common.{refl}
use Rattle.mt_text.proofs.EndPlace.{place_behind-end}
use Rattle.mt_text_laws.proofs.Ends.{drained_at, drops_place, ends_at, moves_place}
use Rattle.mt_text_laws.proofs.text_laws.a_feed_ends_where_its_text_does.Goals as goal

pub returns-clause-moved : goal.returns-clause-moved
returns-clause-moved c = moves_place

pub returns-clause-end : goal.returns-clause-end
returns-clause-end c = ends_at

pub returns-clause-drained : goal.returns-clause-drained
returns-clause-drained c = drained_at

pub returns-clause-behind : goal.returns-clause-behind
returns-clause-behind c gone bytes = place_behind-end gone bytes _ refl

pub returns-clause-dropped : goal.returns-clause-dropped
returns-clause-dropped c = drops_place
