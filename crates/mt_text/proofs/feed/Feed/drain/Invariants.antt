use Rattle.std.proofs.Common.{◌≡◌, ◌-◌, None}
use Rattle.mt_text.specs.Feed.{Drops, TakesMore, drawn, taken}
use Rattle.mt_text.proofs.feed.Feed.drain.Given as goal

abbrev pub invariant-pieces : goal.invariant-pieces
invariant-pieces g l = record {
  fault : l.self.fault ≡ None;
  took : TakesMore (drawn g.S.Source.left g.S.Source.given l.initial.source l.source) (Drops l.initial.self l.self);
  stood : g.S.Source.faults l.source ≡ g.S.Source.faults l.initial.source;
}

abbrev pub decreases-pieces : goal.decreases-pieces
decreases-pieces g l = 16777217 - taken l.self
