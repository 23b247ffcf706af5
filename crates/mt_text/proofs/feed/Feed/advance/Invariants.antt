use Rattle.std.proofs.Common.{◌≡◌, ◌+◌, ◌-◌, ◌++◌, ℕ, Bool, List, None, Some, length}
use Rattle.std.specs.Io.KnownBytes.{Consumes}
use Rattle.mt_text.specs.Feed.{known_front, taken}
use Rattle.mt_text.proofs.feed.Feed.advance.Given as goal

abbrev pub invariant-pieces : goal.invariant-pieces
invariant-pieces g l = record {
  fault : l.self.fault ≡ None;
  offset : l.self.offset ≡ l.initial.self.offset;
  place : l.self.place ≡ l.initial.self.place;
  took : (more : List ℕ) × Consumes (g.S.Source.left l.initial.source) (g.S.Source.left l.source) more × (g.S.Source.given l.source ≡ g.S.Source.given l.initial.source + length more) × (l.self.pending ≡ l.initial.self.pending ++ more);
  unasked : (front : ℕ × Bool) → known_front l.initial.self.pending ≡ Some front → (l.source ≡ l.initial.source) × (l.self.pending ≡ l.initial.self.pending);
  stood : g.S.Source.faults l.source ≡ g.S.Source.faults l.initial.source;
}

abbrev pub decreases-pieces : goal.decreases-pieces
decreases-pieces g l = 16777217 - taken l.self
