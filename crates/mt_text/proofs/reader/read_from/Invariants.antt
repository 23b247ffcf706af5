use Rattle.std.proofs.Common.{◌≡◌, ◌-◌, ℕ, List, Some}
use Rattle.std.specs.Prelude.{Result}
use Rattle.mt_text.specs.Reader.{Course}
use Rattle.mt_text.proofs.Counted.{IsFed}
use Rattle.mt_text.proofs.Courses.{IsPartway}
use Rattle.mt_text.proofs.reader.read_from.Given as goal

abbrev pub invariant-lines : goal.invariant-lines
invariant-lines g l = record {
  fed : IsFed (g.S.Source.left l.initial.source) (g.S.Source.left l.source) (g.S.Source.given l.initial.source) (g.S.Source.given l.source) l.feed;
  told : (course : Course (Result _ _)) (bytes : List ℕ) → g.R.LineReader.at l.initial.reader 1 course → g.S.Source.left l.initial.source ≡ Some bytes → IsPartway g.R.LineReader.at course bytes (g.S.Source.left l.source) l.feed l.reader;
  stood : g.S.Source.faults l.source ≡ g.S.Source.faults l.initial.source;
}

abbrev pub decreases-lines : goal.decreases-lines
decreases-lines g l = 16777217 - l.feed.offset
