use Rattle.std.proofs.Common.{◌≡◌, ◌+◌, ◌-◌, ◌≤◌, List, [], ℕ, None, Some}
use Rattle.mt_text.specs.Feed.{IsLong, taken}
use Rattle.mt_stream.specs.Lines.{Path, running}
use Rattle.mt_stream.specs.Transcript.{Telling}
use Rattle.mt_stream.proofs.Telling.{UnderWay}
use Rattle.mt_stream.proofs.running.run_lines.Given as goal

abbrev pub invariant-lines : goal.invariant-lines
invariant-lines g l = record {
  no_fault : l.feed.fault ≡ None;
  long : IsLong l.feed;
  given : g.S.Source.given l.source ≡ g.S.Source.given l.initial.source + taken l.feed;
  source : g.S.Source.faults l.source ≡ g.S.Source.faults l.initial.source;
  sink : g.K.Sink.faults l.sink ≡ g.K.Sink.faults l.initial.sink;
  ready : (most : ℕ) × (most ≤ l.feed.offset) × g.L.LineRun.ready most l.run;
  asks : (was : Telling) (number : ℕ) (line : List ℕ) → g.L.LineRun.asks l.run was number line → g.L.LineRun.asks l.initial.run was number line;
  told : (start : Path) → g.L.LineRun.at l.initial.run [] start → (bytes : List ℕ) → g.S.Source.left l.initial.source ≡ Some bytes
      → UnderWay (running g.L.LineRun.at g.L.LineRun.ends g.L.LineRun.asks g.L.LineRun.ready) start bytes (g.S.Source.left l.source) l.feed l.run l.writer (g.K.Sink.taken l.initial.sink) (g.K.Sink.taken l.sink);
}

abbrev pub decreases-lines : goal.decreases-lines
decreases-lines g l = 16777217 - l.feed.offset
