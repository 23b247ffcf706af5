use Rattle.std.proofs.Common.{◌∙◌, ◌+◌, ◌++◌, arith, sym, refl, subst, ap, ℕ, Some, Ok, Err}
use Rattle.std.specs.Prelude.{Bool, Result}
use Rattle.mt_ports.specs.Causes.{Rose}
use Rattle.mt_text.specs.Feed.{Feeding, IsLong, FeedMoves, taken}
use Rattle.mt_stream.specs.Handling.{ResultsOn}
use Rattle.mt_stream.specs.Lines.{SinkHasCause, SourceHasCause, run_status, running}
use Rattle.mt_stream.specs.declared.ending.Cut.{Cut}
use Rattle.mt_stream.specs.declared.ending.Ended.{Ended}
use Rattle.mt_output.specs.Ports.{change, held, port}
use Rattle.mt_stream.proofs.Loops.{ends, fails, goes_last, goes_on, refuses}
use Rattle.mt_stream.proofs.Rounds.{closed_others, closed_sink, closed_source, cut_enough, cut_long, cut_sink, cut_source, few_taken, moved_taken, never_much, unmoved_taken}
use Rattle.mt_stream.proofs.Telling.{UnderWay, closes, cut_has_memory, cuts, no_line, starts}
use Rattle.mt_stream.proofs.running.run_lines.Goals as goal

pub lines-init : goal.lines-init
lines-init g c = record {
  no_fault = ap (λ f. f.fault) c.new-feed.ensures;
  long = subst IsLong (sym c.new-feed.ensures) (λ is. absurd (cc is), λ many. absurd (omega (arith, many)));
  given = omega (arith, ap taken c.new-feed.ensures);
  source = refl;
  sink = refl;
  ready = (0, omega arith, c.requires.ready);
  asks = λ was number line asked. asked;
  told = λ start at bytes known.
      subst
      (λ (f : Feeding). UnderWay (running g.L.LineRun.at g.L.LineRun.ends g.L.LineRun.asks g.L.LineRun.ready) start bytes (g.S.Source.left c.args.source.now) f c.args.run.now c.args.writer.now (g.K.Sink.taken c.args.sink.now) (g.K.Sink.taken c.args.sink.now))
      (sym c.new-feed.ensures)
      (starts _ start c.requires.laws bytes (g.S.Source.left c.args.source.now) c.args.run.now c.args.writer.now (g.K.Sink.taken c.args.sink.now) known at c.requires.waiting);
}

pub returns-in-Ok-false-clause-bytes : goal.returns-in-Ok-false-clause-bytes
returns-in-Ok-false-clause-bytes g c = λ start at bytes known.
    let (more, takes, rises, next) = c.in-Ok-false.ensures.bytes in
    let moves = subst (FeedMoves c.lines.feed c.next_line.new.feed (c.lines.feed.pending ++ more) (g.S.Source.left c.next_line.new.source)) c.in-Ok-false.field-0-test next.0 in
    subst (λ (r : Result Ended Cut). ResultsOn start (held bytes (g.S.Source.left c.next_line.new.source)) (port g.K.Sink.taken c.args.sink.now c.write_end.new.sink) (run_status r)) (sym c.closed.ensures)
    (closes _ start c.requires.laws bytes _ _ _ _ _ _ (g.K.Sink.taken c.write_end.new.sink) c.write_end.result
    (no_line _ start c.requires.laws bytes more _ (g.S.Source.left c.next_line.new.source) _ c.next_line.new.feed _ _ c.next_line.new.writer _ _ (g.K.Sink.taken c.next_line.new.sink) (c.lines.invariant.told start at bytes known) takes moves next.1)
    (rw c.end.ensures at c.write_end.ensures.bytes))

pub returns-in-Ok-false-clause-memory : goal.returns-in-Ok-false-clause-memory
returns-in-Ok-false-clause-memory g c = λ start at wants bytes known. absurd ((closed_others c.write_end.result).0 (ap run_status (sym c.closed.ensures) ∙ wants))

pub returns-in-Ok-false-clause-source : goal.returns-in-Ok-false-clause-source
returns-in-Ok-false-clause-source g c =
    subst (λ (r : Result Ended Cut). SourceHasCause (g.S.Source.faults c.args.source.now) (g.S.Source.faults c.next_line.new.source) r) (sym c.closed.ensures)
    (closed_source c.write_end.result _ _ (c.in-Ok-false.ensures.source ∙ c.lines.invariant.source))

pub returns-in-Ok-false-clause-sink : goal.returns-in-Ok-false-clause-sink
returns-in-Ok-false-clause-sink g c =
    subst (λ (n : ℕ). SinkHasCause n (g.K.Sink.faults c.write_end.new.sink) c.closed.result) (c.in-Ok-false.ensures.sink ∙ c.lines.invariant.sink)
    (subst (λ (r : Result Ended Cut). SinkHasCause (g.K.Sink.faults c.next_line.new.sink) (g.K.Sink.faults c.write_end.new.sink) r) (sym c.closed.ensures) (closed_sink c.write_end.result _ _ c.write_end.ensures.cause))

pub returns-in-Ok-false-clause-too_long : goal.returns-in-Ok-false-clause-too_long
returns-in-Ok-false-clause-too_long g c =
    let (more, takes, rises, next) = c.in-Ok-false.ensures.bytes in
    let moves = subst (FeedMoves c.lines.feed c.next_line.new.feed (c.lines.feed.pending ++ more) (g.S.Source.left c.next_line.new.source)) c.in-Ok-false.field-0-test next.0 in
    let same = unmoved_taken c.lines.feed c.next_line.new.feed more (g.S.Source.left c.next_line.new.source) moves in
    never_much (run_status c.closed.result) (g.S.Source.given c.args.source.now) (g.S.Source.given c.next_line.new.source) c.next_line.new.feed (λ is. (closed_others c.write_end.result).1 (ap run_status (sym c.closed.ensures) ∙ is))
    (omega (arith, c.lines.invariant.given, rises, same.0)) c.in-Ok-false.ensures.long (same.1 ∙ c.lines.invariant.no_fault)

pub returns-in-Err-clause-bytes : goal.returns-in-Err-clause-bytes
returns-in-Err-clause-bytes g c = λ start at bytes known.
    let (more, takes, rises, short) = c.in-Err.ensures.bytes in
    let enough =
    cut_enough c.lines.feed c.next_line.new.feed more (g.S.Source.left c.next_line.new.source) (change c.lines.writer c.next_line.new.writer) (port g.K.Sink.taken c.lines.sink c.next_line.new.sink) (g.S.Source.given c.args.source.now) (g.S.Source.given c.lines.source) (g.S.Source.given c.next_line.new.source)
    c.lines.invariant.given rises c.in-Err.ensures.long c.lines.invariant.no_fault c.in-Err.cut short in
    cuts _ start c.requires.laws bytes more _ (g.S.Source.left c.next_line.new.source) _ c.next_line.new.feed _ _ c.next_line.new.writer _ _ (g.K.Sink.taken c.next_line.new.sink) c.in-Err.cut (c.lines.invariant.told start at bytes known) takes short c.lines.invariant.no_fault enough

pub returns-in-Err-clause-memory : goal.returns-in-Err-clause-memory
returns-in-Err-clause-memory g c = λ start at wants bytes known. absurd (cut_has_memory c.in-Err.cut wants)

pub returns-in-Err-clause-too_long : goal.returns-in-Err-clause-too_long
returns-in-Err-clause-too_long g c =
    let (more, takes, rises, short) = c.in-Err.ensures.bytes in
    cut_long c.lines.feed c.next_line.new.feed more (g.S.Source.left c.next_line.new.source) (change c.lines.writer c.next_line.new.writer) (port g.K.Sink.taken c.lines.sink c.next_line.new.sink) (g.S.Source.given c.args.source.now) (g.S.Source.given c.lines.source) (g.S.Source.given c.next_line.new.source)
    c.lines.invariant.given rises c.in-Err.ensures.long c.lines.invariant.no_fault c.in-Err.cut short

pub returns-in-Err-clause-source : goal.returns-in-Err-clause-source
returns-in-Err-clause-source g c =
    subst (λ (n : ℕ). SourceHasCause {T = Ended} n (g.S.Source.faults c.next_line.new.source) (Err c.in-Err.cut)) c.lines.invariant.source (cut_source Bool Ended c.in-Err.cut (g.S.Source.faults c.lines.source) (g.S.Source.faults c.next_line.new.source) c.in-Err.ensures.source)

pub returns-in-Err-clause-sink : goal.returns-in-Err-clause-sink
returns-in-Err-clause-sink g c =
    subst (λ (n : ℕ). SinkHasCause {T = Ended} n (g.K.Sink.faults c.next_line.new.sink) (Err c.in-Err.cut)) c.lines.invariant.sink (cut_sink Bool Ended c.in-Err.cut (g.K.Sink.faults c.lines.sink) (g.K.Sink.faults c.next_line.new.sink) c.in-Err.ensures.sink)

pub take_line-requires : goal.take_line-requires
take_line-requires g c =
    let (most, few, ready) = c.lines.invariant.ready in
    c.requires.may _ _ _ _ most (omega (arith, few, few_taken c.lines.feed c.lines.invariant.long c.lines.invariant.no_fault)) ready

pub returns-then-last-clause-bytes : goal.returns-then-last-clause-bytes
returns-then-last-clause-bytes g c = λ start at bytes known.
    let (more, takes, rises, next) = c.in-Ok-true.ensures.bytes in
    let line = c.requires.takes _ _ _ _ _ _ _ _ c.in-Ok-None.ensures in
    subst (λ (r : Result Ended Cut). ResultsOn start (held bytes (g.S.Source.left c.next_line.new.source)) (port g.K.Sink.taken c.args.sink.now c.write_end-then-last.new.sink) (run_status r)) (sym c.closed-then-last.ensures)
    (goes_last _ start c.requires.laws bytes more _ (g.S.Source.left c.next_line.new.source) _ c.next_line.new.feed _ _ c.next_line.new.writer _ _ (g.K.Sink.taken c.next_line.new.sink) (c.lines.invariant.told start at bytes known) takes _ c.in-Ok-true.field-0-test next
    c.take_line.new.arg2 c.take_line.new.arg4 (g.K.Sink.taken c.take_line.new.arg5)
    (λ so_far was stands. rw (c.in-Ok-None.field-0-is, c.current.ensures.bytes, c.current.ensures.number) at (line.bytes so_far was stands))
    (sym c.is_last-last.ensures ∙ c.if-last.true) (g.K.Sink.taken c.write_end-then-last.new.sink) c.write_end-then-last.result (rw c.end-then-last.ensures at c.write_end-then-last.ensures.bytes))

pub returns-then-last-clause-memory : goal.returns-then-last-clause-memory
returns-then-last-clause-memory g c = λ start at wants bytes known. absurd ((closed_others c.write_end-then-last.result).0 (ap run_status (sym c.closed-then-last.ensures) ∙ wants))

pub returns-then-last-clause-source : goal.returns-then-last-clause-source
returns-then-last-clause-source g c =
    subst (λ (r : Result Ended Cut). SourceHasCause (g.S.Source.faults c.args.source.now) (g.S.Source.faults c.next_line.new.source) r) (sym c.closed-then-last.ensures)
    (closed_source c.write_end-then-last.result _ _ (c.in-Ok-true.ensures.source ∙ c.lines.invariant.source))

pub returns-then-last-clause-sink : goal.returns-then-last-clause-sink
returns-then-last-clause-sink g c =
    let line = c.requires.takes _ _ _ _ _ _ _ _ c.in-Ok-None.ensures in
    subst (λ (n : ℕ). SinkHasCause n (g.K.Sink.faults c.write_end-then-last.new.sink) c.closed-then-last.result) (line.cause ∙ c.in-Ok-true.ensures.sink ∙ c.lines.invariant.sink)
    (subst (λ (r : Result Ended Cut). SinkHasCause (g.K.Sink.faults c.take_line.new.arg5) (g.K.Sink.faults c.write_end-then-last.new.sink) r) (sym c.closed-then-last.ensures) (closed_sink c.write_end-then-last.result _ _ c.write_end-then-last.ensures.cause))

pub returns-then-last-clause-too_long : goal.returns-then-last-clause-too_long
returns-then-last-clause-too_long g c =
    let (more, takes, rises, next) = c.in-Ok-true.ensures.bytes in
    let moved = moved_taken c.lines.feed c.next_line.new.feed more (g.S.Source.left c.next_line.new.source) _ c.in-Ok-true.field-0-test next.0 in
    never_much (run_status c.closed-then-last.result) (g.S.Source.given c.args.source.now) (g.S.Source.given c.next_line.new.source) c.next_line.new.feed (λ is. (closed_others c.write_end-then-last.result).1 (ap run_status (sym c.closed-then-last.ensures) ∙ is))
    (omega (arith, c.lines.invariant.given, rises, moved.0)) c.in-Ok-true.ensures.long (moved.2 ∙ c.lines.invariant.no_fault)

pub lines-preserved : goal.lines-preserved
lines-preserved g c =
    let (more, takes, rises, next) = c.in-Ok-true.ensures.bytes in
    let moved = moved_taken c.lines.feed c.next_line.new.feed more (g.S.Source.left c.next_line.new.source) _ c.in-Ok-true.field-0-test next.0 in
    let line = c.requires.takes _ _ _ _ _ _ _ _ c.in-Ok-None.ensures in
    let (most, few, ready) = c.lines.invariant.ready in
    record {
      no_fault = moved.2 ∙ c.lines.invariant.no_fault;
      long = c.in-Ok-true.ensures.long;
      given = omega (arith, c.lines.invariant.given, rises, moved.0);
      source = c.in-Ok-true.ensures.source ∙ c.lines.invariant.source;
      sink = line.cause ∙ c.in-Ok-true.ensures.sink ∙ c.lines.invariant.sink;
      ready = (most + 1, omega (arith, few, moved.1), rw c.in-Ok-None.field-0-is at (line.ready most ready));
      asks = λ was number other asked. c.lines.invariant.asks was number other (line.asks_stay was number other asked);
      told = λ start at bytes known.
          goes_on _ start c.requires.laws bytes more _ (g.S.Source.left c.next_line.new.source) _ c.next_line.new.feed _ _ c.next_line.new.writer _ _ (g.K.Sink.taken c.next_line.new.sink) (c.lines.invariant.told start at bytes known) takes _ c.in-Ok-true.field-0-test next
          c.take_line.new.arg2 c.take_line.new.arg4 (g.K.Sink.taken c.take_line.new.arg5)
          (λ so_far was stands. rw (c.in-Ok-None.field-0-is, c.current.ensures.bytes, c.current.ensures.number) at (line.bytes so_far was stands))
          (sym c.is_last-last.ensures ∙ c.if-last.false);
    }

pub returns-in-Ok-Some-clause-bytes : goal.returns-in-Ok-Some-clause-bytes
returns-in-Ok-Some-clause-bytes g c = λ start at bytes known.
    let (more, takes, rises, next) = c.in-Ok-true.ensures.bytes in
    let (dropped, drains, given, (counted, leaves)) = c.leave.ensures.bytes in
    let line = c.requires.takes _ _ _ _ _ _ _ _ c.in-Ok-Some.ensures in
    ends _ start c.requires.laws bytes more _ (g.S.Source.left c.next_line.new.source) _ c.next_line.new.feed _ _ c.next_line.new.writer _ _ (g.K.Sink.taken c.next_line.new.sink) (c.lines.invariant.told start at bytes known) takes _ c.in-Ok-true.field-0-test next
    c.take_line.new.arg2 c.take_line.new.arg4 (g.K.Sink.taken c.take_line.new.arg5) c.in-Ok-Some.stop (run_status c.leave.result) dropped (g.S.Source.left c.leave.new.source) (g.K.Sink.taken c.leave.new.sink) drains
    (λ is. let many = c.leave.ensures.long.0 is in omega (arith, many, counted)) (rw c.is_last-last.ensures at leaves)
    (λ so_far was stands. rw (c.in-Ok-Some.field-0-is, c.current.ensures.bytes, c.current.ensures.number) at (line.bytes so_far was stands))

pub returns-in-Ok-Some-clause-memory : goal.returns-in-Ok-Some-clause-memory
returns-in-Ok-Some-clause-memory g c = λ start at wants bytes known.
    let (more, takes, rises, next) = c.in-Ok-true.ensures.bytes in
    let (dropped, drains, given, (counted, leaves)) = c.leave.ensures.bytes in
    let line = c.requires.takes _ _ _ _ _ _ _ _ c.in-Ok-Some.ensures in
    refuses _ start c.requires.laws bytes more _ (g.S.Source.left c.next_line.new.source) _ c.next_line.new.feed _ _ c.next_line.new.writer _ _ (g.K.Sink.taken c.next_line.new.sink) (c.lines.invariant.told start at bytes known) takes _ c.in-Ok-true.field-0-test next
    c.take_line.new.arg2 c.take_line.new.arg4 (g.K.Sink.taken c.take_line.new.arg5) c.in-Ok-Some.stop (run_status c.leave.result) dropped (g.S.Source.left c.leave.new.source) (g.K.Sink.taken c.leave.new.sink) drains
    (λ is. let many = c.leave.ensures.long.0 is in omega (arith, many, counted)) (rw c.is_last-last.ensures at leaves)
    (λ so_far was stands. rw (c.in-Ok-Some.field-0-is, c.current.ensures.bytes, c.current.ensures.number) at (line.bytes so_far was stands))
    (g.L.LineRun.asks c.args.run.now)
    (λ refused so_far was stands. c.lines.invariant.asks _ _ _ (rw (c.current.ensures.bytes, c.current.ensures.number) at (line.asks so_far was stands (ap Ok (c.in-Ok-Some.field-0-is ∙ ap Some refused))))) wants

pub returns-in-Ok-Some-clause-too_long : goal.returns-in-Ok-Some-clause-too_long
returns-in-Ok-Some-clause-too_long g c =
    let (more, takes, rises, next) = c.in-Ok-true.ensures.bytes in
    let moved = moved_taken c.lines.feed c.next_line.new.feed more (g.S.Source.left c.next_line.new.source) _ c.in-Ok-true.field-0-test next.0 in
    let (dropped, drains, given, (counted, leaves)) = c.leave.ensures.bytes in (
      λ is. let many = c.leave.ensures.long.0 is in omega (arith, c.lines.invariant.given, rises, moved.0, given, counted, many),
      λ much. c.leave.ensures.long.1 (omega (arith, c.lines.invariant.given, rises, moved.0, given, counted, much)),
    )

pub returns-in-Err-take_line-clause-bytes : goal.returns-in-Err-take_line-clause-bytes
returns-in-Err-take_line-clause-bytes g c = λ start at bytes known.
    let (more, takes, rises, next) = c.in-Ok-true.ensures.bytes in
    let line = c.requires.takes _ _ _ _ _ _ _ _ c.in-Err-take_line.ensures in
    fails _ start c.requires.laws bytes more _ (g.S.Source.left c.next_line.new.source) _ c.next_line.new.feed _ _ c.next_line.new.writer _ _ (g.K.Sink.taken c.next_line.new.sink) (c.lines.invariant.told start at bytes known) takes _ c.in-Ok-true.field-0-test next
    c.take_line.new.arg2 c.take_line.new.arg4 (g.K.Sink.taken c.take_line.new.arg5) c.in-Err-take_line.field-0
    (λ so_far was stands. rw (c.current.ensures.bytes, c.current.ensures.number) at (line.bytes so_far was stands))

pub returns-in-Err-take_line-clause-memory : goal.returns-in-Err-take_line-clause-memory
returns-in-Err-take_line-clause-memory g c = λ start at wants. absurd (cc wants)

pub returns-in-Ok-Some-clause-source : goal.returns-in-Ok-Some-clause-source
returns-in-Ok-Some-clause-source g c = subst (λ (n : ℕ). SourceHasCause n (g.S.Source.faults c.leave.new.source) c.leave.result) (c.in-Ok-true.ensures.source ∙ c.lines.invariant.source) c.leave.ensures.source

pub returns-in-Ok-Some-clause-sink : goal.returns-in-Ok-Some-clause-sink
returns-in-Ok-Some-clause-sink g c =
    let line = c.requires.takes _ _ _ _ _ _ _ _ c.in-Ok-Some.ensures in
    subst (λ (n : ℕ). SinkHasCause n (g.K.Sink.faults c.leave.new.sink) c.leave.result) (line.cause ∙ c.in-Ok-true.ensures.sink ∙ c.lines.invariant.sink) c.leave.ensures.sink

pub returns-in-Err-take_line-clause-sink : goal.returns-in-Err-take_line-clause-sink
returns-in-Err-take_line-clause-sink g c =
    let line = c.requires.takes _ _ _ _ _ _ _ _ c.in-Err-take_line.ensures in
    subst (λ (n : ℕ). Rose n (g.K.Sink.faults c.take_line.new.arg5)) (c.in-Ok-true.ensures.sink ∙ c.lines.invariant.sink) line.cause
