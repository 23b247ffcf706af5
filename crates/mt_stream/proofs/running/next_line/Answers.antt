use Rattle.std.proofs.Common.{arith, refl, sym, [], append-nil}
use Rattle.std.proofs.KnownBytes.{Consumes-nil}
use Rattle.mt_output.proofs.Writing.{passes_nothing}
use Rattle.mt_text.proofs.Feeding.{lends_known}
use Rattle.mt_stream.proofs.running.next_line.Goals as goal

pub returns-then-advance_pending-clause-bytes : goal.returns-then-advance_pending-clause-bytes
returns-then-advance_pending-clause-bytes g c =
    let (front, known, none, is) = c.if-advance_pending.ensures.moves in (
      [],
      Consumes-nil (g.S.Source.left c.args.source.now),
      omega arith,
      (
        lends_known c.args.feed.now c.args.feed.now c.advance_pending.new.self [] (g.S.Source.left c.args.source.now) front (sym (append-nil c.args.feed.now.pending)) refl refl none none known is,
        passes_nothing c.args.writer.now (g.K.Sink.taken c.args.sink.now),
      ),
    )
