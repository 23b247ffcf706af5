use Rattle.std.proofs.Common.{◌∙◌}
use Rattle.mt_text.proofs.Feeding.{drops_more}
use Rattle.mt_text.proofs.feed.Feed.drain.Goals as goal

pub returns-in_err-fill-clause-bytes : goal.returns-in_err-fill-clause-bytes
returns-in_err-fill-clause-bytes g c =
    drops_more c.args.self.now c.pieces.self c.pass_all.new.self c.fill.new.self _ _ _ _ _ _ _ c.pieces.invariant.took c.pass_all.ensures.passes c.pass_all.ensures.pending c.pass_all.ensures.counts c.in_err-fill.ensures.bytes

pub returns-then-not-branch-clause-bytes : goal.returns-then-not-branch-clause-bytes
returns-then-not-branch-clause-bytes g c =
    drops_more c.args.self.now c.pieces.self c.pass_all.new.self c.fill.new.self _ _ _ _ _ _ _ c.pieces.invariant.took c.pass_all.ensures.passes c.pass_all.ensures.pending c.pass_all.ensures.counts c.in_ok-fill.ensures.bytes

pub pieces-preserved : goal.pieces-preserved
pieces-preserved g c = record {
  fault = c.in_ok-fill.ensures.bytes.3.3.0;
  took =
      drops_more c.args.self.now c.pieces.self c.pass_all.new.self c.fill.new.self _ _ _ _ _ _ _ c.pieces.invariant.took c.pass_all.ensures.passes c.pass_all.ensures.pending c.pass_all.ensures.counts c.in_ok-fill.ensures.bytes;
  stood = c.in_ok-fill.ensures.stands (λ is. absurd (cc (is))) ∙ c.pieces.invariant.stood;
}
