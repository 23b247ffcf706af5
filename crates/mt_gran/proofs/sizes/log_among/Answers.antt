use Rattle.std.proofs.Common.{◌≡◌, ◌+◌, ◌-◌, ◌<◌, ◌∙◌, ap, sym, arith}
use Rattle.mt_gran.specs.Sizes.{log_among}
use Rattle.mt_gran.proofs.GranuleSizes.{log_here, log_later, no_log}
use Rattle.mt_gran.proofs.sizes.log_among.Goals as goal

pub returns-then-size-granule_bytes : goal.returns-then-size-granule_bytes
returns-then-size-granule_bytes c =
    let left : 0 < 29 - c.loop-log.log = omega (arith, c.loop-log-test.true) in
    sym (c.loop-log.invariant ∙ log_here c.args.size c.loop-log.log (29 - c.loop-log.log) left (c.if-size-granule_bytes.true ∙ c.granule_bytes.ensures))

pub loop-log-preserved : goal.loop-log-preserved
loop-log-preserved c =
    let left : 29 - c.loop-log.log ≡ 29 - (c.loop-log.log + 1) + 1 = omega (arith, c.loop-log-test.true) in
    c.loop-log.invariant ∙ log_later c.args.size c.loop-log.log (29 - c.loop-log.log) (29 - (c.loop-log.log + 1)) left (λ same. c.if-size-granule_bytes.false (same ∙ sym c.granule_bytes.ensures))

pub returns : goal.returns
returns c =
    let none : 29 - c.loop-log.log ≡ 0 = omega (arith, c.loop-log-test.false) in
    sym (c.loop-log.invariant ∙ ap (log_among c.args.size c.loop-log.log) none ∙ no_log c.args.size c.loop-log.log)
