use Rattle.std.proofs.Common.{◌∙◌, ◌+◌, ap, sym, arith, ℕ, cond, nat_lt, take}
use Rattle.std.specs.List.{count_by}
use Rattle.std.proofs.lemmas.Bool.{le-ltb, lt-ltb}
use Rattle.mt_replay.proofs.DirtyCounts.{stale_more}
use Rattle.mt_replay.proofs.texts.stale_cached.Goals as goal
use Rattle.mt_replay.proofs.texts.stale_cached.Goals.{else-nth-era, then-nth-era}

pub lines-preserved : goal.lines-preserved
lines-preserved c =
    let before : ℕ = count_by (λ k. nat_lt k.era c.args.era) (take c.lines.i c.args.cache.now) in
    let more = stale_more c.args.cache.now c.lines.i c.args.era c.nth.result.now c.nth.ensures in
    elim c.if-nth-era.branch [
      | then-nth-era w ↦
          record {
            value =
                w.count-is ∙ ap (λ n. n + 1) c.lines.invariant.value
                ∙ sym (more ∙ ap (λ b. before + cond b 1 0) (lt-ltb c.nth.result.now.era c.args.era w.if-nth-era.true));
            few = omega (arith, w.count-is, c.lines.invariant.few);
          }
      | else-nth-era w ↦
          record {
            value =
                w.count-is ∙ c.lines.invariant.value
                ∙ sym (more ∙ ap (λ b. before + cond b 1 0) (le-ltb c.nth.result.now.era c.args.era w.if-nth-era.false) ∙ omega arith);
            few = omega (arith, w.count-is, c.lines.invariant.few);
          }
    ]
