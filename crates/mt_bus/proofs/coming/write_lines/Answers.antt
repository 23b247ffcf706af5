use Rattle.std.proofs.Common.{◌∙◌, ◌+◌, ap, drop, sym}
use Rattle.std.specs.List.{fold}
use Rattle.mt_machine.specs.Memory.{write_back}
use Rattle.mt_laws.proofs.Items.{drop_at}
use Rattle.mt_bus.proofs.coming.write_lines.Goals as goal

pub loop-i-preserved : goal.loop-i-preserved
loop-i-preserved c =
    ap (λ m. fold write_back m (drop (c.loop-i.i + 1) c.args.cache.now)) c.write_back.ensures
    ∙ sym (ap (fold write_back c.loop-i.ram) (drop_at c.args.cache.now c.loop-i.i c.nth.result.now c.nth.ensures))
    ∙ c.loop-i.invariant
