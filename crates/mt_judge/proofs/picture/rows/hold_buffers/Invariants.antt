use Rattle.std.proofs.Common.{◌≡◌, ◌++◌, drop, map}
use Rattle.mt_cache.specs.declared.line.CacheLine.{CacheLine}
use Rattle.mt_judge.specs.declared.picture.rows.Held.TheVariants.{Buffer}
use Rattle.mt_judge.proofs.picture.rows.hold_buffers.Given as goal

abbrev pub invariant-loop-buffer : goal.invariant-loop-buffer
invariant-loop-buffer l =
    l.held.items ++ map (λ (b : CacheLine). Buffer b.number) (drop l.buffer-index l.buffers) ≡ l.fn.held.items ++ map (λ (b : CacheLine). Buffer b.number) l.buffers
