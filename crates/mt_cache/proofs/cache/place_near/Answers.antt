use Rattle.std.proofs.Common.{sym, arith}
use Rattle.mt_cache.specs.declared.line.CacheLine.{CacheLine}
use Rattle.mt_lists.proofs.Places.{place_at}
use Rattle.mt_cache.proofs.cache.place_near.Goals as goal

pub returns-then-get-number : goal.returns-then-get-number
returns-then-get-number c =
    sym (place_at (λ (l : CacheLine). l.number) c.args.number c.args.lines.now c.args.guess c.get.result.now c.requires (omega arith) c.get.ensures c.if-get-number.true)
