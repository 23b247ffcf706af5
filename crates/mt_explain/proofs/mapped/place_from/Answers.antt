use Rattle.std.proofs.Common.{rules, of_calls, arith}
use Rattle.std.specs.Prelude.{nat_lt}
use Rattle.std.proofs.lemmas.Bool.{ltb-true}
use Rattle.std.proofs.lemmas.Fn.{always_returns_same}
use Rattle.mt_memory_kinds.specs.declared.kind.MemoryRange.{MemoryRange}
use Rattle.mt_explain.proofs.Ranges.{found_behind, less, rise}
use Rattle.mt_explain.proofs.mapped.place_from.Goals as goal

pub returns : goal.returns
returns c =
    let ranges = c.args.ranges.now in
    let page = c.args.page in
    let point = c.partition_point.ensures.partitioned (λ (r : MemoryRange). nat_lt r.last page) (always_returns_same _ _ _ (λ a r f k. search (rules, of_calls)))
    (λ i j d up within past. less _ page (omega (arith, rise 0 i j d ranges c.requires up within, ltb-true _ _ past))) in
    found_behind (λ (r : MemoryRange). nat_lt r.last page) ranges c.partition_point.result point.0 point.1
