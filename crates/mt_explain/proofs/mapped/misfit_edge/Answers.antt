use Rattle.std.proofs.Common.{◌∙◌, Option, ap, arith}
use Rattle.std.proofs.Math.Nat.{min-le_left, min-le_right}
use Rattle.mt_regs.specs.declared.page_type.PageType.{PageType}
use Rattle.mt_regs.specs.PageTypes.{page_type}
use Rattle.mt_memory_kinds.specs.declared.kind.MemoryKind.{MemoryKind}
use Rattle.mt_explain.specs.Memory.{memory_at, misfit_of}
use Rattle.mt_explain.proofs.mapped.misfit_edge.Goals as goal

pub returns-clause-same : goal.returns-clause-same
returns-clause-same c = λ other low high.
    let f = c.args.f.now in
    let ranges = c.args.ranges.now in
    let left = min-le_left c.memory_edge.result c.next_edge.result in
    let right = min-le_right c.memory_edge.result c.next_edge.result in
    ap (λ (m : Option MemoryKind). misfit_of m (page_type f other)) (c.memory_edge.ensures.same other low (omega (arith, high, left, c.min.ensures)))
    ∙ ap (λ (t : PageType). misfit_of (memory_at ranges c.args.page) t) (c.next_edge.ensures.alike.kind other low (omega (arith, high, right, c.min.ensures)))
