use Rattle.std.proofs.Common.{◌∙◌, ◌++◌, ◌∷◌, [], ap, List}
use Rattle.mt_cache.specs.declared.line.CacheLine.{CacheLine}
use Rattle.mt_cache.proofs.Ordered.{pushed, room_count}
use Rattle.mt_cache.proofs.slots.Slots.push.Goals as goal

pub returns : goal.returns
returns c =
    let i = c.self.invariant in
    pushed _ _ _ i.0 i.1 i.2 c.args.line (room_count _ _ _ _ i.0 i.2 c.self.view_is c.requires)
    ∙ ap (λ (ls : List CacheLine). ls ++ c.args.line ∷ []) c.self.view_is
