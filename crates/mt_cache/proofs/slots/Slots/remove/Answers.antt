use Rattle.std.proofs.Common.{◌≡◌, ◌∙◌, ◌++◌, ◌∷◌, [], ◌-◌, ap, subst, sym, List, ℕ, get_or, refl, arith}
use borrow.Rule.Slice.PartMut.{put_mid}
use Rattle.std.specs.List.{remove}
use Rattle.mt_cache.specs.declared.line.CacheLine.{CacheLine}
use Rattle.mt_cache.specs.Slots.{IsOrder, in_order}
use Rattle.mt_cache.proofs.Ordered.{kept_order, taken, turned, within_count}
use Rattle.mt_cache.proofs.slots.Slots.remove.Goals as goal

order_after : (c : goal.After-self-1) → put_mid c.args.i (64 - c.args.i) c.self.inside.order c.rotate_left.new.self ≡ remove c.self.inside.order c.args.i ++ get_or c.self.inside.order c.args.i 0 ∷ []
order_after c =
    let i = c.self.invariant in
    let among = within_count _ _ _ _ c.args.i i.0 i.2 c.self.view_is c.requires in
    turned c.self.inside.order c.rotate_left.new.self c.args.i i.0.long (omega (arith, among, i.2)) c.rotate_left.ensures.after

pub invariant_of-self : goal.invariant_of-self
invariant_of-self c =
    let i = c.self.invariant in
    let among = within_count _ _ _ _ c.args.i i.0 i.2 c.self.view_is c.requires in
    (subst IsOrder (sym (order_after c)) (kept_order _ c.args.i _ i.0 (omega (arith, among, i.2)) refl), i.1, omega (arith, i.2))

pub returns : goal.returns
returns c =
    let i = c.self.invariant in
    let among = within_count _ _ _ _ c.args.i i.0 i.2 c.self.view_is c.requires in
    ap (λ (o : List ℕ). in_order (c.self.inside.count - 1) o c.self.inside.slots) (order_after c)
    ∙ taken _ _ _ i.0 i.1 i.2 c.args.i _ among
    ∙ ap (λ (ls : List CacheLine). remove ls c.args.i) c.self.view_is
