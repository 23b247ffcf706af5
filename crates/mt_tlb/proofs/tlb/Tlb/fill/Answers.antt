use Rattle.std.proofs.Common.{◌≡◌, ◌∙◌, true, false, ap, None}
use Rattle.mt_tlb.specs.declared.entry.Entry.{Entry}
use Rattle.mt_lists.proofs.Keys.{apart_add}
use Rattle.mt_tlb.specs.Entries.{find_entry}
use Rattle.mt_tlb.proofs.tlb.Tlb.fill.Goals as goal
use Rattle.mt_tlb.proofs.tlb.Tlb.fill.Goals.{then-is_full, else-is_full}

pub invariant_of-self : goal.invariant_of-self
invariant_of-self c =
    let absent : find_entry c.args.e.vpage c.self.inside.entries.items ≡ None = ap (find_entry c.args.e.vpage) c.self.view_is ∙ c.requires in
    rw c.push.ensures.items
    (elim c.if-is_full.branch [
      | then-is_full w ↦ rw (w.self-inside-is, w.remove.ensures.items) (apart_add (λ (e : Entry). e.vpage) true c.self.inside.entries.items c.args.e c.self.invariant absent)
      | else-is_full w ↦ rw w.self-inside-is (apart_add (λ (e : Entry). e.vpage) false c.self.inside.entries.items c.args.e c.self.invariant absent)
    ])
