use Rattle.std.proofs.Common.{◌≡◌, ◌∙◌, ap, sym, subst, rules}
use Rattle.arrayvec.proofs.ArrayVecLemmas.{filter-from_retain}
use Rattle.mt_tlb.specs.declared.entry.Entry.{Entry}
use Rattle.mt_lists.proofs.Keys.{to_apart, from_apart, apart_filter}
use Rattle.mt_tlb.specs.Entries.{global_entries, AreEntriesApart}
use Rattle.mt_tlb.proofs.tlb.Tlb.drop_local.Goals as goal

pub invariant_of-self : goal.invariant_of-self
invariant_of-self c =
    let kept : c.retain.new.self.items ≡ global_entries c.self.inside.entries.items =
    filter-from_retain _ (λ e. e.global) _ (λ x b f' y called. search rules) _ _ c.retain.ensures.filtered in
    subst AreEntriesApart (sym kept) (from_apart (λ (e : Entry). e.vpage) (global_entries c.self.inside.entries.items) (apart_filter (λ (e : Entry). e.vpage) _ c.self.inside.entries.items (to_apart (λ (e : Entry). e.vpage) c.self.inside.entries.items c.self.invariant)))

pub returns : goal.returns
returns c =
    let kept : c.retain.new.self.items ≡ global_entries c.self.inside.entries.items =
    filter-from_retain _ (λ e. e.global) _ (λ x b f' y called. search rules) _ _ c.retain.ensures.filtered in
    kept ∙ ap global_entries c.self.view_is
