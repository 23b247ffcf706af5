use Rattle.std.proofs.Common.{◌≡◌, ◌∙◌, ap, sym, subst}
use Rattle.std.specs.Option.{option_map_or}
use Rattle.mt_lists.proofs.Keys.{no_position, none_of}
use Rattle.mt_tlb.specs.Entries.{find_entry, find_mapping, has_page}
use Rattle.mt_machine.specs.System.{Processor}
use Rattle.mt_machine.specs.Access.{keep_entry}
use Rattle.mt_cpu.specs.Kinds.{entry_by}
use Rattle.mt_cpu.specs.State.{processor_of}
use Rattle.mt_cpu.proofs.Facts.{lent, with_same_entries}
use Rattle.mt_cpu.proofs.Translations.{stands, kept_made}
use Rattle.mt_cpu.proofs.cpu.Cpu.entry.Goals as goal

pub returns-in-Some-clause-after : goal.returns-in-Some-clause-after
returns-in-Some-clause-after g c =
    let p = processor_of c.deref_mut.result.now in
    let seen = ap processor_of c.deref_mut.ensures.value ∙ c.self.view_is in
    let s = stands (g.P.PageKinds.type_at c.args.kinds.now) p c.args.vpage _ (lent _ _ c.deref_mut.ensures.value c.self.invariant) c.in-Some.ensures.place c.in-Some.ensures.entry in
    with_same_entries p c.find.new.self c.find.ensures.kept ∙ seen
    ∙ subst (λ (q : Processor). q ≡ option_map_or (λ e. keep_entry e q) (entry_by (g.P.PageKinds.type_at c.args.kinds.now) q c.args.vpage) q) seen s.after

pub returns-in-Some-clause-unmapped : goal.returns-in-Some-clause-unmapped
returns-in-Some-clause-unmapped g c =
    let p = processor_of c.deref_mut.result.now in
    let seen = ap processor_of c.deref_mut.ensures.value ∙ c.self.view_is in
    let s = stands (g.P.PageKinds.type_at c.args.kinds.now) p c.args.vpage _ (lent _ _ c.deref_mut.ensures.value c.self.invariant) c.in-Some.ensures.place c.in-Some.ensures.entry in
    (λ h. absurd (cc), λ none. absurd (s.mapped (ap (λ (q : Processor). find_mapping c.args.vpage q.mappings) seen ∙ none)))

pub returns-clause-after : goal.returns-clause-after
returns-clause-after g c =
    let p = processor_of c.deref_mut.result.now in
    let seen = with_same_entries p c.find.new.self c.find.ensures.kept ∙ ap processor_of c.deref_mut.ensures.value ∙ c.self.view_is in
    subst (λ (q : Processor). c.fill.new.self ≡ option_map_or (λ e. keep_entry e q) (entry_by (g.P.PageKinds.type_at c.args.kinds.now) q c.args.vpage) q) seen
    (kept_made (g.P.PageKinds.type_at c.args.kinds.now) _ c.fill.new.self c.args.vpage c.fill.result
    (ap (find_entry c.args.vpage) c.find.ensures.kept ∙ no_position (has_page c.args.vpage) p.entries (sym c.find.ensures.value ∙ none_of _ c.in_default.not-Some))
    c.fill.ensures.entry c.fill.ensures.filled c.fill.ensures.kept)
