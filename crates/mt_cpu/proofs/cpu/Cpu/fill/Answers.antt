use Rattle.std.proofs.Common.{◌≡◌, ◌∙◌, ap, subst, Some}
use Rattle.std.specs.Option.{option_map}
use Rattle.mt_tlb.specs.Entries.{find_entry, find_mapping}
use Rattle.mt_machine.specs.System.{Processor}
use Rattle.mt_cpu.specs.Kinds.{new_entry_by}
use Rattle.mt_cpu.specs.State.{processor_of}
use Rattle.mt_cpu.proofs.Facts.{filled, lent, same_mappings}
use Rattle.mt_cpu.proofs.Translations.{made}
use Rattle.mt_cpu.proofs.cpu.Cpu.fill.Goals as goal

pub fill-requires : goal.fill-requires
fill-requires g c =
    let p = processor_of c.deref_mut-state.result.now in
    let seen = ap processor_of c.deref_mut-state.ensures.value ∙ c.self.view_is in
    let facts = lent _ _ c.deref_mut-state.ensures.value c.self.invariant in
    let m = made (g.P.PageKinds.type_at c.args.kinds.now) p c.args.vpage _ _ _ _ facts c.in_ok-i.ensures.place c.in_ok-i.ensures.mapping (c.list.ensures.value ∙ c.find.ensures.kept) c.new_entry-entry.ensures in
    ap (λ n. find_entry n p.entries) m.page_is
    ∙ ap (λ (q : Processor). find_entry c.args.vpage q.entries) seen ∙ c.requires.absent

pub invariant_of-self : goal.invariant_of-self
invariant_of-self g c = same_mappings (processor_of c.deref_mut-state.result.now) c.find.new.self c.find.ensures.kept (lent _ _ c.deref_mut-state.ensures.value c.self.invariant)

pub invariant_of-self-2 : goal.invariant_of-self-2
invariant_of-self-2 g c =
    let p = processor_of c.deref_mut-state.result.now in
    let seen = ap processor_of c.deref_mut-state.ensures.value ∙ c.self.view_is in
    let facts = lent _ _ c.deref_mut-state.ensures.value c.self.invariant in
    let m = made (g.P.PageKinds.type_at c.args.kinds.now) p c.args.vpage _ _ _ _ facts c.in_ok-i.ensures.place c.in_ok-i.ensures.mapping (c.list.ensures.value ∙ c.find.ensures.kept) c.new_entry-entry.ensures in
    same_mappings _ c.find.new.self c.find.ensures.kept
    (rw c.fill.ensures (filled c.new_entry-entry.result p (ap (λ (q : Processor). q.phase) seen ∙ c.requires.running) m.local m.mapped m.physical facts))

pub returns-clause-entry : goal.returns-clause-entry
returns-clause-entry g c =
    let p = processor_of c.deref_mut-state.result.now in
    let seen = ap processor_of c.deref_mut-state.ensures.value ∙ c.self.view_is in
    let facts = lent _ _ c.deref_mut-state.ensures.value c.self.invariant in
    let m = made (g.P.PageKinds.type_at c.args.kinds.now) p c.args.vpage _ _ _ _ facts c.in_ok-i.ensures.place c.in_ok-i.ensures.mapping (c.list.ensures.value ∙ c.find.ensures.kept) c.new_entry-entry.ensures in
    subst (λ (q : Processor). Some c.new_entry-entry.result ≡ option_map (new_entry_by (g.P.PageKinds.type_at c.args.kinds.now) q) (find_mapping c.args.vpage q.mappings)) seen m.is
