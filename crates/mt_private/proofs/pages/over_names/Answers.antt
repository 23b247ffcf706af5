use Rattle.std.proofs.Common.{◌≡◌, ◌∙◌, ap, Option, ℕ}
use Rattle.std.specs.List.{fold}
use Rattle.mt_cache.specs.declared.line.CacheLine.{CacheLine}
use Rattle.mt_tlb.specs.declared.entry.Entry.{Entry}
use Rattle.mt_tlb.specs.declared.mapping.Mapping.{Mapping}
use Rattle.mt_private.specs.Pages.{better, is_shared, page_of_line}
use Rattle.mt_private.proofs.pages.over_names.Goals as goal

pub returns : goal.returns
returns c =
    let shared = is_shared c.args.cpus.now in
    let p = c.args.cpu.now in
    let maps : c.list.result.now ≡ p.mappings = c.list.ensures.value ∙ c.maps.ensures in
    let entries : c.entries.result.now ≡ p.entries = c.entries.ensures.value ∙ c.tlb.ensures in
    let buffers : c.lines.result.now ≡ p.buffers = c.lines.ensures.value ∙ c.buffers.ensures in
    let mapped = c.over_pages-mapped.ensures ∙ ap (fold (λ (b : Option ℕ) (m : Mapping). better shared b m.ppage) c.args.best) maps in
    let translated = c.over_pages-translated.ensures ∙ (λ i. fold (λ (b : Option ℕ) (e : Entry). better shared b e.ppage) (mapped i) (entries i)) in
    let cached = c.over_cached-cached.ensures ∙ (λ i. fold (λ (b : Option ℕ) (l : CacheLine). better shared b (page_of_line l)) (translated i) (c.cache.ensures i)) in
    c.over_pages.ensures ∙ (λ i. fold (λ (b : Option ℕ) (l : CacheLine). better shared b (page_of_line l)) (cached i) (buffers i))
