-- A processor whose translation fills an entry.
use Rattle.std.proofs.Common.{◌≡◌, ◌∙◌, ap, refl, sym, ℕ, zero, suc, ◌/◌, List, [], ◌∷◌, Option, None, Some, slice_get, slice_set}
use Rattle.std.specs.Option.{option_map, option_map_or}
use Rattle.mt_kinds.specs.declared.mem_type.MemType.{MemType}
use Rattle.mt_regs.specs.RegisterFile.{RegisterFile}
use Rattle.mt_regs.specs.PageTypes.{defined_type}
use Rattle.mt_types.specs.Tables.{IsTableOf, TypeTable, type_in}
use Rattle.mt_tlb.specs.declared.entry.Entry.{Entry}
use Rattle.mt_machine.specs.System.{Processor, System, change}
use Rattle.mt_machine.specs.Access.{entry_of, keep_entry, physical}
use Rattle.mt_cpu.specs.Kinds.{AgreesWith, entry_by}
use Rattle.mt_cpu.proofs.Translations.{entry_same}
use Rattle.mt_laws.proofs.Items.{set_same}
use Rattle.mt_laws.specs.Parts.{entry_in, system, with_changed}
use Rattle.mt_bus.specs.Tables.{IsTranslatedBy}
use Rattle.mt_bus.proofs.Changed.{changed_is, changed_there}

entered : (ps : List Processor) (k va : ℕ) (p q : Processor) → slice_get ps k ≡ Some p → q ≡ option_map_or (λ e. keep_entry e p) (entry_of p (va / 4096)) p
    → slice_set ps k q ≡ option_map_or (λ e. with_changed (keep_entry e) k ps) (entry_in k va ps) ps
entered ps k va p q at made =
    ap (slice_set ps k) made
    ∙ one (entry_of p (va / 4096))
    ∙ ap (λ o. option_map_or (λ e. with_changed (keep_entry e) k ps) o ps) (sym (ap (λ o. option_map_or (λ (x : Processor). entry_of x (va / 4096)) o None) at))
  where
    one : (o : Option Entry) → slice_set ps k (option_map_or (λ e. keep_entry e p) o p) ≡ option_map_or (λ e. with_changed (keep_entry e) k ps) o ps
    one None = set_same ps k p at
    one (Some e) = sym (changed_there (keep_entry e) k ps p at)

-- ---- over a table

agrees : (f : RegisterFile) (t : TypeTable) → IsTableOf f t → AgreesWith (type_in t.parts) f
agrees f t h page within = sym (ap defined_type (h.types page within))

same_entry : (p : Processor) (t : TypeTable) (page : ℕ) → IsTranslatedBy p t → entry_by (type_in t.parts) p page ≡ entry_of p page
same_entry p t page h = entry_same (type_in t.parts) p page (agrees p.file t h.table) h.pages

entered_by : (ps : List Processor) (k va : ℕ) (p q : Processor) (t : TypeTable) → slice_get ps k ≡ Some p → IsTranslatedBy p t
    → q ≡ option_map_or (λ e. keep_entry e p) (entry_by (type_in t.parts) p (va / 4096)) p
    → slice_set ps k q ≡ option_map_or (λ e. with_changed (keep_entry e) k ps) (entry_in k va ps) ps
entered_by ps k va p q t at h made =
    entered ps k va p q at (made ∙ ap (λ (o : Option Entry). option_map_or (λ e. keep_entry e p) o p) (same_entry p t (va / 4096) h))

pub entered_in : (s : System) (k va : ℕ) (p q : Processor) (t : TypeTable) → slice_get s.processors k ≡ Some p → IsTranslatedBy p t
    → q ≡ option_map_or (λ e. keep_entry e p) (entry_by (type_in t.parts) p (va / 4096)) p
    → record s { processors = slice_set s.processors k q } ≡ option_map_or (λ e. change (keep_entry e) k s) (entry_in k va s.processors) s
entered_in s k va p q t at h made = ap (λ ps. system ps s.memory) (entered_by s.processors k va p q t at h made) ∙ one (entry_in k va s.processors)
  where
    one : (o : Option Entry) → system (option_map_or (λ e. with_changed (keep_entry e) k s.processors) o s.processors) s.memory ≡ option_map_or (λ e. change (keep_entry e) k s) o s
    one None = refl
    one (Some e) = changed_is (keep_entry e) k s.processors s.memory

pub answered_by : (ps : List Processor) (k va : ℕ) (p : Processor) (t : TypeTable) (result : Option (ℕ × MemType)) → slice_get ps k ≡ Some p → IsTranslatedBy p t
    → result ≡ option_map (λ e. (physical e va, e.kind)) (entry_by (type_in t.parts) p (va / 4096))
    → result ≡ option_map (λ e. (physical e va, e.kind)) (entry_in k va ps)
answered_by ps k va p t result at h is =
    is ∙ ap (option_map (λ e. (physical e va, e.kind))) (same_entry p t (va / 4096) h ∙ sym (ap (λ o. option_map_or (λ (x : Processor). entry_of x (va / 4096)) o None) at))
