-- No event adds a line to a cache, and a processor that drops its lines needs no bit.
use Rattle.std.proofs.Common.{◌≡◌, ◌∙◌, ap, sym, refl, subst, ℕ, ◌/◌, Bool, false, true, if◌then◌else◌, List, []}
use Rattle.mt_regs.specs.RegisterFile.{RegisterFile}
use Rattle.mt_cache.specs.Lines.{clean_word}
use Rattle.mt_machine.specs.declared.phase.Phase.{Phase}
use Rattle.mt_machine.specs.declared.phase.Phase.TheVariants.{Flushed2}
use Rattle.mt_machine.specs.declared.event.Event.{Event}
use Rattle.mt_machine.specs.declared.event.Event.TheVariants.{DropLines, FlushTlb, WriteBack}
use Rattle.mt_machine.specs.Memory.{word_of}
use Rattle.mt_machine.specs.System.{Processor}
use Rattle.mt_machine.specs.Machine.{flush_tlb, own_step}
use Rattle.mt_machine.specs.Control.{reload_cr3}
use Rattle.mt_laws.specs.Parts.{with_changed}
use Rattle.mt_bus.specs.Holders.{AreHeldBy, CoversOthers, all_may}
use Rattle.mt_bus.proofs.Held.{held_changed, held_emptied, less_changed}

flush_lines : (ph : Phase) (p : Processor) → (flush_tlb ph p).lines ≡ p.lines
flush_lines Flushed2 p = refl
flush_lines other p = one p.page_global
  where
    one : (b : Bool) → (if b then record p { remembered_global = true; page_global = false; entries = [] } else record (reload_cr3 p) { remembered_global = false }).lines ≡ p.lines
    one true = refl
    one false = refl

own_less : (goal : RegisterFile) (e : Event) (masks : List ℕ) (k : ℕ) (p : Processor) → all_may masks k p.lines ≡ true → all_may masks k (own_step goal e p).lines ≡ true
own_less goal (WriteBack address value) masks k p h = less_changed (address / 64) (clean_word (word_of address)) (λ l. refl) p.lines masks k h
own_less goal DropLines masks k p h = refl
own_less goal FlushTlb masks k p h = ap (all_may masks k) (flush_lines p.phase p) ∙ h
own_less goal e masks k p h = h

pub held_stepped : (goal : RegisterFile) (e : Event) (k : ℕ) (ps qs : List Processor) (masks : List ℕ)
    → qs ≡ with_changed (own_step goal e) k ps → AreHeldBy ps masks → AreHeldBy qs masks
held_stepped goal e k ps qs masks is h =
    subst (λ (xs : List Processor). AreHeldBy xs masks) (sym is) (held_changed (own_step goal e) k ps masks (own_less goal e masks k) h)

pub held_after : (goal : RegisterFile) (e : Event) (k : ℕ) (ps qs : List Processor) (masks news : List ℕ) → qs ≡ with_changed (own_step goal e) k ps
    → (e ≡ DropLines → CoversOthers k news masks) → ((e ≡ DropLines → ⊥) → news ≡ masks) → AreHeldBy ps masks → AreHeldBy qs news
held_after goal DropLines k ps qs masks news is drops stays h =
    subst (λ (xs : List Processor). AreHeldBy xs news) (sym is) (held_emptied (own_step goal DropLines) k ps news masks (λ p. refl) (drops refl) h)
held_after goal e k ps qs masks news is drops stays h = subst (AreHeldBy qs) (sym (stays (λ d. cc d))) (held_stepped goal e k ps qs masks is h)
