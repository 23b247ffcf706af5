-- A processor of a list, and the list with that processor changed.
use Rattle.std.proofs.Common.{◌≡◌, ◌∙◌, ap, refl, sym, arith, ℕ, zero, suc, ◌<◌, List, [], ◌∷◌, length, Option, None, Some, slice_get, slice_index_or, slice_set}
use Rattle.std.proofs.lemmas.Option.{slice_get-get_or}
use Rattle.std.specs.Option.{option_map_or}
use Rattle.mt_machine.specs.Memory.{Memory}
use Rattle.mt_machine.specs.System.{Processor, System, change, lines_of}
use Rattle.mt_cache.specs.declared.line.CacheLine.{CacheLine}
use Rattle.mt_laws.proofs.Words.AccessLaws.{change_at}
use Rattle.mt_laws.specs.Parts.{system, with_changed, without_memory}

-- the processor of a place within
pub processor_of : (ps : List Processor) (k : ℕ) → k < length ps → (p : Processor) × (slice_get ps k ≡ Some p)
processor_of [] k within = absurd (omega arith)
processor_of (p ∷ ps) zero within = (p, refl)
processor_of (p ∷ ps) (suc k) within = processor_of ps k (omega arith)

-- an element that is lent
pub lent_at : (ps : List Processor) (k : ℕ) (p : Processor) → k < length ps → p ≡ slice_index_or ps k p → slice_get ps k ≡ Some p
lent_at ps k p within lent = slice_get-get_or ps k p within ∙ ap Some (sym lent)

pub seen_at : (s : System) (ps : List Processor) (m : Memory) (k : ℕ) (p : Processor) → system ps m ≡ s → k < length ps → p ≡ slice_index_or ps k p → slice_get s.processors k ≡ Some p
seen_at s ps m k p is within lent = ap (λ (x : System). slice_get x.processors k) (sym is) ∙ lent_at ps k p within lent

pub lines_lent : (s : System) (ps : List Processor) (m : Memory) (k : ℕ) (p : Processor) (ls : List CacheLine) → system ps m ≡ s → k < length ps → p ≡ slice_index_or ps k p
    → ls ≡ p.lines → lines_of s k ≡ ls
lines_lent s ps m k p ls is within lent own =
    ap (λ (x : System). lines_of x k) (sym is)
    ∙ ap (λ (o : Option Processor). option_map_or (λ x. x.lines) o []) (lent_at ps k p within lent)
    ∙ sym own

pub set_there : (ps : List Processor) (k : ℕ) (p q : Processor) → slice_get ps k ≡ Some p → slice_get (slice_set ps k q) k ≡ Some q
set_there [] k p q at = absurd (cc)
set_there (x ∷ ps) zero p q at = refl
set_there (x ∷ ps) (suc k) p q at = set_there ps k p q at

pub changed_there : (f : Processor → Processor) (k : ℕ) (ps : List Processor) (p : Processor) → slice_get ps k ≡ Some p → with_changed f k ps ≡ slice_set ps k (f p)
changed_there f k ps p at = ap (λ (o : Option Processor). (option_map_or (λ q. record (without_memory ps) { processors = slice_set ps k (f q) }) o (without_memory ps)).processors) at

-- in the system it is mt_machine's change
pub changed_is : (f : Processor → Processor) (k : ℕ) (ps : List Processor) (m : Memory) → system (with_changed f k ps) m ≡ change f k (system ps m)
changed_is f k ps m = one (slice_get ps k)
  where
    one : (o : Option Processor)
        → system (option_map_or (λ p. record (without_memory ps) { processors = slice_set ps k (f p) }) o (without_memory ps)).processors m
        ≡ option_map_or (λ p. record (system ps m) { processors = slice_set ps k (f p) }) o (system ps m)
    one None = refl
    one (Some p) = refl

-- past the first it is a change of the rest
pub changed_later : (f : Processor → Processor) (p : Processor) (ps : List Processor) (k : ℕ) → with_changed f (suc k) (p ∷ ps) ≡ p ∷ with_changed f k ps
changed_later f p ps k = one (slice_get ps k)
  where
    one : (o : Option Processor)
        → (option_map_or (λ q. record (without_memory (p ∷ ps)) { processors = slice_set (p ∷ ps) (suc k) (f q) }) o (without_memory (p ∷ ps))).processors
        ≡ p ∷ (option_map_or (λ q. record (without_memory ps) { processors = slice_set ps k (f q) }) o (without_memory ps)).processors
    one None = refl
    one (Some q) = refl

-- a processor that is lent and changed
pub changed_in : (f : Processor → Processor) (k : ℕ) (s : System) (ps : List Processor) (m : Memory) (p q : Processor) → system ps m ≡ s → k < length ps → p ≡ slice_index_or ps k p
    → q ≡ f p → system (slice_set ps k q) m ≡ change f k s
changed_in f k s ps m p q is within lent made =
    ap (λ (x : Processor). system (slice_set ps k x) m) made ∙ sym (change_at f k (system ps m) p (lent_at ps k p within lent)) ∙ ap (change f k) is
