-- A fence goes by lines, buffers and memory alone: it acts the same whatever a processor's phase.
use Rattle.std.proofs.Common.{◌≡◌, ℕ, List, [], ◌∷◌, set, Some, None, Option, refl, sym, ap, ◌∙◌}
use Rattle.std.specs.Prelude.{slice_get, map}
use Rattle.std.specs.List.{fold}
use Rattle.std.specs.Option.{option_map_or, option_map}
use Rattle.std.proofs.lemmas.List.{map-set}
use Rattle.std.proofs.lemmas.Option.{slice_get-map}
use Rattle.mt_cache.specs.declared.line.CacheLine.{CacheLine}
use Rattle.mt_machine.specs.declared.phase.Phase.TheVariants.{Running}
use Rattle.mt_machine.specs.Memory.{Memory, write_back, write_back_of}
use Rattle.mt_cache.specs.Lines.{change_line, clean_line, without_line}
use Rattle.mt_machine.specs.System.{Processor, System, change, buffers_of}
use Rattle.mt_machine.specs.Bus.{with_lines, with_buffers, bus_read, invalidate, empty_buffer, drain}

-- the processor, but for its phase
abbrev pub erased : Processor → Processor
erased p = record p { phase = Running }

abbrev pub erase : System → System
erase s = record { processors = map erased s.processors; memory = s.memory }

map_commutes : (f : Processor → Processor) → ((p : Processor) → f (erased p) ≡ erased (f p)) → (ps : List Processor) → map f (map erased ps) ≡ map erased (map f ps)
map_commutes f same [] = refl
map_commutes f same (p ∷ ps) = λ i. same p i ∷ map_commutes f same ps i

fold_same : (n : ℕ) (ps : List Processor) (m : Memory) → fold (λ m p. write_back_of n m p.lines) m (map erased ps) ≡ fold (λ m p. write_back_of n m p.lines) m ps
fold_same n [] m = refl
fold_same n (p ∷ ps) m = fold_same n ps (write_back_of n m p.lines)

read_erased : (n : ℕ) (s : System) → bus_read n (erase s) ≡ erase (bus_read n s)
read_erased n s = λ i. record { processors = map_commutes (with_lines (change_line n clean_line)) (λ p. refl) s.processors i; memory = fold_same n s.processors s.memory i }

invalidate_erased : (n : ℕ) (s : System) → invalidate n (erase s) ≡ erase (invalidate n s)
invalidate_erased n s = λ i. record { processors = map_commutes (with_lines (without_line n)) (λ p. refl) s.processors i; memory = s.memory }

empty_erased : (s : System) (b : CacheLine) → empty_buffer (erase s) b ≡ erase (empty_buffer s b)
empty_erased s b =
    ap (λ (t : System). record (invalidate b.number t) { memory = write_back (invalidate b.number t).memory b }) (read_erased b.number s)
    ∙ ap (λ (t : System). record t { memory = write_back t.memory b }) (invalidate_erased b.number (bus_read b.number s))

empties_erased : (bs : List CacheLine) (s : System) → fold empty_buffer (erase s) bs ≡ erase (fold empty_buffer s bs)
empties_erased [] s = refl
empties_erased (b ∷ bs) s = ap (λ (t : System). fold empty_buffer t bs) (empty_erased s b) ∙ empties_erased bs (empty_buffer s b)

pub change_erased : (f : Processor → Processor) → ((p : Processor) → f (erased p) ≡ erased (f p)) → (k : ℕ) (s : System) → change f k (erase s) ≡ erase (change f k s)
change_erased f same k s =
    ap (λ (o : Option Processor). option_map_or (λ p. record (erase s) { processors = set (map erased s.processors) k (f p) }) o (erase s)) (slice_get-map erased s.processors k)
    ∙ one (slice_get s.processors k)
  where
    one : (o : Option Processor) → option_map_or (λ p. record (erase s) { processors = set (map erased s.processors) k (f p) }) (option_map erased o) (erase s) ≡ erase (option_map_or (λ p. record s { processors = set s.processors k (f p) }) o s)
    one None = refl
    one (Some p) =
        ap (λ (q : Processor). record (erase s) { processors = set (map erased s.processors) k q }) (same p)
        ∙ ap (λ (ps : List Processor). record { processors = ps; memory = s.memory }) (sym (map-set erased s.processors k (f p)))

buffers_erased : (k : ℕ) (s : System) → buffers_of (erase s) k ≡ buffers_of s k
buffers_erased k s =
    ap (λ (o : Option Processor). option_map_or (λ p. p.buffers) o []) (slice_get-map erased s.processors k)
    ∙ one (slice_get s.processors k)
  where
    one : (o : Option Processor) → option_map_or (λ p. p.buffers) (option_map erased o) [] ≡ option_map_or (λ p. p.buffers) o []
    one None = refl
    one (Some p) = refl

-- a fence of a system without its phases
pub drain_erased : (k : ℕ) (s : System) → drain k (erase s) ≡ erase (drain k s)
drain_erased k s =
    ap (λ bs. change (with_buffers (λ _. [])) k (fold empty_buffer (erase s) bs)) (buffers_erased k s)
    ∙ ap (change (with_buffers (λ _. [])) k) (empties_erased (buffers_of s k) s)
    ∙ change_erased (with_buffers (λ _. [])) (λ p. refl) k (fold empty_buffer s (buffers_of s k))
