-- A load that misses.
use Rattle.std.proofs.Common.{◌≡◌, ◌∙◌, ap, sym, refl, arith, ℕ, zero, suc, ◌+◌, ◌/◌, ◌&&◌, Bool, true, false, not, if◌then◌else◌, List, [], ◌∷◌, map, None, Some, slice_get, slice_index}
use Rattle.std.proofs.lemmas.Bool.{eq-eqb}
use Rattle.std.specs.Option.{option_map_or}
use Rattle.mt_kinds.specs.declared.mem_type.MemType.{MemType}
use Rattle.mt_cache.specs.declared.line.CacheLine.{CacheLine}
use Rattle.mt_cache.specs.Lines.{change_line, clean_line, find_line, without_line}
use Rattle.mt_machine.specs.Memory.{word_at, word_of}
use Rattle.mt_machine.specs.System.{Processor, System, lines_of}
use Rattle.mt_machine.specs.Bus.{bus_read, fill_line, invalidate_others, others_from, with_lines}
use Rattle.mt_machine.specs.Access.{cache_disabled_of, hit_of, is_cached, load_after}
use Rattle.mt_laws.specs.Parts.{lines_in}
use Rattle.mt_bus.proofs.Lines.{change_absent}

mapped_lines : (n : ℕ) (f : CacheLine → CacheLine) (ps : List Processor) (k : ℕ) → lines_in k (map (with_lines (change_line n f)) ps) ≡ change_line n f (lines_in k ps)
mapped_lines n f [] k = refl
mapped_lines n f (p ∷ ps) zero = refl
mapped_lines n f (p ∷ ps) (suc k) = mapped_lines n f ps k

pub absent_read : (n k : ℕ) (s t : System) → t ≡ bus_read n s → find_line n (lines_of s k) ≡ None → find_line n (lines_of t k) ≡ None
absent_read n k s t read absent =
    ap (λ (x : System). find_line n (lines_of x k)) read
    ∙ ap (find_line n) (mapped_lines n clean_line s.processors k ∙ change_absent n clean_line (lines_of s k) absent)
    ∙ absent

pub cached_missed : (t : MemType) (k n : ℕ) (s : System) → hit_of t k n s ≡ None → is_cached t ≡ true → find_line n (lines_of s k) ≡ None
cached_missed t k n s missed cached = sym (ap (λ b. if b then find_line n (lines_of s k) else None) cached) ∙ missed

and_first : (a b : Bool) → (a && b) ≡ true → a ≡ true
and_first true b e = refl
and_first false b e = e

pub filled_missed : (t : MemType) (k n : ℕ) (s : System) (fills : Bool) → hit_of t k n s ≡ None → fills ≡ (is_cached t && not (cache_disabled_of s k)) → fills ≡ true
    → find_line n (lines_of s k) ≡ None
filled_missed t k n s fills missed is filled = cached_missed t k n s missed (and_first (is_cached t) (not (cache_disabled_of s k)) (sym is ∙ filled))

pub load_missed : (t : MemType) (k a v : ℕ) (s r : System) (fills : Bool) (after : System) → hit_of t k (a / 64) s ≡ None → r ≡ bus_read (a / 64) s → v ≡ word_at r.memory a
    → fills ≡ (is_cached t && not (cache_disabled_of s k)) → after ≡ (if fills then fill_line k (a / 64) r else r) → (v, after) ≡ load_after t k a s
load_missed t k a v s r fills after missed read value is then' =
    let pair : ℕ → System → ℕ × System = λ x y. (x, y) in
    ap (λ x. pair x after) (value ∙ ap (λ (u : System). word_at u.memory a) read)
    ∙ ap (pair (word_at (bus_read (a / 64) s).memory a))
    (then' ∙ ap (λ u. if fills then fill_line k (a / 64) u else u) read ∙ ap (λ b. if b then fill_line k (a / 64) (bus_read (a / 64) s) else bus_read (a / 64) s) is)
    ∙ sym (ap (λ o. option_map_or (λ (l : CacheLine). pair (slice_index l.words (word_of a)) s) o
    (pair (word_at (bus_read (a / 64) s).memory a) (if is_cached t && not (cache_disabled_of s k) then fill_line k (a / 64) (bus_read (a / 64) s) else bus_read (a / 64) s))) missed)

-- ---- what is done to the others leaves the own lines

own_kept : (f : Processor → Processor) (i j k : ℕ) (ps : List Processor) → k ≡ i + j → slice_get (others_from i k f ps) j ≡ slice_get ps j
own_kept f i j k [] e = refl
own_kept f i zero k (p ∷ ps) e = ap (λ b. Some (if b then p else f p)) (eq-eqb i k (omega arith))
own_kept f i (suc j) k (p ∷ ps) e = own_kept f (i + 1) j k ps (omega arith)

absent_others : (n k : ℕ) (f : Processor → Processor) (ps qs : List Processor) → qs ≡ others_from 0 k f ps → find_line n (lines_in k ps) ≡ None → find_line n (lines_in k qs) ≡ None
absent_others n k f ps qs is absent =
    ap (λ xs. find_line n (lines_in k xs)) is
    ∙ ap (λ o. find_line n (option_map_or (λ (p : Processor). p.lines) o [])) (own_kept f 0 k k ps (omega arith))
    ∙ absent

pub absent_after : (n k : ℕ) (s t : System) → t ≡ invalidate_others k n (bus_read n s) → find_line n (lines_of s k) ≡ None → find_line n (lines_of t k) ≡ None
absent_after n k s t is absent =
    let read : System = bus_read n s in
    absent_others n k (with_lines (without_line n)) read.processors t.processors (ap (λ (x : System). x.processors) is) (absent_read n k s read refl absent)
